use Rattle.std.proofs.Common.{◌≡◌, ◌*◌, ◌≤◌, length}
use Rattle.events.specs.Events.{first_events}
use Rattle.model.specs.Perform.{run_of}
use Rattle.model.specs.Valid.{Valid}
use Rattle.model.proofs.run.perform_first.Given as goal

abbrev pub invariant-loop-bytes : goal.invariant-loop-bytes
invariant-loop-bytes l =
    let left = l.bytes-iterator.iter in
    let n = l.bytes-iterator.n in
    Valid l.base (record { state = l.s; mem = l.mem })
    × (left.size ≡ 24)
    × (n * 24 ≤ length left.rest.now)
    × (run_of l.base (record { state = l.s; mem = l.mem }) (first_events n left.rest.now)
    ≡ run_of l.base (record { state = l.initial.s; mem = l.initial.mem }) (first_events l.n l.body))
