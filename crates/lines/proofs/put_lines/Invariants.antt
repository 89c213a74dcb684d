use Rattle.std.proofs.Common.{◌≡◌, ℕ, ◌+◌, ◌*◌, ◌/◌, ◌≤◌, List, length, drop}
use Rattle.text.specs.Put.{Put}
use Rattle.events.specs.Events.{events_of}
use Rattle.model.specs.Perform.{run_of}
use Rattle.model.specs.Valid.{Valid}
use Rattle.lines.specs.Lines.{lines_of, behind}
use Rattle.lines.proofs.put_lines.Given as goal

abbrev pub invariant-loop-i : goal.invariant-loop-i
invariant-loop-i l =
    let left = l.i-iterator.iter in
    let i = l.i-iterator.count in
    (l.p ≤ l.at + 95 * i)
    × Valid l.base (behind l.state l.from l.out)
    × ((o : List ℕ) (r : ℕ) → Put l.out l.p (lines_of l.base (behind l.state l.from l.out) i (events_of left.rest.now)) o r
    → Put l.initial.out l.at (lines_of l.base (behind l.initial.state l.from l.initial.out) 0 (events_of l.body)) o r)
    × (run_of l.base (behind l.state l.from l.out) (events_of left.rest.now)
    ≡ run_of l.base (behind l.initial.state l.from l.initial.out) (events_of l.body))
    × (left.size ≡ 24)
    × (i + length left.rest.now / 24 ≡ length l.body / 24)
