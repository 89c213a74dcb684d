use Rattle.std.proofs.Common.{◌≡◌}
use Rattle.word.specs.Each.{each}
use Rattle.reserve.specs.Reserve.{broken_of}
use Rattle.reserve.specs.Harts.{write_notice, break_slot}
use Rattle.reserve.proofs.harts.break_all.Given as goal

abbrev pub invariant-loop-k : goal.invariant-loop-k
invariant-loop-k l =
    (l.res ≡ each (break_slot l.settings (write_notice l.w)) l.k l.initial.res)
    × (l.broken ≡ broken_of l.settings (write_notice l.w) l.k l.initial.res)
