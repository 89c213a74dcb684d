use Rattle.std.proofs.Common.{◌≡◌}
use Rattle.word.specs.Each.{each}
use Rattle.event_table.specs.Build.{filler}
use Rattle.event_table.proofs.build.fill.Given as goal

abbrev pub invariant-loop-i : goal.invariant-loop-i
invariant-loop-i l = l.mem ≡ each (λ k _. filler k) l.i l.initial.mem
