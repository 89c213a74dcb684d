use Rattle.std.proofs.Common.{◌≡◌, replicate}
use Rattle.word.specs.Each.{each}
use Rattle.event_table.specs.Build.{default_at, register_at}
use Rattle.event_table.proofs.build.registers.Given as goal

abbrev pub invariant-loop-i : goal.invariant-loop-i
invariant-loop-i l = (l.v ≡ default_at l.i) × (l.value-items ≡ each (λ k _. register_at l.count k) l.i (replicate 256 0))
