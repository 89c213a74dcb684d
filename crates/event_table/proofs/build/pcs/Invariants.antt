use Rattle.std.proofs.Common.{◌≡◌, replicate}
use Rattle.word.specs.Each.{each}
use Rattle.event_table.specs.Build.{pc_at}
use Rattle.event_table.proofs.build.pcs.Given as goal

abbrev pub invariant-loop-h : goal.invariant-loop-h
invariant-loop-h l = l.value-items ≡ each (λ k _. pc_at l.count l.base l.x k) l.h (replicate 8 0)
