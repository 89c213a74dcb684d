use Rattle.std.proofs.Common.{◌≡◌}
use Rattle.std.specs.Prelude.{replicate}
use Rattle.word.specs.Each.{each}
use Rattle.casefile.specs.Harts.{pc_of}
use Rattle.casefile.proofs.Harts.pcs.Given as goal

abbrev pub invariant-loop-h : goal.invariant-loop-h
invariant-loop-h l = l.pc ≡ each (λ k _. pc_of l.self.body.now k) l.h (replicate 8 0)
