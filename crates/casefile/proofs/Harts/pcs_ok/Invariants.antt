use Rattle.std.proofs.Common.{◌≡◌, ◌%◌, true}
use Rattle.std.specs.Prelude.{eqb}
use Rattle.word.specs.Each.{all_below}
use Rattle.casefile.specs.Harts.{pc_of}
use Rattle.casefile.proofs.Harts.pcs_ok.Given as goal

abbrev pub invariant-loop-h : goal.invariant-loop-h
invariant-loop-h l = all_below (λ k. eqb (pc_of l.self.body.now k % 4) 0) l.h ≡ true
