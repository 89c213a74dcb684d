use Rattle.std.proofs.Common.{◌≡◌, ◌^◌, true}
use Rattle.std.specs.Prelude.{ltb}
use Rattle.word.specs.Each.{all_below}
use Rattle.casefile.specs.Harts.{number_of}
use Rattle.casefile.proofs.Harts.halves_ok.Given as goal

abbrev pub invariant-loop-i : goal.invariant-loop-i
invariant-loop-i l = all_below (λ k. ltb (number_of l.self.body.now k) (2 ^ 32)) l.i ≡ true
