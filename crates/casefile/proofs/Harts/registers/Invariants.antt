use Rattle.std.proofs.Common.{◌≡◌, ◌/◌, ◌%◌}
use Rattle.std.specs.Prelude.{replicate}
use Rattle.word.specs.Each.{each}
use Rattle.casefile.specs.Harts.{register_of}
use Rattle.casefile.proofs.Harts.registers.Given as goal

abbrev pub invariant-loop-i : goal.invariant-loop-i
invariant-loop-i l = l.x ≡ each (λ k _. register_of l.self.body.now (k / 32) (k % 32)) l.i (replicate 256 0)
