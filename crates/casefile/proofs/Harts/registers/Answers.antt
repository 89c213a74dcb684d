use Rattle.std.proofs.Common.{arith, ◌/◌, ◌%◌}
use Rattle.casefile.specs.Harts.{register_of}
use Rattle.casefile.proofs.HartsLaws.{filled_more}
use Rattle.casefile.proofs.Harts.registers.Goals as goal

pub loop-i-preserved : goal.loop-i-preserved
loop-i-preserved c =
    filled_more (λ i. register_of c.args.self.body.now (i / 32) (i % 32)) 256 _ _ _ (omega arith) c.loop-i.invariant c.register.ensures
