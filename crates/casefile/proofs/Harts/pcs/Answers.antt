use Rattle.std.proofs.Common.{arith}
use Rattle.casefile.specs.Harts.{pc_of}
use Rattle.casefile.proofs.HartsLaws.{filled_more}
use Rattle.casefile.proofs.Harts.pcs.Goals as goal

pub loop-h-preserved : goal.loop-h-preserved
loop-h-preserved c = filled_more (pc_of c.args.self.body.now) 8 _ _ _ (omega arith) c.loop-h.invariant c.pc.ensures
