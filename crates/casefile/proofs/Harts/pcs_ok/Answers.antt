use Rattle.std.proofs.Common.{rules, arith, sym}
use Rattle.word.proofs.EachLaws.{all_fails}
use Rattle.casefile.proofs.Harts.pcs_ok.Goals as goal

pub returns-then-pc-ne0 : goal.returns-then-pc-ne0
returns-then-pc-ne0 c = sym (all_fails _ c.loop-h.h _ (omega arith) (search rules))
