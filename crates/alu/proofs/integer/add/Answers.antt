use Rattle.std.proofs.Common.{◌+◌, ◌∙◌}
use Rattle.word.proofs.WordLaws.{low-low}
use Rattle.alu.proofs.integer.add.Goals as goal

pub returns : goal.returns
returns c = c.wrap.ensures ∙ low-low 64 c.args.bits c.requires (c.args.a + c.args.b)
