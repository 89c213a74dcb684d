use Rattle.std.proofs.Common.{◌∙◌}
use Rattle.alu.proofs.AluLaws.{low_sub}
use Rattle.alu.proofs.integer.subtract.Goals as goal

pub returns : goal.returns
returns c =
    let x = c.args in
    c.wrap.ensures ∙ low_sub x.bits x.a x.b c.requires.bits_bound c.requires.b_bound
