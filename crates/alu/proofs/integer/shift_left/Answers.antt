use Rattle.std.proofs.Common.{◌*◌, ◌^◌, ◌∙◌}
use Rattle.word.proofs.WordLaws.{low-low}
use Rattle.alu.proofs.integer.shift_left.Goals as goal

pub returns : goal.returns
returns c =
    let x = c.args in
    c.wrap.ensures ∙ low-low 64 x.bits c.requires.1 (x.a * 2 ^ x.by)
