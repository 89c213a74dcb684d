use Rattle.std.proofs.Common.{ap, ◌∙◌, arith}
use Rattle.word.specs.Word.{low}
use Rattle.alu.proofs.AluLaws.{low_shr}
use Rattle.alu.proofs.integer.shift_signed.Goals as goal

pub returns : goal.returns
returns c =
    let x = c.args in
    let z = c.to_signed in
    c.wrap.ensures ∙ ap (low x.bits) c.from_i64.ensures
    ∙ low_shr x.bits x.a x.by z.result (omega arith) (omega arith) c.requires.a_bound z.ensures
