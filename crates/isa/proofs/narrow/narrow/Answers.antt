use mathlib.Core.Path.{sym, ◌∙◌}
use mathlib.Core.Bool.{true}
use Rattle.isa.proofs.NarrowLaws.{lacked_gone, had_paired, unpaired}
use Rattle.isa.proofs.narrow.narrow.Goals as goal

pub returns-then-lacks : goal.returns-then-lacks
returns-then-lacks c = sym (lacked_gone _ (sym c.lacks.ensures ∙ c.if-lacks.true))

pub returns-in-Amo : goal.returns-in-Amo
returns-in-Amo c =
    let has = sym c.lacks.ensures ∙ c.if-lacks.false in
    sym (had_paired _ has ∙ rw (c.in-Amo.is, c.paired_if.ensures, c.pairs.ensures))

pub returns-in_default : goal.returns-in_default
returns-in_default c =
    let has = sym c.lacks.ensures ∙ c.if-lacks.false in
    sym (had_paired _ has ∙ unpaired true _ c.in_default.not-Amo)
