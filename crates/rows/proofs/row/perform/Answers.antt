use Rattle.std.proofs.Common.{sym, ap, ◌∙◌, rules, arith}
use Rattle.reach.specs.Back.{saved_of}
use Rattle.reach.specs.declared.Saved.{Saved}
use Rattle.rows.specs.Row.{stepped}
use Rattle.rows.proofs.ToldLaws.{stops, goes}
use Rattle.rows.proofs.RowLaws.{row_told_lem, undone}
use Rattle.rows.proofs.row.perform.Goals as goal

pub put_back-requires : goal.put_back-requires
unfolding saved_of
put_back-requires c =
    let hart = ap (λ (k : Saved). k.hart) c.save-saved.ensures.value in
    (omega (arith, hart, c.requires.valid.1.1, c.requires.counted), omega (arith, c.advance-reply.auto.mem, c.save-saved.ensures.room))

pub returns-then-is_err-clause-value : goal.returns-then-is_err-clause-value
returns-then-is_err-clause-value c =
    let after = c.advance-reply.ensures in
    row_told_lem _ _ _ c.requires c.save-saved.ensures.value after.machine after.outcome c.reg.ensures c.judge-told.ensures

pub returns-then-is_err-clause-after : goal.returns-then-is_err-clause-after
returns-then-is_err-clause-after c =
    let back = undone _ _ _ c.requires c.save-saved.ensures.value c.advance-reply.ensures.machine (search rules) in
    c.put_back.ensures ∙ back ∙ stops _ _ _ _ (sym c.is_err.ensures.value ∙ c.if-is_err.true)

pub returns-else-is_err-clause-value : goal.returns-else-is_err-clause-value
returns-else-is_err-clause-value c =
    let after = c.advance-reply.ensures in
    row_told_lem _ _ _ c.requires c.save-saved.ensures.value after.machine after.outcome c.reg.ensures c.judge-told.ensures

pub returns-else-is_err-clause-after : goal.returns-else-is_err-clause-after
unfolding stepped
returns-else-is_err-clause-after c = c.advance-reply.ensures.machine ∙ goes _ _ _ _ (sym c.is_err.ensures.value ∙ c.if-is_err.false)
