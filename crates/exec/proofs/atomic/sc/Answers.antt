use Rattle.std.proofs.Common.{refl, sym, ◌∙◌}
use Rattle.word.proofs.BytesLaws.{length-to_le}
use Rattle.effect.specs.Atomic.{exec_sc}
use Rattle.exec.proofs.AccessLaws.{placed, met_trap, met_done}
use Rattle.exec.proofs.atomic.sc.Goals as goal

pub returns-in_err-at : goal.returns-in_err-at
unfolding exec_sc
returns-in_err-at c =
    rw (← c.bytes_of-n.ensures.0, ← c.amo_cause.ensures.0) (met_trap _ _ _ _ _ _ c.in_err-at.ensures.value _ c.from_residual.ensures.1)

pub returns-then-covers : goal.returns-then-covers
unfolding exec_sc
returns-then-covers c =
    let found = c.in_ok-at.ensures.value in
    rw (← c.bytes_of-n.ensures.0, ← c.amo_cause.ensures.0)
    (met_done _ _ _ _ _ _ found _
    (rw (sym c.covers.ensures ∙ c.if-covers.true)
    (record { answer = rw length-to_le c.retire.ensures; memory = rw (← placed _ _ _ _ _ _ found) c.store_at.ensures })))

pub returns : goal.returns
unfolding exec_sc
returns c =
    rw (← c.bytes_of-n.ensures.0, ← c.amo_cause.ensures.0)
    (met_done _ _ _ _ _ _ c.in_ok-at.ensures.value _
    (rw (sym c.covers.ensures ∙ c.if-covers.false) (record { answer = c.retire-2.ensures; memory = refl })))
