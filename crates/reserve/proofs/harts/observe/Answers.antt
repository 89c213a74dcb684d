use Rattle.std.proofs.Common.{sym, ap, ◌∙◌, None, arith}
use Rattle.reserve.proofs.NoticeLaws.{quiet_observed, reserved_observed, done_observed, failed_observed}
use Rattle.reserve.specs.Reserve.{Observed}
use Rattle.reserve.specs.Harts.{replaced}
use Rattle.reserve.proofs.harts.observe.Goals as goal

pub returns-in-Quiet : goal.returns-in-Quiet
returns-in-Quiet c = rw c.in-Quiet.is (sym (quiet_observed _ _ _))

pub returns-in-ScStored : goal.returns-in-ScStored
returns-in-ScStored c =
    let a = c.args in
    rw (c.in-ScStored.is, c.replace-in-ScStored.ensures)
    (ap (λ (o : Observed). record { slots = replaced a.count c.in-ScStored.hart None o.slots; broken = o.broken }) c.hart_write-b.ensures
    ∙ sym (done_observed a.settings a.count a.res.now _ _ _ (omega arith)))

pub returns-in-LoadReserved : goal.returns-in-LoadReserved
returns-in-LoadReserved c = rw (c.in-LoadReserved.is, c.replace.ensures) (sym (reserved_observed _ _ c.args.res.now _ _ _ (omega arith)))

pub returns-in-ScFailed : goal.returns-in-ScFailed
returns-in-ScFailed c = rw (c.in-ScFailed.is, c.replace-in-ScFailed.ensures) (sym (failed_observed _ _ c.args.res.now _ (omega arith)))
