use Rattle.std.proofs.Common.{refl}
use Rattle.effect.specs.Memory.{value_at}
use Rattle.effect.specs.Atomic.{exec_lr}
use Rattle.exec.proofs.AccessLaws.{placed, met_trap, met_done}
use Rattle.exec.proofs.atomic.lr.Goals as goal

pub returns-in_err-at : goal.returns-in_err-at
unfolding exec_lr
returns-in_err-at c =
    rw (← c.bytes_of-n.ensures.0, ← c.lr_cause.ensures.0)
    ((met_trap _ _ _ _ _ _ c.in_err-at.ensures.value _ {mem = c.args.mem.now} c.from_residual.ensures.1).answer)

pub returns : goal.returns
unfolding exec_lr value_at
returns c =
    rw (
      ← c.bytes_of-n.ensures.0,
      ← c.lr_cause.ensures.0,
      ← placed _ _ _ _ _ _ c.in_ok-at.ensures.value,
      ← c.bits_of.ensures.0,
      ← c.load_at-v.ensures,
      ← c.sign_extend-value.ensures,
    )
    ((met_done _ _ _ _ _ _ c.in_ok-at.ensures.value _ {mem = c.args.mem.now} (record { answer = c.retire.ensures; memory = refl })).answer)
