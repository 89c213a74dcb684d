use Rattle.word.proofs.BytesLaws.{length-to_le}
use Rattle.effect.specs.Memory.{exec_store}
use Rattle.exec.proofs.AccessLaws.{placed, met_trap, met_done}
use Rattle.exec.proofs.memory.store.Goals as goal

pub returns-in_err-at : goal.returns-in_err-at
unfolding exec_store
returns-in_err-at c = rw (← c.store_bytes-n.ensures.0) (met_trap _ _ _ _ _ _ c.in_err-at.ensures.value _ c.from_residual.ensures.1)

pub returns : goal.returns
unfolding exec_store
returns c =
    rw (← c.store_bytes-n.ensures.0)
    (met_done _ _ _ _ _ _ c.in_ok-at.ensures.value _
    (record { answer = rw length-to_le c.retire.ensures; memory = rw (← placed _ _ _ _ _ _ c.in_ok-at.ensures.value) c.store_at.ensures }))
