use Rattle.word.proofs.WordLaws.{low_lt}
use Rattle.word.proofs.BytesLaws.{length-to_le}
use Rattle.effect.specs.Memory.{value_at}
use Rattle.effect.specs.Atomic.{exec_amo}
use Rattle.exec.proofs.AccessLaws.{placed, met_trap, met_done}
use Rattle.exec.proofs.atomic.amo.Goals as goal

pub returns-in_err-at : goal.returns-in_err-at
unfolding exec_amo
returns-in_err-at c =
    rw (← c.bytes_of-n.ensures.0, ← c.amo_cause.ensures.0) (met_trap _ _ _ _ _ _ c.in_err-at.ensures.value _ c.from_residual.ensures.1)

pub modify_at-old-requires-clause-operand_bound : goal.modify_at-old-requires-clause-operand_bound
modify_at-old-requires-clause-operand_bound c = rw (← c.bits_of-bits.ensures.0, c.wrap-operand.ensures) (low_lt _ _)

pub returns : goal.returns
unfolding exec_amo value_at
returns c =
    let n = c.bytes_of-n.ensures.0 in
    let k = c.bits_of-bits.ensures.0 in
    let found = rw (n, c.amo_cause.ensures.0) at c.in_ok-at.ensures.value in
    let at = placed _ _ _ _ _ _ found in
    let v = rw k at c.wrap-operand.ensures in
    met_done _ _ _ _ _ _ found _
    (record {
      answer = rw (length-to_le, ← at, ← c.modify_at-old.ensures.value, ← k, ← c.sign_extend.ensures, ← n) c.retire.ensures;
      memory = rw (← at, ← v) c.modify_at-old.ensures.mem_after;
    })
