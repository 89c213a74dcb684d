use Rattle.isa.specs.Width.{pair_bytes}
use Rattle.alu.specs.Pair.{joined}
use Rattle.effect.specs.Memory.{value_at}
use Rattle.effect.specs.Atomic.{exec_cas_pair}
use Rattle.exec.proofs.AccessLaws.{placed, met_trap, met_done, met_swap}
use Rattle.exec.proofs.atomic.cas_pair.Goals as goal

pub returns-in_err-at : goal.returns-in_err-at
unfolding exec_cas_pair
returns-in_err-at c =
    rw (← c.pair_bytes_of-n.ensures.0, ← c.amo_cause.ensures.0) (met_trap _ _ _ _ _ _ c.in_err-at.ensures.value _ c.from_residual.ensures.1)

pub returns : goal.returns
unfolding exec_cas_pair value_at
returns c =
    let x = c.args in
    let swap = c.compare_swap_pair_at-old in
    let n = c.pair_bytes_of-n.ensures.0 in
    let found = rw (n, c.amo_cause.ensures.0) at c.in_ok-at.ensures.value in
    let at = placed _ _ _ _ _ _ found in
    let o = rw at at swap.ensures.result_value.0 in
    met_done _ _ _ _ _ _ found _
    (met_swap _ _ _ _ (pair_bytes x.w) (value_at x.site.base x.mem.now x.a (pair_bytes x.w)) (joined x.w x.want) (joined x.w x.new)
    x.site.base x.mem.now _ _
    (rw (← o, ← c.same-equal.ensures, ← n, ← c.swap_notice.ensures) c.retire_pair.ensures)
    (rw at at swap.ensures.mem_after))
