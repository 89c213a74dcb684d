use Rattle.word.specs.Word.{low}
use Rattle.isa.specs.Width.{bits_of, bytes_of}
use Rattle.effect.specs.Memory.{value_at}
use Rattle.effect.specs.Atomic.{exec_cas}
use Rattle.exec.proofs.AccessLaws.{placed, met_trap, met_done, met_swap}
use Rattle.exec.proofs.atomic.cas.Goals as goal

pub returns-in_err-at : goal.returns-in_err-at
unfolding exec_cas
returns-in_err-at c =
    rw (← c.bytes_of-n.ensures.0, ← c.amo_cause.ensures.0) (met_trap _ _ _ _ _ _ c.in_err-at.ensures.value _ c.from_residual.ensures.1)

pub returns : goal.returns
unfolding exec_cas value_at
returns c =
    let n = c.bytes_of-n.ensures.0 in
    let k = c.bits_of-bits.ensures.0 in
    let found = rw (n, c.amo_cause.ensures.0) at c.in_ok-at.ensures.value in
    let at = placed _ _ _ _ _ _ found in
    let l = rw k at c.wrap-least.ensures in
    let o = rw (n, at) at c.compare_swap_at-old.ensures.value in
    let m = rw (n, at) at c.compare_swap_at-old.ensures.mem_after in
    let x = c.args in
    met_done _ _ _ _ _ _ found _
    (met_swap _ _ _ _ (bytes_of x.w) (value_at x.site.base x.mem.now x.a (bytes_of x.w)) (low (bits_of x.w) x.want) x.new
    x.site.base x.mem.now _ _
    (rw (← o, ← l, ← k, ← n, ← c.sign_extend-value.ensures, ← c.swap_notice.ensures) c.retire.ensures)
    (rw (← l) m))
