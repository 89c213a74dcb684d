use Rattle.std.proofs.Common.{◌≡◌, true, false, sym, arith}
use Rattle.word.proofs.EachLaws.{all_none, all_more, all_fails}
use Rattle.machine.specs.State.{hart_at}
use Rattle.machine.proofs.harts_ok.Goals.{then-hart_ok, else-hart_ok}
use Rattle.machine.proofs.harts_ok.Goals as goal

pub loop-k-init : goal.loop-k-init
loop-k-init c = all_none _

pub returns-then-not-upper_ok : goal.returns-then-not-upper_ok
returns-then-not-upper_ok c =
    let a = c.args in
    let s = a.s.now in
    let wrong : hart_at s.settings a.base a.len s.x s.pc s.res c.loop-k.k ≡ false =
    elim c.if-hart_ok.branch [
      | then-hart_ok w ↦ rw (← c.hart_ok.ensures, ← w.upper_ok.ensures, w.if-hart_ok.true) cc
      | else-hart_ok w ↦ rw (← c.hart_ok.ensures, w.if-hart_ok.false)
    ] in
    sym (all_fails (hart_at s.settings a.base a.len s.x s.pc s.res) c.loop-k.k _ (omega arith) wrong)

pub loop-k-preserved : goal.loop-k-preserved
loop-k-preserved c =
    let a = c.args in
    let s = a.s.now in
    let right : hart_at s.settings a.base a.len s.x s.pc s.res c.loop-k.k ≡ true =
    elim c.if-hart_ok.branch [
      | then-hart_ok w ↦ rw (← c.hart_ok.ensures, ← w.upper_ok.ensures, w.if-hart_ok.true) cc
      | else-hart_ok w ↦ cc
    ] in
    all_more (hart_at s.settings a.base a.len s.x s.pc s.res) c.loop-k.k c.loop-k.invariant right
