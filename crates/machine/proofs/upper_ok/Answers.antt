use Rattle.std.proofs.Common.{◌≡◌, sym, ◌∙◌, arith}
use Rattle.machine.specs.State.{upper_ok}
use Rattle.machine.proofs.upper_ok.Goals as goal

pub returns : goal.returns
unfolding upper_ok
returns c =
    let all : c.loop-r.r ≡ 32 = omega arith in
    rw (sym c.xlen.ensures ∙ c.if-xlen-ne32.false, c.loop-r.invariant, all)
