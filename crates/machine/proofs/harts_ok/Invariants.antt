use Rattle.std.proofs.Common.{◌≡◌, true}
use Rattle.word.specs.Each.{all_below}
use Rattle.machine.specs.State.{hart_at}
use Rattle.machine.proofs.harts_ok.Given as goal

abbrev pub invariant-loop-k : goal.invariant-loop-k
invariant-loop-k l = let s = l.s in all_below (hart_at s.settings l.base l.len s.x s.pc s.res) l.k ≡ true
