use Rattle.std.proofs.Common.{◌≡◌}
use Rattle.word.specs.Each.{all_below}
use Rattle.machine.specs.State.{upper_at}
use Rattle.machine.proofs.upper_ok.Given as goal

abbrev pub invariant-loop-r : goal.invariant-loop-r
invariant-loop-r l = l.ok ≡ all_below (upper_at l.s.x l.k) l.r
