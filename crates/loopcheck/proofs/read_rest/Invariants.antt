use Rattle.std.proofs.Common.{◌<◌}
use Rattle.loopcheck.proofs.read_rest.Given as goal

abbrev pub invariant-loop : goal.invariant-loop
invariant-loop l = l.left < 4
