use mathlib.Core.Path.{◌≡◌}
use Prim.Native.Nat.{◌≤◌}
use lib.ListN.{length}
use Rattle.text.specs.Number.{decimal_of}
use Rattle.text.proofs.PutLaws.{Back}
use Rattle.text.proofs.put_decimal.Given as goal

-- the digits that the rest no longer has stand from p on
abbrev pub invariant-loop-rest : goal.invariant-loop-rest
invariant-loop-rest l =
    (l.rest ≤ l.n) × (length l.out ≡ length l.initial.out) × Back l.initial.out l.at (decimal_of l.n) (decimal_of l.rest) l.out l.p l.past

abbrev pub decreases-loop-rest : goal.decreases-loop-rest
decreases-loop-rest l = l.rest
