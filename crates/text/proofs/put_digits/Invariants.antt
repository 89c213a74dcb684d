use Prim.Native.Nat.{◌+◌}
use Rattle.text.specs.Number.{digits_from}
use Rattle.text.proofs.PutLaws.{Back}
use Rattle.text.proofs.put_digits.Given as goal

-- i digits are left, those of the rest
abbrev pub invariant-loop-i : goal.invariant-loop-i
invariant-loop-i g l = Back l.initial.out l.at (digits_from g.row.BASE l.k l.n) (digits_from g.row.BASE l.i l.rest) l.out (l.at + l.i) (l.at + l.k)
