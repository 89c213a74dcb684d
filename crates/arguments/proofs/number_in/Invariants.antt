use mathlib.Core.Path.{◌≡◌}
use Prim.Native.Nat.{◌≤◌, min}
use lib.ListN.{drop}
use Rattle.text.specs.Number.{read_from}
use Rattle.steplog.specs.Digits.{all_digits}
use Rattle.arguments.proofs.number_in.Given as goal

-- the characters before were digits, and value is what the number counts as that they are
abbrev pub invariant-loop-c : goal.invariant-loop-c
invariant-loop-c l =
    (l.value ≤ 1000)
    × (all_digits 10 l.text ≡ all_digits 10 (drop l.c-index l.text))
    × (min 1000 (read_from 10 0 l.text) ≡ min 1000 (read_from 10 l.value (drop l.c-index l.text)))
