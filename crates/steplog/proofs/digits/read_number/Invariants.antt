use mathlib.Core.Path.{◌≡◌}
use Prim.Native.Nat.{◌^◌, ◌<◌}
use lib.ListN.{drop}
use Rattle.text.specs.Number.{read_from}
use Rattle.steplog.specs.Digits.{all_digits}
use Rattle.steplog.proofs.digits.read_number.Given as goal

-- the characters before were digits, and value is the number that they are
abbrev pub invariant-loop-c : goal.invariant-loop-c
invariant-loop-c l =
    (l.value < l.base ^ l.c-index)
    × (all_digits l.base l.s ≡ all_digits l.base (drop l.c-index l.s))
    × (read_from l.base 0 l.s ≡ read_from l.base l.value (drop l.c-index l.s))
