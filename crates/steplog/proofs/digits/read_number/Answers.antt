use mathlib.Core.Path.{◌≡◌, sym, ap, ◌∙◌}
use mathlib.Core.Bool.{Bool, false, ◌&&◌}
use mathlib.Core.List.{[]}
use Prim.Native.Nat.{ℕ, suc, ◌+◌, ◌*◌, ◌^◌, ◌<◌, ◌≤◌}
use native.Mathlib.Nat.{lt_of_lt_of_le}
use native.Mathlib.Numerals.{add-one}
use native.Mathlib.Omega.{arith}
use lib.ListN.{get_or, drop, drop_of_length-le}
use Rattle.std.specs.Prelude.{Some}
use Rattle.text.specs.Number.{read_from}
use Rattle.steplog.specs.Digits.{is_digit, all_digits}
use Rattle.steplog.proofs.DigitsLaws.{looked_up, not_looked_up, next_below, digits_room, read_turn, digits_turn, number_good, number_bad, digits_nil}
use Rattle.steplog.proofs.TableLaws.{found}
use Rattle.steplog.proofs.digits.read_number.Goals as goal

-- the next value is below the next power, and that fits 64 bits
below : (base i value d : ℕ) → value < base ^ i → d < base → base ≤ 16 → i < 16 → value * base + d < 2 ^ 64
below base i value d fits small most room = lt_of_lt_of_le (next_below base i value d fits small) (digits_room base (suc i) most room)

pub returns-then-base-d : goal.returns-then-base-d
returns-then-base-d c =
    let turn = c.loop-c in
    let x = c.args in
    let s = x.s.now in
    let i = turn.c-index in
    let told = found (get_or s i 0) _ c.from-d.result (c.type_inv.s i).fits c.from.ensures c.from-d.ensures in
    let bad : is_digit x.base (get_or s i 0) ≡ false = not_looked_up x.base (get_or s i 0) c.from-d.result (omega arith) told (omega arith) in
    sym
    (number_bad x.base s
    (turn.invariant.1 ∙ digits_turn x.base i s (omega arith) ∙ ap (λ (b : Bool). b && all_digits x.base (drop (i + 1) s)) bad))

pub overflow_mul-value : goal.overflow_mul-value
overflow_mul-value c = record { fits = omega (arith, below c.args.base c.loop-c.c-index c.loop-c.value c.from-d.result c.loop-c.invariant.0 (omega arith) (omega arith) (omega arith)) }

pub overflow_add-value : goal.overflow_add-value
overflow_add-value c = record { fits = below c.args.base c.loop-c.c-index c.loop-c.value c.from-d.result c.loop-c.invariant.0 (omega arith) (omega arith) (omega arith) }

pub loop-c-preserved : goal.loop-c-preserved
loop-c-preserved c =
    let turn = c.loop-c in
    let x = c.args in
    let s = x.s.now in
    let i = turn.c-index in
    let d = c.from-d.result in
    let told = found (get_or s i 0) _ d (c.type_inv.s i).fits c.from.ensures c.from-d.ensures in
    let good = looked_up x.base (get_or s i 0) d (omega arith) told (omega arith) in (
      rw (add-one i) (next_below x.base i turn.value d turn.invariant.0 (omega arith)),
      turn.invariant.1 ∙ digits_turn x.base i s (omega arith) ∙ ap (λ (b : Bool). b && all_digits x.base (drop (i + 1) s)) good.0,
      turn.invariant.2 ∙ read_turn x.base turn.value i s (omega arith)
          ∙ ap (λ (n : ℕ). read_from x.base (turn.value * x.base + n) (drop (i + 1) s)) (sym good.1),
    )

pub returns : goal.returns
returns c =
    let turn = c.loop-c in
    let x = c.args in
    let s = x.s.now in
    let end : drop turn.c-index s ≡ [] = drop_of_length-le s {i = turn.c-index} (omega arith) in
    sym
    (number_good x.base s (turn.invariant.1 ∙ ap (all_digits x.base) end ∙ digits_nil x.base)
    ∙ ap Some (turn.invariant.2 ∙ ap (read_from x.base turn.value) end))
