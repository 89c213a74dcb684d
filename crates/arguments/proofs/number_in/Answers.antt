use mathlib.Core.Path.{◌≡◌, sym, ap, ◌∙◌}
use mathlib.Core.Bool.{Bool, ◌&&◌}
use mathlib.Core.List.{List, []}
use Prim.Native.Nat.{ℕ, ◌+◌, ◌*◌, ◌<◌, min}
use native.Mathlib.Omega.{arith}
use Rattle.std.proofs.lemmas.Bool.Decides.{nat_tests}
use lib.ListN.{length, get_or, drop, drop_of_length-le}
use Rattle.std.specs.Prelude.{Some}
use Rattle.text.specs.Number.{digit_of, read_from}
use Rattle.steplog.specs.Digits.{all_digits}
use Rattle.steplog.proofs.DigitsLaws.{read_turn, digits_turn, digits_nil}
use Rattle.arguments.proofs.NumberLaws.{read_capped, said_empty, said_digits, said_none, known_digit, no_digit}
use Rattle.arguments.proofs.number_in.Goals as goal

pub returns-then-is_empty : goal.returns-then-is_empty
returns-then-is_empty c =
    let none : length c.args.text.now ≡ 0 = grind (arith, nat_tests, c.if-is_empty.ensures) in
    sym (said_empty c.args.text.now none)

pub returns-in_err-d : goal.returns-in_err-d
returns-in_err-d c =
    let turn = c.loop-c in
    let text = c.args.text.now in
    let bad = no_digit (get_or text turn.c-index 0) (sym c.digit.ensures ∙ c.in_err-d.was) in
    c.from_residual.ensures ∙ sym
    (said_none text
    (turn.invariant.1 ∙ digits_turn 10 turn.c-index text (omega arith) ∙ ap (λ (b : Bool). b && all_digits 10 (drop (turn.c-index + 1) text)) bad))

pub loop-c-preserved : goal.loop-c-preserved
loop-c-preserved c =
    let turn = c.loop-c in
    let text = c.args.text.now in
    let i = turn.c-index in
    let character = get_or text i 0 in
    let good = known_digit character c.in_ok-d.d (sym c.digit.ensures ∙ c.in_ok-d.was) in
    let rest = drop (i + 1) text in
    let value : c.min-value.result ≡ min (turn.value * 10 + digit_of character) 1000 =
    c.min-value.ensures ∙ ap (λ (d : ℕ). min (turn.value * 10 + d) 1000) good.1 in
    let next : c.min-value.result ≡ min 1000 (turn.value * 10 + digit_of character) = omega (arith, value) in (
      omega arith,
      turn.invariant.1 ∙ digits_turn 10 i text (omega arith) ∙ ap (λ (b : Bool). b && all_digits 10 rest) good.0,
      turn.invariant.2 ∙ ap (min 1000) (read_turn 10 turn.value i text (omega arith))
          ∙ read_capped (turn.value * 10 + digit_of character) rest
          ∙ ap (λ (n : ℕ). min 1000 (read_from 10 n rest)) (sym next),
    )

pub returns : goal.returns
returns c =
    let turn = c.loop-c in
    let text = c.args.text.now in
    let end : drop turn.c-index text ≡ [] = drop_of_length-le text {i = turn.c-index} (omega arith) in
    let all = turn.invariant.1 ∙ ap (all_digits 10) end ∙ digits_nil 10 in
    let read : min 1000 (read_from 10 0 text) ≡ min 1000 turn.value = turn.invariant.2 ∙ ap (λ (l : List ℕ). min 1000 (read_from 10 turn.value l)) end in
    let value : min 1000 (read_from 10 0 text) ≡ turn.value = omega (arith, read, turn.invariant.0) in
    let some : 0 < length text = grind (arith, nat_tests, c.if-is_empty.ensures) in
    sym (said_digits text some all ∙ ap Some value)
