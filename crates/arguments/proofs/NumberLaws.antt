-- Digits read one after another, where all numbers from 1,000 on count as 1,000. Assumes nothing.
use Rattle.std.specs.Prelude.{Some, None, IfSome}
use mathlib.Core.Path.{◌≡◌, ap}
use mathlib.Core.Bool.{true, false, cond, ◌&&◌}
use mathlib.Core.List.{List, [], ◌∷◌}
use mathlib.Core.Logic.{◌⊎◌, inl, ⊎_elim}
use Prim.Native.Nat.{ℕ, ◌+◌, ◌*◌, ◌-◌, ◌≤◌, ◌<◌, min}
use native.Mathlib.Nat.{le_trans}
use native.Mathlib.Omega.{arith}
use lib.Dec.{ltb, eqb}
use lib.ListN.{length}
use borrow.Author.Tests.{lt-ltb, le-ltb, eq-eqb, ne_eqb, ltb-true}
use Rattle.word.proofs.TestLaws.{bool_cases, and_both}
use Rattle.word.proofs.WordLaws.{split_lt}
use Rattle.text.specs.Number.{glyph, digit_of, read_from}
use Rattle.steplog.specs.Digits.{is_digit, all_digits}
use Rattle.arguments.specs.Numbers.{number_said}

-- which bytes are decimal digits
pub below_digits : (c : ℕ) → c < 48 → is_digit 10 c ≡ false
unfolding is_digit
below_digits c h =
    let zero : c - 48 ≡ 0 = omega arith in
    let other : eqb c 48 ≡ false = ne_eqb c 48 (λ e. omega (arith, e)) in
    rw (lt-ltb c 58 (omega arith), zero) other

pub digit_is : (c : ℕ) → 48 ≤ c → c < 58 → (is_digit 10 c ≡ true) × (digit_of c ≡ c - 48)
unfolding is_digit
digit_is c l h =
    let small = lt-ltb (c - 48) 10 (omega arith) in
    let same : c ≡ 48 + (c - 48) = omega arith in
    (rw (lt-ltb c 58 h, small) (eq-eqb c (48 + (c - 48)) same), rw (lt-ltb c 58 h))

pub above_digits : (c : ℕ) → 58 ≤ c → is_digit 10 c ≡ false
unfolding is_digit
above_digits c h =
    bool_cases (ltb (c - 87) 10)
    (λ t. rw (le-ltb c 58 h, t) (ne_eqb c (48 + (c - 87)) (λ e. omega (arith, e))))
    (λ f. rw (le-ltb c 58 h, f))

digit_below : (c : ℕ) → is_digit 10 c ≡ true → digit_of c < 10
unfolding is_digit
digit_below c e = ltb-true (digit_of c) 10 (and_both (ltb (digit_of c) 10) (eqb c (glyph (digit_of c))) e).0

-- what a digit's value, if it has one, says of a byte
module _ (c : ℕ) where
  pub known_digit : (d : ℕ) → cond (is_digit 10 c) (Some (digit_of c)) None ≡ Some d → (is_digit 10 c ≡ true) × (d ≡ digit_of c) × (d < 10)
  known_digit d e =
      bool_cases (is_digit 10 c)
      (λ t.
      let same : Some (digit_of c) ≡ Some d = rw t at e in
      let value : d ≡ digit_of c = cc in
      (t, value, omega (arith, value, digit_below c t)))
      (λ f. absurd (let same : None ≡ Some d = rw f at e in cc))

  pub no_digit : cond (is_digit 10 c) (Some (digit_of c)) None ≡ None → is_digit 10 c ≡ false
  no_digit e = bool_cases (is_digit 10 c) (λ t. absurd (let same : Some (digit_of c) ≡ None = rw t at e in cc)) (λ f. f)

-- digits make no number smaller
read_grows : (m : ℕ) (cs : List ℕ) → m ≤ read_from 10 m cs
read_grows m [] = omega arith
read_grows m (c ∷ cs) = le_trans (omega arith) (read_grows (m * 10 + digit_of c) cs)

-- so a number that counts as 1,000 does so behind more digits
pub read_capped : (m : ℕ) (cs : List ℕ) → min 1000 (read_from 10 m cs) ≡ min 1000 (read_from 10 (min 1000 m) cs)
read_capped m cs =
    ⊎_elim
    (λ (h : m < 1000).
    let same : m ≡ min 1000 m = omega arith in
    ap (λ (n : ℕ). min 1000 (read_from 10 n cs)) same)
    (λ (h : 1000 ≤ m).
    let most : min 1000 m ≡ 1000 = omega arith in
    omega (arith, read_grows m cs, read_grows (min 1000 m) cs, most))
    (split_lt m 1000)

-- the cases of a text: none, digits, and others
pub said_empty : (text : List ℕ) → length text ≡ 0 → number_said text ≡ None
unfolding number_said
said_empty text e = rw (le-ltb 0 (length text) (omega (arith, e)))

pub said_digits : (text : List ℕ) → 0 < length text → all_digits 10 text ≡ true → number_said text ≡ Some (min 1000 (read_from 10 0 text))
unfolding number_said
said_digits text n e = rw (lt-ltb 0 (length text) n, e)

pub said_none : (text : List ℕ) → all_digits 10 text ≡ false → number_said text ≡ None
unfolding number_said
said_none text e = bool_cases (ltb 0 (length text)) (λ t. rw (t, e)) (λ f. rw f)

pub said_most : (text : List ℕ) (other : ℕ) → IfSome (number_said text) (λ n. (n ≤ 1000) ⊎ (n ≡ other))
unfolding number_said
said_most text other = bool_cases (ltb 0 (length text) && all_digits 10 text) (λ t. rw t (inl (omega arith))) (λ f. rw f tt)
