-- Numbers of a fixed number of digits: what is written reads back, and what is read was written. Assumes nothing.
use Rattle.std.specs.Prelude.{Some, None}
use mathlib.Core.Path.{◌≡◌, refl, sym, ap, ap₂, ◌∙◌}
use mathlib.Core.Bool.{true, false, cond, ◌&&◌}
use mathlib.Core.List.{List, [], ◌∷◌, ◌++◌, append-nil}
use Prim.Native.Nat.{ℕ, suc, ◌+◌, ◌*◌, ◌^◌, ◌≤◌, ◌<◌}
use native.Mathlib.Nat.{pow-zero, pow-suc, pow-le-pow_left, pow-le-pow_right, zero-add, suc-add, add-suc, add-zero, le_trans}
use native.Mathlib.Numerals.{add-one}
use native.Mathlib.Omega.{arith}
use borrow.Author.Tests.{lt-ltb, ltb-true, eq-eqb, eqb-true}
use lib.Arith.{digits_lt, digits_div, digits_mod}
use lib.Dec.{ltb, eqb, lit<}
use lib.ListN.{length, get_or, drop}
use lib.Seq.{append_snoc, drop-cons}
use Rattle.word.proofs.TestLaws.{bool_cases, and_both}
use Rattle.text.specs.Number.{glyph, digit_of, read_from, Digits, digits_from}
use Rattle.text.proofs.NumberLaws.{digit_glyph, digits_none, digits_more}
use Rattle.steplog.specs.Digits.{is_digit, all_digits, number_of}

-- a digit by the test and without it
is_digit_lem : (base c : ℕ) → is_digit base c ≡ true → (digit_of c < base) × (c ≡ glyph (digit_of c))
unfolding is_digit
is_digit_lem base c e =
    let both = and_both (ltb (digit_of c) base) (eqb c (glyph (digit_of c))) e in
    (ltb-true (digit_of c) base both.0, eqb-true c (glyph (digit_of c)) both.1)

digit_passes : (base c : ℕ) → digit_of c < base → c ≡ glyph (digit_of c) → is_digit base c ≡ true
unfolding is_digit
digit_passes base c h e = ap₂ ◌&&◌ (lt-ltb (digit_of c) base h) (eq-eqb c (glyph (digit_of c)) e)

glyph_passes : (base d : ℕ) → base ≤ 16 → d < base → is_digit base (glyph d) ≡ true
glyph_passes base d most h =
    let e : digit_of (glyph d) ≡ d = digit_glyph d (omega arith) in
    digit_passes base (glyph d) (rw e h) (ap glyph (sym e))

-- What a look into a table of the digits below 16 says of a smaller base, where the table has 16 for what is no digit.
module _ (base c d : ℕ) (most : base ≤ 16) (e : d ≡ cond (is_digit 16 c) (digit_of c) 16) where
  pub looked_up : d < base → (is_digit base c ≡ true) × (d ≡ digit_of c)
  looked_up h =
      bool_cases (is_digit 16 c)
      (λ t.
      let same : d ≡ digit_of c = rw t at e in
      (digit_passes base c (omega arith) (is_digit_lem 16 c t).1, same))
      (λ f.
      let none : d ≡ 16 = rw f at e in
      absurd (omega arith))

  pub not_looked_up : base ≤ d → is_digit base c ≡ false
  not_looked_up h =
      bool_cases (is_digit base c)
      (λ t.
      let here = is_digit_lem base c t in
      let wider : is_digit 16 c ≡ true = digit_passes 16 c (omega (arith, here.0)) here.1 in
      let same : d ≡ digit_of c = rw wider at e in
      absurd (omega (arith, here.0)))
      (λ f. f)

pub digits_pass : (base : ℕ) (cs : List ℕ) → base ≤ 16 → Digits base cs → all_digits base cs ≡ true
unfolding all_digits
digits_pass base [] most h = refl
digits_pass base (c ∷ cs) most h =
    ap₂ ◌&&◌ (ap (is_digit base) h.0.2 ∙ glyph_passes base h.0.0 most h.0.1) (digits_pass base cs most h.1)

-- what is read was written: digits behind the last j digits of m
behind : (base m j : ℕ) (cs : List ℕ) → all_digits base cs ≡ true → digits_from base (j + length cs) (read_from base m cs) ≡ digits_from base j m ++ cs
unfolding all_digits
behind base m j [] e = rw (add-zero, append-nil)
behind base m j (c ∷ cs) e =
    let both = and_both (is_digit base c) (all_digits base cs) e in
    let here = is_digit_lem base c both.0 in
    let last : digits_from base (suc j) (m * base + digit_of c) ≡ digits_from base j m ++ (c ∷ []) =
    digits_more base j (m * base + digit_of c)
    ∙ ap₂ (λ (n g : ℕ). digits_from base j n ++ (g ∷ [])) (digits_div m here.0) (ap glyph (digits_mod m here.0) ∙ sym here.1) in
    ap (λ (i : ℕ). digits_from base i (read_from base (m * base + digit_of c) cs)) (add-suc j (length cs) ∙ sym (suc-add j (length cs)))
    ∙ behind base (m * base + digit_of c) (suc j) cs both.1
    ∙ ap (λ (l : List ℕ). l ++ cs) last
    ∙ append_snoc (digits_from base j m) c cs

pub digits_back : (base : ℕ) (cs : List ℕ) → all_digits base cs ≡ true → digits_from base (length cs) (read_from base 0 cs) ≡ cs
digits_back base cs e =
    ap (λ (k : ℕ). digits_from base k (read_from base 0 cs)) (sym (zero-add (length cs)))
    ∙ behind base 0 0 cs e
    ∙ ap (λ (l : List ℕ). l ++ cs) (digits_none base 0)

-- one digit more keeps a number below the next power of the base
pub next_below : (base i value d : ℕ) → value < base ^ i → d < base → value * base + d < base ^ suc i
next_below base i value d h l = rw pow-suc (digits_lt h l)

read_below : (base i m : ℕ) (cs : List ℕ) → m < base ^ i → all_digits base cs ≡ true → read_from base m cs < base ^ (i + length cs)
unfolding all_digits
read_below base i m [] h e = rw add-zero h
read_below base i m (c ∷ cs) h e =
    let both = and_both (is_digit base c) (all_digits base cs) e in
    rw (add-suc i (length cs) ∙ sym (suc-add i (length cs)))
    (read_below base (suc i) (m * base + digit_of c) cs (next_below base i m (digit_of c) h (is_digit_lem base c both.0).0) both.1)

-- so many digits are a number below that power of the base
pub digits_below : (base : ℕ) (cs : List ℕ) → all_digits base cs ≡ true → read_from base 0 cs < base ^ length cs
digits_below base cs e = rw (zero-add (length cs)) at (read_below base 0 0 cs (rw pow-zero (lit< tt)) e)

-- the two cases of a number read
pub number_good : (base : ℕ) (cs : List ℕ) → all_digits base cs ≡ true → number_of base cs ≡ Some (read_from base 0 cs)
unfolding number_of
number_good base cs e = rw e

pub number_bad : (base : ℕ) (cs : List ℕ) → all_digits base cs ≡ false → number_of base cs ≡ None
unfolding number_of
number_bad base cs e = rw e

pub number_says : (base : ℕ) (cs : List ℕ) (n : ℕ) → number_of base cs ≡ Some n → (all_digits base cs ≡ true) × (n ≡ read_from base 0 cs)
number_says base cs n e =
    bool_cases (all_digits base cs)
    (λ t. (t, let z : Some (read_from base 0 cs) ≡ Some n = sym (number_good base cs t) ∙ e in cc))
    (λ f. absurd (let z : None ≡ Some n = sym (number_bad base cs f) ∙ e in cc))

pub number_none : (base : ℕ) (cs : List ℕ) → number_of base cs ≡ None → all_digits base cs ≡ false
number_none base cs e =
    bool_cases (all_digits base cs)
    (λ t. absurd (let z : Some (read_from base 0 cs) ≡ None = sym (number_good base cs t) ∙ e in cc))
    (λ f. f)

pub number_below : (base : ℕ) (cs : List ℕ) (n : ℕ) → number_of base cs ≡ Some n → n < base ^ length cs
number_below base cs n e = let s = number_says base cs n e in rw s.1 (digits_below base cs s.0)

-- one character more, from the front
pub read_turn : (base value i : ℕ) (s : List ℕ) → i < length s
    → read_from base value (drop i s) ≡ read_from base (value * base + digit_of (get_or s i 0)) (drop (i + 1) s)
read_turn base value i s h = rw (drop-cons s i 0 h, add-one i)

pub digits_turn : (base i : ℕ) (s : List ℕ) → i < length s → all_digits base (drop i s) ≡ is_digit base (get_or s i 0) && all_digits base (drop (i + 1) s)
unfolding all_digits
digits_turn base i s h = rw (drop-cons s i 0 h, add-one i)

-- 16 digits of a base up to 16 fit 64 bits
pub digits_room : (base i : ℕ) → base ≤ 16 → i ≤ 16 → base ^ i ≤ 2 ^ 64
digits_room base i most few = le_trans (pow-le-pow_left most i) (pow-le-pow_right {n = 16} (lit< tt) {j = 16} few)

pub digits_nil : (base : ℕ) → all_digits base [] ≡ true
unfolding all_digits
digits_nil base = refl
