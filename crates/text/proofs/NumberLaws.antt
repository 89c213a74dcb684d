-- Numbers as text: their lengths, one digit more, and that they read back. Assumes nothing.
use mathlib.Core.Path.{◌≡◌, refl, sym, ap, ◌∙◌}
use mathlib.Core.Bool.{Bool, true, false, cond}
use mathlib.Core.List.{List, [], ◌∷◌, ◌++◌}
use Prim.Native.Nat.{ℕ, zero, suc, ◌+◌, ◌*◌, ◌-◌, ◌/◌, ◌%◌, ◌^◌, ◌≤◌, ◌<◌, zero-le}
use borrow.Author.Tests.{lt-ltb, le-ltb, ltb-true, ltb-false}
use native.Mathlib.Nat.{mod-lt, one-le-pow, pow-zero, pow-suc, div-add-mod', div-lt_iff_lt-mul, zero-mul}
use native.Mathlib.Omega.{arith}
use lib.Dec.{eqb, eqb→eq, ltb, lit<, lit≤}
use lib.ListN.{length, length-append, get_or}
use Rattle.word.proofs.TableLaws.{rule_at}
use Rattle.word.proofs.TestLaws.{bool_cases}
use Rattle.text.specs.Ascii.{ascii}
use Rattle.text.specs.Number.{glyph, decimal_from, decimal_of, digits_from, hex_from, hex_of, digit_of, read_from, Digits, Numeral}

pub decimal_from-le : (k n : ℕ) → length (decimal_from k n) ≤ k
unfolding decimal_from
decimal_from-le zero n = zero-le
decimal_from-le (suc k) n = go (ltb n 10) (decimal_from-le k (n / 10))
  where
    go : (t : Bool) → length (decimal_from k (n / 10)) ≤ k → length (cond t (glyph n ∷ []) (decimal_from k (n / 10) ++ (glyph (n % 10) ∷ []))) ≤ suc k
    go true h = omega arith
    go false h = rw length-append (omega arith)

pub decimal_of-le : (n : ℕ) → length (decimal_of n) ≤ 20
decimal_of-le n = decimal_from-le 20 n

pub length_digits : (base k n : ℕ) → length (digits_from base k n) ≡ k
unfolding digits_from
length_digits base zero n = refl
length_digits base (suc k) n = rw (length-append, length_digits base k (n / base)) (omega arith)

pub digits_none : (base n : ℕ) → digits_from base 0 n ≡ []
unfolding digits_from
digits_none base n = refl

pub digits_more : (base k n : ℕ) → digits_from base (suc k) n ≡ digits_from base k (n / base) ++ (glyph (n % base) ∷ [])
unfolding digits_from
digits_more base k n = refl

pub length-hex_from : (k n : ℕ) → length (hex_from k n) ≡ k
length-hex_from k n = length_digits 16 k n

decimal_from_more : (k n : ℕ) → 10 ≤ n → decimal_from (suc k) n ≡ decimal_from k (n / 10) ++ (glyph (n % 10) ∷ [])
unfolding decimal_from
decimal_from_more k n h = rw (le-ltb n 10 h)

-- places enough: one more makes no digit more
decimal_from_enough : (k n : ℕ) → n < 10 ^ suc k → decimal_from (suc (suc k)) n ≡ decimal_from (suc k) n
unfolding decimal_from
decimal_from_enough zero n h = rw (lt-ltb n 10 (omega arith))
decimal_from_enough (suc k) n h =
    ap (λ (l : List ℕ). cond (ltb n 10) (glyph n ∷ []) (l ++ (glyph (n % 10) ∷ [])))
    (decimal_from_enough k (n / 10) (omega (arith, pow-suc 10 (suc k))))

-- a number below ten is its one digit; any other is the rest of it and then its last digit
pub decimal_last : (n : ℕ) → n < 10 → decimal_of n ≡ glyph n ∷ []
unfolding decimal_from
decimal_last n h = rw (lt-ltb n 10 h)

pub decimal_more : (n : ℕ) → 10 ≤ n → n < 2 ^ 64 → decimal_of n ≡ decimal_of (n / 10) ++ (glyph (n % 10) ∷ [])
decimal_more n h k =
    decimal_from_more 19 n h
    ∙ ap (λ (l : List ℕ). l ++ (glyph (n % 10) ∷ [])) (sym (decimal_from_enough 18 (n / 10) (omega arith)))

-- how many digits
pub length_last : (n : ℕ) → n < 10 → length (decimal_of n) ≡ 1
length_last n h = ap length (decimal_last n h)

pub length_more : (n : ℕ) → 10 ≤ n → n < 2 ^ 64 → length (decimal_of n) ≡ length (decimal_of (n / 10)) + 1
length_more n h k = ap length (decimal_more n h k) ∙ length-append (decimal_of (n / 10)) (glyph (n % 10) ∷ [])

pub length_power : (k n : ℕ) → 10 ^ k ≤ n → n < 10 * 10 ^ k → n < 2 ^ 64 → length (decimal_of n) ≡ k + 1
length_power zero n low high h = length_last n (omega (arith, pow-zero 10)) ∙ omega arith
length_power (suc k) n low high h =
    let ten : 10 ≤ n = omega (arith, pow-suc 10 k, one-le-pow k 10 (lit< tt)) in
    let below = length_power k (n / 10) (omega (arith, pow-suc 10 k)) (omega (arith, pow-suc 10 k)) (omega arith) in
    omega (arith, length_more n ten h, below)

-- a table of the characters of the hexadecimal digits
abbrev pub hex_table : List ℕ
hex_table = ascii "0123456789abcdef"

entry : ℕ → ℕ → Bool
entry d x = eqb x (glyph d)

pub hex_glyph : (d : ℕ) → d < 16 → get_or hex_table d 0 ≡ glyph d
unfolding entry
hex_glyph d h = eqb→eq (get_or hex_table d 0) (glyph d) (rule_at entry hex_table tt d h)

-- reading back

-- a digit's character is read as the digit
pub digit_glyph : (d : ℕ) → d < 16 → digit_of (glyph d) ≡ d
digit_glyph d h =
    bool_cases (ltb d 10)
    (λ t. let e : 48 + d - 48 ≡ d = omega arith in rw (t, lt-ltb (48 + d) 58 (omega (arith, ltb-true d 10 t)), e))
    (λ t. let e : 87 + d - 87 ≡ d = omega arith in rw (t, le-ltb (87 + d) 58 (omega (arith, ltb-false d 10 t)), e))

read_append : (base m : ℕ) (xs ys : List ℕ) → read_from base m (xs ++ ys) ≡ read_from base (read_from base m xs) ys
read_append base m [] ys = refl
read_append base m (x ∷ xs) ys = read_append base (m * base + digit_of x) xs ys

digits_append : (base : ℕ) (xs ys : List ℕ) → Digits base xs → Digits base ys → Digits base (xs ++ ys)
digits_append base [] ys h k = k
digits_append base (x ∷ xs) ys h k = (h.0, digits_append base xs ys h.1 k)

-- one digit, and one digit more
module _ (base : ℕ) (some : 0 < base) (most : base ≤ 16) where
  numeral_one : (d : ℕ) → d < base → Numeral base d (glyph d ∷ [])
  numeral_one d h = record { digits = ((d, h, refl), tt); value = rw (digit_glyph d (omega arith), zero-mul) (omega arith) }

  pub numeral_more : (n : ℕ) (text : List ℕ) → Numeral base (n / base) text → Numeral base n (text ++ (glyph (n % base) ∷ []))
  numeral_more n text x =
      let small : n % base < base = mod-lt n some in
      record {
        digits = digits_append base text (glyph (n % base) ∷ []) x.digits ((n % base, small, refl), tt);
        value =
            read_append base 0 text (glyph (n % base) ∷ [])
            ∙ rw (x.value, digit_glyph (n % base) (omega arith)) (div-add-mod' n base);
      }

decimal_numeral : (k n : ℕ) → n < 10 ^ k → Numeral 10 n (decimal_from k n)
unfolding decimal_from
decimal_numeral zero n h = record { digits = tt; value = omega arith }
decimal_numeral (suc k) n h = go (ltb n 10) refl (decimal_numeral k (n / 10) (omega (arith, pow-suc 10 k)))
  where
    go : (t : Bool) → ltb n 10 ≡ t → Numeral 10 (n / 10) (decimal_from k (n / 10))
        → Numeral 10 n (cond t (glyph n ∷ []) (decimal_from k (n / 10) ++ (glyph (n % 10) ∷ [])))
    go true t x = numeral_one 10 (lit< tt) (lit≤ tt) n (ltb-true n 10 t)
    go false t x = numeral_more 10 (lit< tt) (lit≤ tt) n (decimal_from k (n / 10)) x

first_append : (xs ys : List ℕ) → 48 < get_or xs 0 0 → 48 < get_or (xs ++ ys) 0 0
first_append [] ys h = absurd (omega arith)
first_append (x ∷ xs) ys h = h

decimal_front : (k n : ℕ) → 0 < n → n < 10 ^ k → 48 < get_or (decimal_from k n) 0 0
unfolding decimal_from
decimal_front zero n some h = absurd (omega arith)
decimal_front (suc k) n some h = go (ltb n 10) refl (λ l. decimal_front k (n / 10) (omega arith) (omega (arith, pow-suc 10 k)))
  where
    go : (t : Bool) → ltb n 10 ≡ t → (10 ≤ n → 48 < get_or (decimal_from k (n / 10)) 0 0)
        → 48 < get_or (cond t (glyph n ∷ []) (decimal_from k (n / 10) ++ (glyph (n % 10) ∷ []))) 0 0
    go true t f = rw t (omega arith)
    go false t f = first_append (decimal_from k (n / 10)) (glyph (n % 10) ∷ []) (f (ltb-false n 10 t))

-- k digits of a base hold a number below its power
pub digits_numeral : (base k n : ℕ) → 0 < base → base ≤ 16 → n < base ^ k → Numeral base n (digits_from base k n)
unfolding digits_from
digits_numeral base zero n some most h = record { digits = tt; value = omega (arith, pow-zero base) }
digits_numeral base (suc k) n some most h =
    let fewer : n / base < base ^ k = (div-lt_iff_lt-mul some).1 (rw pow-suc at h) in
    numeral_more base some most n (digits_from base k (n / base)) (digits_numeral base k (n / base) some most fewer)

pub hex_numeral : (k n : ℕ) → n < 16 ^ k → Numeral 16 n (hex_from k n)
hex_numeral k n h = digits_numeral 16 k n (lit< tt) (lit≤ tt) h

-- decimal_of n is n written in decimal: digits below ten that are the number n
pub decimal_back : (n : ℕ) → n < 2 ^ 64 → Numeral 10 n (decimal_of n)
decimal_back n h = decimal_numeral 20 n (omega arith)

-- with no zero in front, and the number 0 is one zero
pub decimal_first : (n : ℕ) → 0 < n → n < 2 ^ 64 → 48 < get_or (decimal_of n) 0 0
decimal_first n some h = decimal_front 20 n some (omega arith)

-- hex_of n is n written in hexadecimal, with 16 digits
pub hex_back : (n : ℕ) → n < 2 ^ 64 → Numeral 16 n (hex_of n)
hex_back n h = hex_numeral 16 n (omega arith)

pub length_hex : (n : ℕ) → length (hex_of n) ≡ 16
length_hex n = length-hex_from 16 n
