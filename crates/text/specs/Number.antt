-- Numbers as text, in ASCII.
-- RULES 9.
use Rattle.std.specs.Prelude.{◌≡◌, ℕ, zero, suc, ◌+◌, ◌*◌, ◌-◌, ◌/◌, ◌%◌, ◌<◌, cond, List, [], ◌∷◌, ◌++◌, ltb}

-- a digit below 16: `0` to `9`, then `a` to `f`
abbrev pub glyph : ℕ → ℕ
glyph d = cond (ltb d 10) (48 + d) (87 + d)

-- n in decimal with no zeros in front, of which at most the last k digits
unfoldable pub decimal_from : ℕ → ℕ → List ℕ
decimal_from zero n = []
decimal_from (suc k) n = cond (ltb n 10) (glyph n ∷ []) (decimal_from k (n / 10) ++ (glyph (n % 10) ∷ []))

-- n in decimal: 20 digits hold every number below 2 ^ 64
abbrev pub decimal_of : ℕ → List ℕ
decimal_of n = decimal_from 20 n

-- the last k digits of n in the base
unfoldable pub digits_from : ℕ → ℕ → ℕ → List ℕ
digits_from base zero n = []
digits_from base (suc k) n = digits_from base k (n / base) ++ (glyph (n % base) ∷ [])

-- the last k hexadecimal digits of n
abbrev pub hex_from : ℕ → ℕ → List ℕ
hex_from k n = digits_from 16 k n

-- n in 16 hexadecimal digits, which hold every number below 2 ^ 64
abbrev pub hex_of : ℕ → List ℕ
hex_of n = hex_from 16 n

-- reading back: the digit that a character is
abbrev pub digit_of : ℕ → ℕ
digit_of c = cond (ltb c 58) (c - 48) (c - 87)

-- the number that digits are, after others that are m
abbrev pub read_from : ℕ → ℕ → List ℕ → ℕ
read_from base m [] = m
read_from base m (c ∷ cs) = read_from base (m * base + digit_of c) cs

-- each character is a digit below the base
abbrev pub Digits : ℕ → List ℕ → Type 0
Digits base [] = Unit {0}
Digits base (c ∷ cs) = ((d : ℕ) × (d < base) × (c ≡ glyph d)) × Digits base cs

-- the text is the number n written in the base
pub record Numeral (base n : ℕ) (text : List ℕ) : Type 0 where
  pub digits : Digits base text
  pub value : read_from base 0 text ≡ n
