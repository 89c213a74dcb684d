-- Numbers of a fixed number of digits in a base up to 16: written, as `text` writes them, and read by tests.
use Rattle.std.specs.Prelude.{◌≡◌, ℕ, ◌<◌, Bool, true, cond, ◌&&◌, List, [], ◌∷◌, ltb, eqb, get_or, Option, Some, None}
use Rattle.text.specs.Number.{glyph, digit_of, read_from}
pub use Rattle.text.specs.Number.{digits_from}

-- the character is that of a digit below the base. Upper-case letters are none
unfoldable pub is_digit : ℕ → ℕ → Bool
is_digit base c = ltb (digit_of c) base && eqb c (glyph (digit_of c))

-- each character is
unfoldable pub all_digits : ℕ → List ℕ → Bool
all_digits base [] = true
all_digits base (c ∷ cs) = is_digit base c && all_digits base cs

-- the number that the characters are in the base, if they are one
unfoldable pub number_of : ℕ → List ℕ → Option ℕ
number_of base cs = cond (all_digits base cs) (Some (read_from base 0 cs)) None

-- a table that has for each byte the digit below 16 that it is the character of, or 16
abbrev pub DigitTable : List ℕ → Type 0
DigitTable table = (c : ℕ) → c < 256 → get_or table c 0 ≡ cond (is_digit 16 c) (digit_of c) 16
