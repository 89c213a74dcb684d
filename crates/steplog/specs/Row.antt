-- A row of a board's log (02 [1]): "Our boards log each step as one row of 48 bytes: hart (one digit), pc (16 lower-case hex digits), word (8), rd
-- (two decimal digits), the value in rd afterwards (16), one space between, line feed last."
use Rattle.std.specs.Prelude.{◌≡◌, ℕ, ◌^◌, ◌<◌, Bool, cond, ◌&&◌, List, ◌++◌, ltb, eqb, length, get_or, Option, Some, None}
use Prim.Native.String.{String}
use Rattle.word.specs.Memory.{part}
use Rattle.text.specs.Ascii.{ascii}
use Rattle.text.specs.Number.{read_from}
use Rattle.steplog.specs.Digits.{digits_from, all_digits}
use Rattle.steplog.specs.declared.Row.{Row}

-- a number in k digits of a base, and what stands after it
abbrev pub field_of : ℕ → ℕ → ℕ → String → List ℕ
field_of base k n after = digits_from base k n ++ ascii after

-- the text of a row
unfoldable pub row_of : Row → List ℕ
row_of r =
    field_of 10 1 r.hart " "
    ++ (field_of 16 16 r.pc " " ++ (field_of 16 8 r.word " " ++ (field_of 10 2 r.rd " " ++ field_of 16 16 r.value "\n")))

-- its numbers fit their fields, and its hart is below the count: "badly formed (a hart not below the count included)". An rd of 32 to 99 is no register,
-- and fits
pub record Fits (count : ℕ) (r : Row) : Type 0 where
  pub counted : r.hart < count
  pub hart : r.hart < 10
  pub pc : r.pc < 2 ^ 64
  pub word : r.word < 2 ^ 32
  pub rd : r.rd < 100
  pub value : r.value < 2 ^ 64

-- in words: these bytes are this row. Bytes that are no row are badly formed
pub record IsRow (count : ℕ) (bytes : List ℕ) (r : Row) : Type 0 where
  pub fits : Fits count r
  pub text : bytes ≡ row_of r

-- Read by tests. Each field stands at its own place. steplog/proofs/RoundTrip: is_row_lem and no_row_lem say that this is the same.

-- "one space between, line feed last": bytes 1, 18, 27 and 30 are spaces, byte 47 a line feed
unfoldable pub between_ok : List ℕ → Bool
between_ok bytes =
    eqb (get_or bytes 1 0) 32
    && (eqb (get_or bytes 18 0) 32 && (eqb (get_or bytes 27 0) 32 && (eqb (get_or bytes 30 0) 32 && eqb (get_or bytes 47 0) 10)))

-- each digit is one
unfoldable pub digits_ok : List ℕ → Bool
digits_ok bytes =
    all_digits 10 (part bytes 0 1)
    && (all_digits 16 (part bytes 2 16) && (all_digits 16 (part bytes 19 8) && (all_digits 10 (part bytes 28 2) && all_digits 16 (part bytes 31 16))))

-- the numbers that stand in the fields
unfoldable pub row_in : List ℕ → Row
row_in bytes =
    record {
      hart = read_from 10 0 (part bytes 0 1);
      pc = read_from 16 0 (part bytes 2 16);
      word = read_from 16 0 (part bytes 19 8);
      rd = read_from 10 0 (part bytes 28 2);
      value = read_from 16 0 (part bytes 31 16);
    }

-- "badly formed (a hart not below the count included)"
unfoldable pub form_ok : ℕ → List ℕ → Bool
form_ok count bytes = eqb (length bytes) 48 && (between_ok bytes && (digits_ok bytes && ltb (row_in bytes).hart count))

-- the row that these bytes are; none where they are badly formed
unfoldable pub reading_of : ℕ → List ℕ → Option Row
reading_of count bytes = cond (form_ok count bytes) (Some (row_in bytes)) None
