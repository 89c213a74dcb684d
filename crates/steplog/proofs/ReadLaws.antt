-- What the tests of a row say, one by one, and what each field read as a number. Assumes nothing.
use Rattle.std.specs.Prelude.{Some, None}
use mathlib.Core.Path.{◌≡◌, sym, ap, ap₂, ◌∙◌}
use mathlib.Core.Bool.{Bool, true, false, cond, ◌&&◌}
use mathlib.Core.List.{List}
use Prim.Native.Nat.{ℕ, ◌^◌, ◌<◌}
use native.Mathlib.Omega.{arith}
use borrow.Author.Tests.{eq-eqb, ne_eqb, eqb-true, lt-ltb, ltb-true}
use lib.Dec.{ltb, eqb}
use lib.ListN.{length, get_or}
use Rattle.word.specs.Memory.{part}
use Rattle.word.proofs.MemoryLaws.{length_part}
use Rattle.word.proofs.TestLaws.{bool_cases, and_both}
use Rattle.text.specs.Number.{read_from}
use Rattle.steplog.specs.Digits.{all_digits, number_of}
use Rattle.steplog.specs.Row.{between_ok, digits_ok, row_in, form_ok, reading_of}
use Rattle.steplog.specs.declared.Row.{Row}
use Rattle.steplog.proofs.DigitsLaws.{digits_below, number_says}

pub reading_row : (count : ℕ) (bytes : List ℕ) → form_ok count bytes ≡ true → reading_of count bytes ≡ Some (row_in bytes)
unfolding reading_of
reading_row count bytes e = ap (λ (t : Bool). cond t (Some (row_in bytes)) None) e

pub reading_form : (count : ℕ) (bytes : List ℕ) → form_ok count bytes ≡ false → reading_of count bytes ≡ None
unfolding reading_of
reading_form count bytes e = ap (λ (t : Bool). cond t (Some (row_in bytes)) None) e

-- a part of another length
pub form_length : (count : ℕ) (bytes : List ℕ) → (length bytes ≡ 48 → ⊥) → form_ok count bytes ≡ false
unfolding form_ok
form_length count bytes h = ap (λ (t : Bool). t && (between_ok bytes && (digits_ok bytes && ltb (row_in bytes).hart count))) (ne_eqb (length bytes) 48 h)

-- the tests of a well-formed row, one by one
pub record Formed (count : ℕ) (bytes : List ℕ) : Type 0 where
  pub long : length bytes ≡ 48
  pub between : between_ok bytes ≡ true
  pub digits : digits_ok bytes ≡ true
  pub counted : (row_in bytes).hart < count

pub form_says : (count : ℕ) (bytes : List ℕ) → form_ok count bytes ≡ true → Formed count bytes
unfolding form_ok
form_says count bytes e =
    let a = and_both (eqb (length bytes) 48) (between_ok bytes && (digits_ok bytes && ltb (row_in bytes).hart count)) e in
    let b = and_both (between_ok bytes) (digits_ok bytes && ltb (row_in bytes).hart count) a.1 in
    let c = and_both (digits_ok bytes) (ltb (row_in bytes).hart count) b.1 in
    record { long = eqb-true (length bytes) 48 a.0; between = b.0; digits = c.0; counted = ltb-true (row_in bytes).hart count c.1 }

pub form_holds : (count : ℕ) (bytes : List ℕ) → Formed count bytes → form_ok count bytes ≡ true
unfolding form_ok
form_holds count bytes f =
    ap₂ ◌&&◌ (eq-eqb (length bytes) 48 f.long)
    (ap₂ ◌&&◌ f.between (ap₂ ◌&&◌ f.digits (lt-ltb (row_in bytes).hart count f.counted)))

-- what stands between the fields
pub record Between (bytes : List ℕ) : Type 0 where
  pub space1 : get_or bytes 1 0 ≡ 32
  pub space2 : get_or bytes 18 0 ≡ 32
  pub space3 : get_or bytes 27 0 ≡ 32
  pub space4 : get_or bytes 30 0 ≡ 32
  pub feed : get_or bytes 47 0 ≡ 10

pub between_says : (bytes : List ℕ) → between_ok bytes ≡ true → Between bytes
unfolding between_ok
between_says bytes e =
    let a = and_both (eqb (get_or bytes 1 0) 32) _ e in
    let b = and_both (eqb (get_or bytes 18 0) 32) _ a.1 in
    let c = and_both (eqb (get_or bytes 27 0) 32) _ b.1 in
    let d = and_both (eqb (get_or bytes 30 0) 32) _ c.1 in
    record {
      space1 = eqb-true (get_or bytes 1 0) 32 a.0;
      space2 = eqb-true (get_or bytes 18 0) 32 b.0;
      space3 = eqb-true (get_or bytes 27 0) 32 c.0;
      space4 = eqb-true (get_or bytes 30 0) 32 d.0;
      feed = eqb-true (get_or bytes 47 0) 10 d.1;
    }

pub between_holds : (bytes : List ℕ) → Between bytes → between_ok bytes ≡ true
unfolding between_ok
between_holds bytes b =
    ap₂ ◌&&◌ (eq-eqb (get_or bytes 1 0) 32 b.space1)
    (ap₂ ◌&&◌ (eq-eqb (get_or bytes 18 0) 32 b.space2)
    (ap₂ ◌&&◌ (eq-eqb (get_or bytes 27 0) 32 b.space3)
    (ap₂ ◌&&◌ (eq-eqb (get_or bytes 30 0) 32 b.space4) (eq-eqb (get_or bytes 47 0) 10 b.feed))))

-- the digits of the five fields
pub record Fields (bytes : List ℕ) : Type 0 where
  pub hart : all_digits 10 (part bytes 0 1) ≡ true
  pub pc : all_digits 16 (part bytes 2 16) ≡ true
  pub word : all_digits 16 (part bytes 19 8) ≡ true
  pub rd : all_digits 10 (part bytes 28 2) ≡ true
  pub value : all_digits 16 (part bytes 31 16) ≡ true

pub digits_say : (bytes : List ℕ) → digits_ok bytes ≡ true → Fields bytes
unfolding digits_ok
digits_say bytes e =
    let a = and_both (all_digits 10 (part bytes 0 1)) _ e in
    let b = and_both (all_digits 16 (part bytes 2 16)) _ a.1 in
    let c = and_both (all_digits 16 (part bytes 19 8)) _ b.1 in
    let d = and_both (all_digits 10 (part bytes 28 2)) _ c.1 in
    record { hart = a.0; pc = b.0; word = c.0; rd = d.0; value = d.1 }

pub digits_hold : (bytes : List ℕ) → Fields bytes → digits_ok bytes ≡ true
unfolding digits_ok
digits_hold bytes f = ap₂ ◌&&◌ f.hart (ap₂ ◌&&◌ f.pc (ap₂ ◌&&◌ f.word (ap₂ ◌&&◌ f.rd f.value)))

-- a test that fails
pub form_fails : (count : ℕ) (bytes : List ℕ) → (Formed count bytes → ⊥) → None ≡ reading_of count bytes
form_fails count bytes h =
    bool_cases (form_ok count bytes) (λ t. absurd (h (form_says count bytes t))) (λ f. sym (reading_form count bytes f))

-- the digits of a field, and the number that they are
pub record FieldIs (bytes : List ℕ) (base place k n : ℕ) : Type 0 where
  pub digits : all_digits base (part bytes place k) ≡ true
  pub value : n ≡ read_from base 0 (part bytes place k)

pub field_is : (bytes : List ℕ) (base place k n : ℕ) → number_of base (part bytes place k) ≡ Some n → FieldIs bytes base place k n
field_is bytes base place k n e = let s = number_says base (part bytes place k) n e in record { digits = s.0; value = s.1 }

-- a word of 8 digits fits 32 bits
pub word_below : (bytes : List ℕ) (word : ℕ) → length bytes ≡ 48 → FieldIs bytes 16 19 8 word → word < 2 ^ 32
word_below bytes word long is =
    let few : length (part bytes 19 8) ≡ 8 = length_part bytes 19 8 (omega (arith, long)) in
    rw is.value (rw few at (digits_below 16 (part bytes 19 8) is.digits))

-- the hart that its digit is
pub counts : (count : ℕ) (bytes : List ℕ) (hart : ℕ) → Formed count bytes → FieldIs bytes 10 0 1 hart → hart < count
unfolding row_in
counts count bytes hart f is = rw is.value f.counted

-- all of them pass
module _ (count : ℕ) (bytes : List ℕ) (r : Row) where
  pub row_read : length bytes ≡ 48 → between_ok bytes ≡ true → FieldIs bytes 10 0 1 r.hart → FieldIs bytes 16 2 16 r.pc → FieldIs bytes 16 19 8 r.word
      → FieldIs bytes 10 28 2 r.rd → FieldIs bytes 16 31 16 r.value → r.hart < count → Some r ≡ reading_of count bytes
  unfolding row_in
  row_read long between hart pc word rd value counted =
      let fields : Fields bytes = record { hart = hart.digits; pc = pc.digits; word = word.digits; rd = rd.digits; value = value.digits } in
      let formed : Formed count bytes =
      record { long = long; between = between; digits = digits_hold bytes fields; counted = let c : read_from 10 0 (part bytes 0 1) < count = rw (← hart.value) counted in c } in
      let row : r ≡ row_in bytes = rw (hart.value, pc.value, word.value, rd.value, value.value) in
      ap Some row ∙ sym (reading_row count bytes (form_holds count bytes formed))
