-- Rows are read as they are written and written as they are read, so every byte of a row is accounted for; and a part of a log is badly formed
-- exactly if it is no row's text. Assumes nothing.
use Rattle.std.specs.Prelude.{Some, None}
use mathlib.Core.Path.{◌≡◌, refl, sym, ap, ap₂, ◌∙◌, subst}
use mathlib.Core.Bool.{true}
use mathlib.Core.Logic.{◌↔◌}
use mathlib.Core.List.{List, [], ◌∷◌, ◌++◌, append-nil}
use Prim.Native.Nat.{ℕ, suc, ◌+◌, ◌^◌, ◌≤◌, ◌<◌}
use native.Mathlib.Nat.{add-suc}
use native.Mathlib.Omega.{arith}
use lib.Dec.{lit<, lit≤}
use lib.ListN.{length, get_or, take, drop, length-append, take-append-drop, drop_of_length-le}
use lib.Seq.{append_snoc, drop-cons, drop-drop, take_at, drop_at, get_or_at, get_or-drop}
use Rattle.word.specs.Memory.{part}
use Rattle.word.proofs.MemoryLaws.{length_part}
use Rattle.word.proofs.TestLaws.{bool_cases}
use Rattle.text.specs.Number.{digits_from, read_from}
use Rattle.text.proofs.NumberLaws.{length_digits, digits_numeral}
use Rattle.steplog.specs.Digits.{all_digits}
use Rattle.steplog.specs.Row.{field_of, row_of, Fits, IsRow, row_in, form_ok, reading_of}
use Rattle.steplog.specs.declared.Row.{Row}
use Rattle.steplog.proofs.DigitsLaws.{digits_pass, digits_back, digits_below}
use Rattle.steplog.proofs.ReadLaws.{reading_row, reading_form, Formed, form_says, form_holds}
use Rattle.steplog.proofs.ReadLaws.{Between, between_says, between_holds, Fields, digits_say, digits_hold}

-- k digits of n stand at a place, a byte after them, and behind it the rest
record Stands (bytes : List ℕ) (base place k n after : ℕ) (rest : List ℕ) : Type 0 where
  pub digits : part bytes place k ≡ digits_from base k n
  pub next : get_or bytes (place + k) 0 ≡ after
  pub behind : drop (place + suc k) bytes ≡ rest

stands : (bytes : List ℕ) (base place k n after : ℕ) (rest : List ℕ) → drop place bytes ≡ digits_from base k n ++ (after ∷ []) ++ rest
    → Stands bytes base place k n after rest
unfolding part
stands bytes base place k n after rest e =
    let few : length (digits_from base k n) ≡ k = length_digits base k n in
    let flat : drop place bytes ≡ digits_from base k n ++ (after ∷ rest) = e ∙ append_snoc (digits_from base k n) after rest in
    let more : length (digits_from base k n ++ (after ∷ [])) ≡ suc k = rw (length-append, few) (omega arith) in
    record {
      digits = ap (take k) flat ∙ take_at (digits_from base k n) (after ∷ rest) k few;
      next = sym (get_or-drop place bytes k 0) ∙ ap (λ (l : List ℕ). get_or l k 0) flat ∙ get_or_at (digits_from base k n) after rest 0 k few;
      behind = sym (drop-drop (suc k) place bytes) ∙ ap (drop (suc k)) e ∙ drop_at (digits_from base k n ++ (after ∷ [])) rest (suc k) more;
    }

-- digits at a place, and the byte after them, as they are written
field_written : (bytes : List ℕ) (base place k after : ℕ) → place + suc k ≤ length bytes → all_digits base (part bytes place k) ≡ true
    → get_or bytes (place + k) 0 ≡ after
    → drop place bytes ≡ digits_from base k (read_from base 0 (part bytes place k)) ++ (after ∷ []) ++ drop (place + suc k) bytes
unfolding part
field_written bytes base place k after fit e a =
    let text = digits_from base k (read_from base 0 (part bytes place k)) in
    let same : text ≡ part bytes place k =
    ap (λ (n : ℕ). digits_from base n (read_from base 0 (part bytes place k))) (sym (length_part bytes place k (omega arith)))
    ∙ digits_back base (part bytes place k) e in
    let rest : drop k (drop place bytes) ≡ after ∷ drop (place + suc k) bytes =
    drop-drop k place bytes ∙ drop-cons bytes (place + k) 0 (omega arith)
    ∙ ap₂ (λ (c n : ℕ). c ∷ drop n bytes) a (sym (add-suc place k)) in
    sym (take-append-drop k (drop place bytes)) ∙ ap₂ ◌++◌ (sym same) rest ∙ sym (append_snoc text after (drop (place + suc k) bytes))

-- every row's text has 48 bytes
pub length_row : (r : Row) → length (row_of r) ≡ 48
unfolding row_of
length_row r = simp (length-append, length_digits)

-- what stands behind each field of a row's text
abbrev behind_rd : Row → List ℕ
behind_rd r = field_of 16 16 r.value "\n"

abbrev behind_word : Row → List ℕ
behind_word r = field_of 10 2 r.rd " " ++ behind_rd r

abbrev behind_pc : Row → List ℕ
behind_pc r = field_of 16 8 r.word " " ++ behind_word r

abbrev behind_hart : Row → List ℕ
behind_hart r = field_of 16 16 r.pc " " ++ behind_pc r

-- a row is its fields
same_row : (h p w d v : ℕ) (r : Row) → h ≡ r.hart → p ≡ r.pc → w ≡ r.word → d ≡ r.rd → v ≡ r.value
    → record { hart = h; pc = p; word = w; rd = d; value = v } ≡ r
same_row h p w d v r eh ep ew ed ev = rw (eh, ep, ew, ed, ev)

-- k digits of a number that they hold pass the test, and read back
module _ (bytes : List ℕ) (base place k n after : ℕ) (rest : List ℕ) (some : 0 < base) (most : base ≤ 16) (h : n < base ^ k)
    (s : Stands bytes base place k n after rest) where
  passes : all_digits base (part bytes place k) ≡ true
  passes = ap (all_digits base) s.digits ∙ digits_pass base (digits_from base k n) most (digits_numeral base k n some most h).digits

  reads : read_from base 0 (part bytes place k) ≡ n
  reads = ap (read_from base 0) s.digits ∙ (digits_numeral base k n some most h).value

-- a row's text: each field stands at its place
module _ (r : Row) where
  at_hart : Stands (row_of r) 10 0 1 r.hart 32 (behind_hart r)
  unfolding row_of
  at_hart = stands (row_of r) 10 0 1 r.hart 32 (behind_hart r) refl

  at_pc : Stands (row_of r) 16 2 16 r.pc 32 (behind_pc r)
  at_pc = stands (row_of r) 16 2 16 r.pc 32 (behind_pc r) at_hart.behind

  at_word : Stands (row_of r) 16 19 8 r.word 32 (behind_word r)
  at_word = stands (row_of r) 16 19 8 r.word 32 (behind_word r) at_pc.behind

  at_rd : Stands (row_of r) 10 28 2 r.rd 32 (behind_rd r)
  at_rd = stands (row_of r) 10 28 2 r.rd 32 (behind_rd r) at_word.behind

  at_value : Stands (row_of r) 16 31 16 r.value 10 []
  at_value = stands (row_of r) 16 31 16 r.value 10 [] (at_rd.behind ∙ sym (append-nil (behind_rd r)))

module _ (count : ℕ) (r : Row) (f : Fits count r) where
  fields : row_in (row_of r) ≡ r
  unfolding row_in
  fields =
      same_row _ _ _ _ _ r (reads (row_of r) 10 0 1 r.hart 32 (behind_hart r) (lit< tt) (lit≤ tt) f.hart (at_hart r))
      (reads (row_of r) 16 2 16 r.pc 32 (behind_pc r) (lit< tt) (lit≤ tt) f.pc (at_pc r))
      (reads (row_of r) 16 19 8 r.word 32 (behind_word r) (lit< tt) (lit≤ tt) f.word (at_word r))
      (reads (row_of r) 10 28 2 r.rd 32 (behind_rd r) (lit< tt) (lit≤ tt) f.rd (at_rd r))
      (reads (row_of r) 16 31 16 r.value 10 [] (lit< tt) (lit≤ tt) f.value (at_value r))

  formed : Formed count (row_of r)
  formed =
      record {
        long = length_row r;
        between =
            between_holds (row_of r)
            (record { space1 = (at_hart r).next; space2 = (at_pc r).next; space3 = (at_word r).next; space4 = (at_rd r).next; feed = (at_value r).next });
        digits =
            digits_hold (row_of r)
            (record {
              hart = passes (row_of r) 10 0 1 r.hart 32 (behind_hart r) (lit< tt) (lit≤ tt) f.hart (at_hart r);
              pc = passes (row_of r) 16 2 16 r.pc 32 (behind_pc r) (lit< tt) (lit≤ tt) f.pc (at_pc r);
              word = passes (row_of r) 16 19 8 r.word 32 (behind_word r) (lit< tt) (lit≤ tt) f.word (at_word r);
              rd = passes (row_of r) 10 28 2 r.rd 32 (behind_rd r) (lit< tt) (lit≤ tt) f.rd (at_rd r);
              value = passes (row_of r) 16 31 16 r.value 10 [] (lit< tt) (lit≤ tt) f.value (at_value r);
            });
        counted = subst (λ (x : Row). x.hart < count) (sym fields) f.counted;
      }

  -- what is written is read: the text of a row that fits is read as that row
  pub row_reads_back : reading_of count (row_of r) ≡ Some r
  row_reads_back = reading_row count (row_of r) (form_holds count (row_of r) formed) ∙ ap Some fields

-- k digits at a place are a number below that power of the base
below : (bytes : List ℕ) (base place k : ℕ) → place + k ≤ length bytes → all_digits base (part bytes place k) ≡ true
    → read_from base 0 (part bytes place k) < base ^ k
below bytes base place k fit e =
    subst (λ (n : ℕ). read_from base 0 (part bytes place k) < base ^ n) (length_part bytes place k fit) (digits_below base (part bytes place k) e)

-- well-formed bytes are the text of the row that stands in them, and it fits
module _ (count : ℕ) (bytes : List ℕ) (f : Formed count bytes) where
  digits : Fields bytes
  digits = digits_say bytes f.digits

  between : Between bytes
  between = between_says bytes f.between

  room : (n : ℕ) → n ≤ 48 → n ≤ length bytes
  room n h = omega (arith, f.long)

  from_value : drop 31 bytes ≡ behind_rd (row_in bytes)
  unfolding row_in
  from_value =
      let none : drop 48 bytes ≡ [] = drop_of_length-le bytes {i = 48} (omega (arith, f.long)) in
      field_written bytes 16 31 16 10 (room 48 (lit≤ tt)) digits.value between.feed
      ∙ ap (λ (l : List ℕ). behind_rd (row_in bytes) ++ l) none ∙ append-nil (behind_rd (row_in bytes))

  from_rd : drop 28 bytes ≡ behind_word (row_in bytes)
  unfolding row_in
  from_rd =
      field_written bytes 10 28 2 32 (room 31 (lit≤ tt)) digits.rd between.space4
      ∙ ap (λ (l : List ℕ). field_of 10 2 (row_in bytes).rd " " ++ l) from_value

  from_word : drop 19 bytes ≡ behind_pc (row_in bytes)
  unfolding row_in
  from_word =
      field_written bytes 16 19 8 32 (room 28 (lit≤ tt)) digits.word between.space3
      ∙ ap (λ (l : List ℕ). field_of 16 8 (row_in bytes).word " " ++ l) from_rd

  from_pc : drop 2 bytes ≡ behind_hart (row_in bytes)
  unfolding row_in
  from_pc =
      field_written bytes 16 2 16 32 (room 19 (lit≤ tt)) digits.pc between.space2
      ∙ ap (λ (l : List ℕ). field_of 16 16 (row_in bytes).pc " " ++ l) from_word

  written : bytes ≡ row_of (row_in bytes)
  unfolding row_in row_of
  written =
      field_written bytes 10 0 1 32 (room 2 (lit≤ tt)) digits.hart between.space1
      ∙ ap (λ (l : List ℕ). field_of 10 1 (row_in bytes).hart " " ++ l) from_pc

  fits : Fits count (row_in bytes)
  unfolding row_in
  fits =
      record {
        counted = f.counted;
        hart = below bytes 10 0 1 (room 1 (lit≤ tt)) digits.hart;
        pc = below bytes 16 2 16 (room 18 (lit≤ tt)) digits.pc;
        word = below bytes 16 19 8 (room 27 (lit≤ tt)) digits.word;
        rd = below bytes 10 28 2 (room 30 (lit≤ tt)) digits.rd;
        value = below bytes 16 31 16 (room 47 (lit≤ tt)) digits.value;
      }

pub form_is_no_row : (r : Row) → None ≡ Some r → ⊥
form_is_no_row r e = cc

-- what is read was written: bytes that are read as a row are that row's text, and the row fits
pub read_was_written : (count : ℕ) (bytes : List ℕ) (r : Row) → reading_of count bytes ≡ Some r → Fits count r × (bytes ≡ row_of r)
read_was_written count bytes r e =
    bool_cases (form_ok count bytes)
    (λ t.
    let found : Some (row_in bytes) ≡ Some r = sym (reading_row count bytes t) ∙ e in
    let same : row_in bytes ≡ r = cc in
    let f = form_says count bytes t in
    (subst (λ (x : Row). Fits count x) same (fits count bytes f), written count bytes f ∙ ap row_of same))
    (λ n. absurd (let none : None ≡ Some r = sym (reading_form count bytes n) ∙ e in cc))

-- So bytes are read as a row exactly if they are that row,
pub is_row_lem : (count : ℕ) (bytes : List ℕ) (r : Row) → (reading_of count bytes ≡ Some r) ↔ IsRow count bytes r
is_row_lem count bytes r = (
  λ e. let w = read_was_written count bytes r e in record { fits = w.0; text = w.1 },
  λ i. ap (reading_of count) i.text ∙ row_reads_back count r i.fits,
)

-- and as badly formed exactly if they are no row.
pub no_row_lem : (count : ℕ) (bytes : List ℕ) → (reading_of count bytes ≡ None) ↔ ((r : Row) → IsRow count bytes r → ⊥)
no_row_lem count bytes = (
  λ e r i. absurd (let none : None ≡ Some r = sym e ∙ (is_row_lem count bytes r).1 i in cc),
  λ none.
      bool_cases (form_ok count bytes)
      (λ t.
      let f = form_says count bytes t in
      absurd (none (row_in bytes) (record { fits = fits count bytes f; text = written count bytes f })))
      (λ n. reading_form count bytes n),
)
