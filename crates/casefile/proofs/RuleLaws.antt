-- A file is refused exactly by the rows of 01, the first that applies, at the lowest place where it does: on every board, so on the default one. Assumes
-- nothing.
use mathlib.Core.Path.{◌≡◌, refl, sym, ap, ap₂, ◌∙◌, subst}
use mathlib.Core.Logic.{◌↔◌}
use mathlib.Core.Bool.{true, false}
use mathlib.Core.List.{List}
use Prim.Native.Nat.{ℕ, ◌+◌, ◌-◌, ◌%◌, ◌≤◌, ◌<◌}
use native.Mathlib.Omega.{arith}
use lib.Dec.{ltb, leb, eqb}
use lib.ListN.{length, drop, length-drop}
use lib.Seq.{take_all}
use borrow.Author.Tests.{ltb-true, ltb-false, leb-true, eqb-true, eqb-false, eq-eqb, le-ltb, le-leb}
use Rattle.word.specs.Memory.{part, field_at}
use Rattle.word.proofs.TestLaws.{bool_cases, contrary, never, and_both}
use Rattle.settings.specs.Settings.{granule_of}
use Rattle.settings.specs.Boards.{default_board}
use Rattle.settings.specs.declared.Board.{Board}
use Rattle.settings.specs.declared.Settings.{Settings}
use Rattle.machine.proofs.StateLaws.{top_exact}
use Rattle.std.specs.Prelude.{Ok, Err}
use Rattle.refusal.specs.declared.Refusal.{Refusal}
use Rattle.events.specs.Events.{Checked, checked_of}
use Rattle.events.specs.Rules.{WrongEvents}
use Rattle.events.proofs.RuleLaws as E
use Rattle.events.proofs.RowLaws as R
use Rattle.casefile.specs.Table.{refused, bodies_at, entry_of, table_of}
use Rattle.casefile.specs.Harts.{base_of, count_of, harts_ok, HartsRules, settings_of}
use Rattle.casefile.specs.Case.{refused_case, length_ok, memory_body_ok, bodies_of, parts_of, case_on, case_of}
use Rattle.casefile.specs.Rules.{FileRules, WrongField, entries, kind1, offset1, kind2, offset2, kind3, offset3, end3}
use Rattle.casefile.specs.Rules.{harts_in, memory_in, events_in, LengthRules, MemoryBodyRules}
use Rattle.casefile.specs.Rules.{FileRow, bad_length, bad_table, bad_harts, bad_memory_length, bad_events}
use Rattle.casefile.specs.Rules.{RefusedOn, UnrefusedOn, RefusedBy, UnrefusedFile, case_in}
use Rattle.casefile.specs.declared.Case.{Case}
use Rattle.casefile.proofs.HartsLaws.{harts_exact}

-- ---- tests

eq_cases : {P : Type 0} (a b : ℕ) → (a ≡ b → eqb a b ≡ true → P) → ((a ≡ b → ⊥) → eqb a b ≡ false → P) → P
eq_cases a b f g = bool_cases (eqb a b) (λ t. f (eqb-true a b t) t) (λ t. g (eqb-false a b t) t)

-- a row that is wrong at a place stands at p or later, if it is right where its place is below p
from_place : {A : Type 0} (p q k : ℕ) → q ≡ k → (A → ⊥) → (k < p → A) → p ≤ q
from_place p q k e w a = bool_cases (ltb k p) (λ t. absurd (w (a (ltb-true k p t)))) (λ t. omega (arith, ltb-false k p t))

module _ (settings : Settings) where
  pub length_exact : (n : ℕ) → (length_ok settings n ≡ true) ↔ LengthRules settings n
  unfolding length_ok
  length_exact n = (
    λ e.
        let a = and_both (leb 64 n) _ e in
        let b = and_both (leb n 1048576) _ a.1 in
        (leb-true _ _ a.0, leb-true _ _ b.0, eqb-true _ _ b.1),
    λ r. rw (le-leb 64 n r.0, le-leb n 1048576 r.1, eq-eqb (n % granule_of settings) 0 r.2),
  )

pub memory_body_exact : (board : Board) (harts : List ℕ) (n : ℕ) → (memory_body_ok board harts n ≡ true) ↔ MemoryBodyRules board harts n
unfolding memory_body_ok
memory_body_exact board harts n = (
  λ e.
      let a = and_both (length_ok (settings_of board harts) n) _ e in
      ((length_exact (settings_of board harts) n).0 a.0, (top_exact (settings_of board harts) (base_of harts) n).0 a.1),
  λ r. rw ((length_exact (settings_of board harts) n).1 r.0, (top_exact (settings_of board harts) (base_of harts) n).1 r.1),
)

-- ---- 7 and 8: the table

module _ (file : List ℕ) where
  wrong_from : (p : ℕ) → (0 < p → field_at file 0 ≡ 3) → (4 < p → field_at file 4 ≡ 1) → (8 < p → field_at file 8 ≡ 40)
      → (16 < p → field_at file 16 ≡ 2) → (20 < p → field_at file 20 ≡ field_at file 8 + field_at file 12)
      → (28 < p → field_at file 28 ≡ 3) → (32 < p → field_at file 32 ≡ field_at file 20 + field_at file 24)
      → (36 < p → field_at file 32 + field_at file 36 ≡ length file)
      → (q : ℕ) → WrongField file q → p ≤ q
  wrong_from p a b c d e f g h q (entries z w) = from_place p q 0 z w a
  wrong_from p a b c d e f g h q (kind1 z w) = from_place p q 4 z w b
  wrong_from p a b c d e f g h q (offset1 z w) = from_place p q 8 z w c
  wrong_from p a b c d e f g h q (kind2 z w) = from_place p q 16 z w d
  wrong_from p a b c d e f g h q (offset2 z w) = from_place p q 20 z w e
  wrong_from p a b c d e f g h q (kind3 z w) = from_place p q 28 z w f
  wrong_from p a b c d e f g h q (offset3 z w) = from_place p q 32 z w g
  wrong_from p a b c d e f g h q (end3 z w) = from_place p q 36 z w h

  wrong_below : (q : ℕ) → WrongField file q → q ≤ 36
  wrong_below q (entries z w) = omega arith
  wrong_below q (kind1 z w) = omega arith
  wrong_below q (offset1 z w) = omega arith
  wrong_below q (kind2 z w) = omega arith
  wrong_below q (offset2 z w) = omega arith
  wrong_below q (kind3 z w) = omega arith
  wrong_below q (offset3 z w) = omega arith
  wrong_below q (end3 z w) = omega arith

  -- a table without a wrong field: where the bodies lie
  record Right : Type 0 where
    start : field_at file 8 ≡ 40
    next2 : field_at file 20 ≡ field_at file 8 + field_at file 12
    next3 : field_at file 32 ≡ field_at file 20 + field_at file 24
    last : field_at file 32 + field_at file 36 ≡ length file
    none : (q : ℕ) → WrongField file q → ⊥

  data Listed : Type 0 where
    unsized : table_of file ≡ refused 7 0 → (FileRules (length file) → ⊥) → Listed
    wrong : (p : ℕ) → table_of file ≡ refused 8 p → FileRules (length file) → WrongField file p
        → ((q : ℕ) → WrongField file q → p ≤ q) → Listed
    right : table_of file ≡ bodies_at (field_at file 20) (field_at file 32) → FileRules (length file) → Right → Listed

  module _ (least : 40 ≤ length file) (most : length file ≤ 65536) where
    lo : ltb (length file) 40 ≡ false
    lo = le-ltb (length file) 40 least

    hi : ltb 65536 (length file) ≡ false
    hi = le-ltb 65536 (length file) most

    module _ (a : field_at file 0 ≡ 3) (b : field_at file 4 ≡ 1) (c : field_at file 8 ≡ 40) where
      module _ (d : field_at file 16 ≡ 2) (e : field_at file 20 ≡ 40 + field_at file 12) where
        third : Listed
        unfolding table_of entry_of
        third =
            let a' = eq-eqb (field_at file 0) 3 a in
            let b' = eq-eqb (field_at file 4) 1 b in
            let c' = eq-eqb (field_at file 8) 40 c in
            let d' = eq-eqb (field_at file 16) 2 d in
            let e' = eq-eqb (field_at file 20) (40 + field_at file 12) e in
            eq_cases (field_at file 28) 3
            (λ f f'.
            eq_cases (field_at file 32) (40 + field_at file 12 + field_at file 24)
            (λ g g'.
            eq_cases (40 + field_at file 12 + field_at file 24 + field_at file 36) (length file)
            (λ h h'.
            right (rw (lo, hi, a', b', c', d', e', f', g', h') (ap₂ bodies_at (sym e) (sym g))) (least, most)
            (record {
              start = c;
              next2 = omega arith;
              next3 = omega arith;
              last = omega arith;
              none = λ q w.
                  let l = wrong_from 40 (λ z. a) (λ z. b) (λ z. c) (λ z. d) (λ z. omega arith) (λ z. f) (λ z. omega arith) (λ z. omega arith) q w in
                  omega (arith, l, wrong_below q w);
            }))
            (λ h h'.
            wrong 36 (rw (lo, hi, a', b', c', d', e', f', g', h')) (least, most) (end3 refl (λ z. h (omega arith)))
            (wrong_from 36 (λ z. a) (λ z. b) (λ z. c) (λ z. d) (λ z. omega arith) (λ z. f) (λ z. omega arith) (never refl))))
            (λ g g'.
            wrong 32 (rw (lo, hi, a', b', c', d', e', f', g')) (least, most) (offset3 refl (λ z. g (omega arith)))
            (wrong_from 32 (λ z. a) (λ z. b) (λ z. c) (λ z. d) (λ z. omega arith) (λ z. f) (never refl) (never refl))))
            (λ f f'.
            wrong 28 (rw (lo, hi, a', b', c', d', e', f')) (least, most) (kind3 refl f)
            (wrong_from 28 (λ z. a) (λ z. b) (λ z. c) (λ z. d) (λ z. omega arith) (never refl) (never refl) (never refl)))

      second : Listed
      unfolding table_of entry_of
      second =
          let a' = eq-eqb (field_at file 0) 3 a in
          let b' = eq-eqb (field_at file 4) 1 b in
          let c' = eq-eqb (field_at file 8) 40 c in
          eq_cases (field_at file 16) 2
          (λ d d'.
          eq_cases (field_at file 20) (40 + field_at file 12) (λ e e'. third d e)
          (λ e e'.
          wrong 20 (rw (lo, hi, a', b', c', d', e')) (least, most) (offset2 refl (λ z. e (omega arith)))
          (wrong_from 20 (λ z. a) (λ z. b) (λ z. c) (λ z. d) (never refl) (never refl) (never refl) (never refl))))
          (λ d d'.
          wrong 16 (rw (lo, hi, a', b', c', d')) (least, most) (kind2 refl d)
          (wrong_from 16 (λ z. a) (λ z. b) (λ z. c) (never refl) (never refl) (never refl) (never refl) (never refl)))

    listed_fields : Listed
    unfolding table_of entry_of
    listed_fields =
        eq_cases (field_at file 0) 3
        (λ a a'.
        eq_cases (field_at file 4) 1
        (λ b b'.
        eq_cases (field_at file 8) 40 (λ c c'. second a b c)
        (λ c c'.
        wrong 8 (rw (lo, hi, a', b', c')) (least, most) (offset1 refl c)
        (wrong_from 8 (λ z. a) (λ z. b) (never refl) (never refl) (never refl) (never refl) (never refl) (never refl))))
        (λ b b'.
        wrong 4 (rw (lo, hi, a', b')) (least, most) (kind1 refl b)
        (wrong_from 4 (λ z. a) (never refl) (never refl) (never refl) (never refl) (never refl) (never refl) (never refl))))
        (λ a a'. wrong 0 (rw (lo, hi, a')) (least, most) (entries refl a) (λ q w. omega arith))

  listed : Listed
  unfolding table_of
  listed =
      bool_cases (ltb (length file) 40) (λ s. unsized (rw s) (λ r. omega (arith, r.0, ltb-true (length file) 40 s)))
      (λ s.
      bool_cases (ltb 65536 (length file)) (λ t. unsized (rw (s, t)) (λ r. omega (arith, r.1, ltb-true 65536 (length file) t)))
      (λ t. listed_fields (ltb-false _ _ s) (ltb-false _ _ t)))

-- ---- the rows decide

module _ (board : Board) (file : List ℕ) where
  none_below : (n : ℕ) → (7 < n → FileRules (length file)) → (8 < n → (q : ℕ) → WrongField file q → ⊥) → (9 < n → HartsRules board (harts_in file))
      → (10 < n → MemoryBodyRules board (harts_in file) (length (memory_in file)))
      → (11 < n → (q : ℕ) → WrongEvents (count_of (harts_in file)) (base_of (harts_in file)) (length (memory_in file)) (events_in file) q → ⊥)
      → (k q : ℕ) → k < n → FileRow board file k q → ⊥
  none_below n a b c d e k q l (bad_length z w r) = r (a (omega arith))
  none_below n a b c d e k q l (bad_table z w) = b (omega arith) q w
  none_below n a b c d e k q l (bad_harts z w r) = r (c (omega arith))
  none_below n a b c d e k q l (bad_memory_length z w r) = r (d (omega arith))
  none_below n a b c d e k q l (bad_events z p w r) = e (omega arith) p r

  pub numbered : (k q : ℕ) → FileRow board file k q → (7 ≤ k) × (k ≤ 11)
  numbered k q (bad_length z w r) = (omega arith, omega arith)
  numbered k q (bad_table z w) = (omega arith, omega arith)
  numbered k q (bad_harts z w r) = (omega arith, omega arith)
  numbered k q (bad_memory_length z w r) = (omega arith, omega arith)
  numbered k q (bad_events z p w r) = (omega arith, omega arith)

  -- where a row applies, by its number
  abbrev NotBelow : ℕ → ℕ → Type 0
  NotBelow n p = (q : ℕ) → FileRow board file n q → p ≤ q

  table_from : (p : ℕ) → ((q : ℕ) → WrongField file q → p ≤ q) → NotBelow 8 p
  table_from p f q (bad_length z w r) = absurd (omega arith)
  table_from p f q (bad_table z w) = f q w
  table_from p f q (bad_harts z w r) = absurd (omega arith)
  table_from p f q (bad_memory_length z w r) = absurd (omega arith)
  table_from p f q (bad_events z i w r) = absurd (omega arith)

  harts_from : NotBelow 9 (field_at file 8)
  harts_from q (bad_length z w r) = absurd (omega arith)
  harts_from q (bad_table z w) = absurd (omega arith)
  harts_from q (bad_harts z w r) = omega arith
  harts_from q (bad_memory_length z w r) = absurd (omega arith)
  harts_from q (bad_events z i w r) = absurd (omega arith)

  memory_from : NotBelow 10 (field_at file 20)
  memory_from q (bad_length z w r) = absurd (omega arith)
  memory_from q (bad_table z w) = absurd (omega arith)
  memory_from q (bad_harts z w r) = absurd (omega arith)
  memory_from q (bad_memory_length z w r) = omega arith
  memory_from q (bad_events z i w r) = absurd (omega arith)

  events_from : (p : ℕ)
      → ((q : ℕ) → q < p → WrongEvents (count_of (harts_in file)) (base_of (harts_in file)) (length (memory_in file)) (events_in file) q → ⊥)
      → NotBelow 11 (field_at file 32 + p)
  events_from p f q (bad_length z w r) = absurd (omega arith)
  events_from p f q (bad_table z w) = absurd (omega arith)
  events_from p f q (bad_harts z w r) = absurd (omega arith)
  events_from p f q (bad_memory_length z w r) = absurd (omega arith)
  events_from p f q (bad_events z i w r) = let l : p ≤ i = E.not_lower i p (λ k. f i k r) in omega (arith, l, w)

  not_below : (n p : ℕ) → NotBelow n p → (q : ℕ) → q < p → FileRow board file n q → ⊥
  not_below n p f q l r = omega (arith, f q r, l)

  -- refused by the first row that applies, at the lowest place, or read
  abbrev Decided : Type 0
  Decided = R.Decided (FileRow board file) (case_on board file) refused_case (Ok (case_in board file))

  module _ (sized : FileRules (length file)) where
    refused_8 : (p : ℕ) → table_of file ≡ refused 8 p → WrongField file p → ((q : ℕ) → WrongField file q → p ≤ q) → Decided
    unfolding case_on
    refused_8 p t w f =
        R.refuses 8 p (ap (parts_of board file) t)
        (record {
          applies = bad_table refl w;
          first = none_below 8 (λ l. sized) (never refl) (never refl) (never refl) (never refl);
          lowest = not_below 8 p (table_from p f);
        })

    -- the bodies that the table names are those that are read
    module _ (t : table_of file ≡ bodies_at (field_at file 20) (field_at file 32)) (r : Right file) where
      harts_same : part file 40 (field_at file 20 - 40) ≡ harts_in file
      harts_same =
          let n : field_at file 20 - 40 ≡ field_at file 12 = omega (arith, r.start, r.next2) in
          ap₂ (part file) (sym r.start) n

      memory_same : part file (field_at file 20) (field_at file 32 - field_at file 20) ≡ memory_in file
      memory_same =
          let n : field_at file 32 - field_at file 20 ≡ field_at file 24 = omega (arith, r.next3) in
          ap (part file (field_at file 20)) n

      events_same : drop (field_at file 32) file ≡ events_in file
      unfolding part
      events_same = sym (take_all (field_at file 36) (drop (field_at file 32) file) (rw length-drop (omega (arith, r.last))))

      case_bodies : case_on board file ≡ bodies_of board (field_at file 20) (field_at file 32) (harts_in file) (memory_in file) (events_in file)
      unfolding case_on
      case_bodies = ap (parts_of board file) t ∙ rw (harts_same, memory_same, events_same)

      -- what the tests of both bodies say
      kept : harts_ok board (harts_in file) ≡ true → HartsRules board (harts_in file)
      kept = (harts_exact board (harts_in file)).0

      lent : memory_body_ok board (harts_in file) (length (memory_in file)) ≡ true → MemoryBodyRules board (harts_in file) (length (memory_in file))
      lent = (memory_body_exact board (harts_in file) (length (memory_in file))).0

      abbrev checked : Checked
      checked = checked_of (count_of (harts_in file)) (base_of (harts_in file)) (length (memory_in file)) (events_in file)

      refused_9 : harts_ok board (harts_in file) ≡ false → Decided
      unfolding bodies_of
      refused_9 h =
          let e : refused_case 9 40 ≡ refused_case 9 (field_at file 8) = ap (refused_case 9) (sym r.start) in
          R.refuses 9 (field_at file 8) (case_bodies ∙ rw h e)
          (record {
            applies = bad_harts refl refl (λ ok. contrary ((harts_exact board (harts_in file)).1 ok) h);
            first = none_below 9 (λ l. sized) (λ l. r.none) (never refl) (never refl) (never refl);
            lowest = not_below 9 (field_at file 8) harts_from;
          })

      refused_10 : harts_ok board (harts_in file) ≡ true → memory_body_ok board (harts_in file) (length (memory_in file)) ≡ false → Decided
      unfolding bodies_of
      refused_10 h l =
          R.refuses 10 (field_at file 20) (case_bodies ∙ rw (h, l))
          (record {
            applies = bad_memory_length refl refl (λ ok. contrary ((memory_body_exact board (harts_in file) (length (memory_in file))).1 ok) l);
            first = none_below 10 (λ l. sized) (λ l. r.none) (λ l. kept h) (never refl) (never refl);
            lowest = not_below 10 (field_at file 20) memory_from;
          })

      by_events : harts_ok board (harts_in file) ≡ true → memory_body_ok board (harts_in file) (length (memory_in file)) ≡ true
          → (c : Checked) → checked ≡ c → Decided
      unfolding bodies_of
      by_events h l (Err p) e =
          let w = (E.bad_exact (count_of (harts_in file)) (base_of (harts_in file)) (length (memory_in file)) (events_in file) p).0 e in
          R.refuses 11 (field_at file 32 + p) (case_bodies ∙ rw (h, l, e) refl)
          (record {
            applies = bad_events refl p refl w.wrong;
            first = none_below 11 (λ z. sized) (λ z. r.none) (λ z. kept h) (λ z. lent l) (never refl);
            lowest = not_below 11 (field_at file 32 + p) (events_from p w.lowest);
          })
      by_events h l (Ok x) e =
          let f = (E.good_exact (count_of (harts_in file)) (base_of (harts_in file)) (length (memory_in file)) (events_in file)).0 e in
          R.accepts (case_bodies ∙ rw (h, l, e))
          (λ k q row.
          none_below 12 (λ z. sized) (λ z. r.none) (λ z. kept h) (λ z. lent l) (λ z. f) k q (omega (arith, (numbered k q row).1)) row)

      by_bodies_lem : Decided
      by_bodies_lem =
          bool_cases (harts_ok board (harts_in file))
          (λ h.
          bool_cases (memory_body_ok board (harts_in file) (length (memory_in file)))
          (λ l. by_events h l checked refl)
          (λ l. refused_10 h l))
          refused_9

  by_table : Listed file → Decided
  unfolding case_on
  by_table (unsized t w) =
      R.refuses 7 0 (ap (parts_of board file) t)
      (record {
        applies = bad_length refl refl w;
        first = none_below 7 (never refl) (never refl) (never refl) (never refl) (never refl);
        lowest = λ q l r. omega arith;
      })
  by_table (wrong p t sized w f) = refused_8 sized p t w f
  by_table (right t sized r) = by_bodies_lem sized t r

  decided : Decided
  decided = by_table (listed file)

-- ---- both ways

module _ (board : Board) (file : List ℕ) where
  pub refused_one_on : (m p n q : ℕ) → RefusedOn board file m p → RefusedOn board file n q → (m ≡ n) × (p ≡ q)
  refused_one_on = R.one_row (FileRow board file)

  pub refused_case_on : (number place : ℕ) → RefusedOn board file number place → case_on board file ≡ refused_case number place
  refused_case_on = R.refused_by (FileRow board file) (case_on board file) refused_case (Ok (case_in board file)) (decided board file)

  pub accepted_case_on : UnrefusedOn board file → case_on board file ≡ Ok (case_in board file)
  accepted_case_on = R.accepted_by (FileRow board file) (case_on board file) refused_case (Ok (case_in board file)) (decided board file)

  row_of : Decided board file → (n p : ℕ) → case_on board file ≡ refused_case n p → RefusedOn board file n p
  row_of (R.refuses m q c r) n p o =
      let same : ◌≡◌ {A = Refusal} (record { number = m; place = q }) (record { number = n; place = p }) = cc in
      subst (λ (f : Refusal). RefusedOn board file f.number f.place) same r
  row_of (R.accepts c u) n p o = let z : ⊥ = cc in absurd z

  -- 01: a file is refused by this number at this place exactly if its row is the first that applies, and this the lowest place where it does
  pub refused_exact_on : (number place : ℕ) → (case_on board file ≡ refused_case number place) ↔ RefusedOn board file number place
  refused_exact_on n p = (row_of (decided board file) n p, refused_case_on n p)

  read : Decided board file → (c : Case) → case_on board file ≡ Ok c → (c ≡ case_in board file) × UnrefusedOn board file
  read (R.refuses m q e r) c o = let z : ⊥ = cc in absurd z
  read (R.accepts e u) c o = (cc, u)

  -- and is a case, its bodies at the places that the table says, exactly if no row applies
  pub accepted_exact_on : (c : Case) → (case_on board file ≡ Ok c) ↔ ((c ≡ case_in board file) × UnrefusedOn board file)
  accepted_exact_on c = (read (decided board file) c, λ (a, u). accepted_case_on u ∙ ap Ok (sym a))

-- ---- and where no board is given

module _ (file : List ℕ) where
  pub refused_one : (m p n q : ℕ) → RefusedBy file m p → RefusedBy file n q → (m ≡ n) × (p ≡ q)
  refused_one = refused_one_on default_board file

  pub refused_case_lem : (number place : ℕ) → RefusedBy file number place → case_of file ≡ refused_case number place
  refused_case_lem = refused_case_on default_board file

  pub accepted_case : UnrefusedFile file → case_of file ≡ Ok (case_in default_board file)
  accepted_case = accepted_case_on default_board file

  pub refused_exact : (number place : ℕ) → (case_of file ≡ refused_case number place) ↔ RefusedBy file number place
  refused_exact = refused_exact_on default_board file

  pub accepted_exact : (c : Case) → (case_of file ≡ Ok c) ↔ ((c ≡ case_in default_board file) × UnrefusedFile file)
  accepted_exact = accepted_exact_on default_board file
