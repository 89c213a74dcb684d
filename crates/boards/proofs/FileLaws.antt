-- The laws of `first_not`, of where bodies start, and of a file read. Assumes nothing.
use Rattle.std.specs.Prelude.{Option, Some, None, Result, MatchOption}
use mathlib.Core.Path.{◌≡◌, refl, sym, ap, ap₂, ◌∙◌}
use mathlib.Core.Bool.{Bool, true, false, ◌&&◌}
use mathlib.Core.List.{List}
use mathlib.Core.Logic.{⊎_elim}
use Prim.Native.Nat.{ℕ, zero, suc, ◌+◌, ◌*◌, ◌≤◌, ◌<◌}
use native.Mathlib.Omega.{arith}
use native.Mathlib.Nat.{mul-suc, mul-zero}
use lib.Dec.{ltb, leb, eqb}
use lib.ListN.{length, get_or, replicate, length-replicate}
use borrow.Author.Tests.{ltb-true, ltb-false, leb-true, eqb-true, eqb-false, eq-eqb, ne_eqb, lt-ltb, le-ltb, le-leb, lt-leb}
use Rattle.word.specs.Each.{all_below}
use Rattle.word.proofs.EachLaws.{each_at}
use Rattle.word.proofs.TestLaws.{bool_cases, contrary, and_both, and_false, or_either}
use Rattle.word.proofs.ChooseLaws.{cond_all, cond_cases}
use Rattle.refusal.specs.declared.Refusal.{Refusal}
use Rattle.settings.specs.Boards.{board_ok}
use Rattle.settings.proofs.SettingsLaws.{board_exact}
use Rattle.boards.specs.First.{or_next, first_not}
use Rattle.boards.specs.File.{format_of, board_count, format_ok, body_size, start_of, board_in, entry_ok, table_ok}
use Rattle.boards.specs.File.{no_board, refused_file, boards_in, by_bodies, read_of, Kept}
use Rattle.boards.specs.declared.SettingsFile.{SettingsFile}

-- ---- the first number at which a test fails

module _ (p : ℕ → Bool) where
  -- what it is, without a search
  abbrev pub FirstIs : ℕ → Option ℕ → Type 0
  FirstIs n (Some k) = (k < n) × (p k ≡ false) × ((j : ℕ) → j < k → p j ≡ true)
  FirstIs n None = (j : ℕ) → j < n → p j ≡ true

  next_is : (n : ℕ) (o : Option ℕ) → FirstIs n o → FirstIs (suc n) (or_next p n o)
  next_is n (Some k) f = (omega (arith, f.0), f.1, f.2)
  next_is n None f =
      bool_cases (p n)
      (λ t.
      rw t (λ j h. bool_cases (ltb j n) (λ u. f j (ltb-true j n u)) (λ u. let e : j ≡ n = omega (arith, h, ltb-false j n u) in rw e t)))
      (λ t. rw t (omega arith, t, f))

  pub first_is : (n : ℕ) → FirstIs n (first_not p n)
  unfolding first_not
  first_is zero = λ j h. absurd (omega (arith, h))
  first_is (suc n) = next_is n (first_not p n) (first_is n)

  pub first_one : (n : ℕ) (a b : Option ℕ) → FirstIs n a → FirstIs n b → a ≡ b
  first_one n (Some i) (Some k) f g =
      bool_cases (ltb i k) (λ t. absurd (contrary (g.2 i (ltb-true i k t)) f.1))
      (λ t.
      bool_cases (ltb k i) (λ u. absurd (contrary (f.2 k (ltb-true k i u)) g.1))
      (λ u. let e : i ≡ k = omega (arith, ltb-false i k t, ltb-false k i u) in rw e))
  first_one n (Some i) None f g = absurd (contrary (g i f.0) f.1)
  first_one n None (Some k) f g = absurd (contrary (f k g.0) g.1)
  first_one n None None f g = refl

  -- so what a search finds, and finds nowhere
  pub first_at : (n k : ℕ) → k < n → ((j : ℕ) → j < k → p j ≡ true) → p k ≡ false → first_not p n ≡ Some k
  first_at n k h f e = first_one n (first_not p n) (Some k) (first_is n) (h, e, f)

  pub first_none : (n : ℕ) → ((j : ℕ) → j < n → p j ≡ true) → first_not p n ≡ None
  first_none n f = first_one n (first_not p n) None (first_is n) f

  pub first_found : (n k : ℕ) → first_not p n ≡ Some k → (k < n) × (p k ≡ false) × ((j : ℕ) → j < k → p j ≡ true)
  first_found n k e = rw e at (first_is n)

  pub first_all : (n : ℕ) → first_not p n ≡ None → (j : ℕ) → j < n → p j ≡ true
  first_all n e = rw e at (first_is n)

-- what a search of all numbers below n answers
pub first_of : (p : ℕ → Bool) (n : ℕ) (r : Option ℕ)
    → MatchOption r ((k : ℕ) → 0 ≤ k → k < n → p k ≡ true) (λ i. (0 ≤ i) × (i < n) × (p i ≡ false) × ((k : ℕ) → 0 ≤ k → k < i → p k ≡ true))
    → r ≡ first_not p n
first_of p n None f = sym (first_none p n (λ k h. f k (omega arith) h))
first_of p n (Some i) f = sym (first_at p n i f.1 (λ k h. f.3 k (omega arith) h) f.2)

next_same : (p q : ℕ → Bool) (n : ℕ) (o : Option ℕ) → p n ≡ q n → or_next p n o ≡ or_next q n o
next_same p q n (Some k) e = refl
next_same p q n None e = rw e

-- tests that are the same at every number below n
pub first_same : (p q : ℕ → Bool) (n : ℕ) → ((k : ℕ) → k < n → p k ≡ q k) → first_not p n ≡ first_not q n
unfolding first_not
first_same p q zero e = refl
first_same p q (suc n) e =
    ap (or_next p n) (first_same p q n (λ k h. e k (omega arith))) ∙ next_same p q n (first_not q n) (e n (omega arith))

-- ---- where bodies start

-- the two formats apart
pub body_1 : (format : ℕ) → format ≡ 1 → body_size format ≡ 3
unfolding body_size
body_1 format e = rw (eq-eqb format 1 e)

pub body_else : (format : ℕ) → (format ≡ 1 → ⊥) → body_size format ≡ 4
unfolding body_size
body_else format n = rw (ne_eqb format 1 n)

pub body_most : (format : ℕ) → (3 ≤ body_size format) × (body_size format ≤ 4)
unfolding body_size
body_most format = cond_all (λ b. (3 ≤ b) × (b ≤ 4)) (eqb format 1) 3 4 (omega arith, omega arith) (omega arith, omega arith)

pub start_1 : (format n k : ℕ) → format ≡ 1 → start_of format n k ≡ 8 + 8 * n + 3 * k
unfolding start_of
start_1 format n k e = ap (λ (b : ℕ). 8 + 8 * n + b * k) (body_1 format e)

pub start_else : (format n k : ℕ) → (format ≡ 1 → ⊥) → start_of format n k ≡ 8 + 8 * n + 4 * k
unfolding start_of
start_else format n k e = ap (λ (b : ℕ). 8 + 8 * n + b * k) (body_else format e)

pub start_next : (format n k : ℕ) → start_of format n (suc k) ≡ start_of format n k + body_size format
unfolding start_of
start_next format n k = rw (mul-suc (body_size format) k) (omega arith)

-- the first body starts where the table ends, and a body ends where the last one does, or before
pub start_first : (format n : ℕ) → start_of format n 0 ≡ 8 + 8 * n
unfolding start_of
start_first format n = rw (mul-zero (body_size format)) (omega arith)

pub start_within : (format n k m : ℕ) → k < m → start_of format n k + body_size format ≤ start_of format n m
start_within format n k zero h = absurd (omega arith)
start_within format n k (suc m) h =
    bool_cases (ltb k m)
    (λ t. omega (arith, start_next format n m, start_within format n k m (ltb-true k m t)))
    (λ t. let e : k ≡ m = omega (arith, ltb-false k m t) in rw e (omega (arith, start_next format n m)))

pub start_table : (format n k : ℕ) → 8 + 8 * n ≤ start_of format n k
unfolding start_of
start_table format n k = omega arith

-- and none beyond 200
pub start_most : (format n k : ℕ) → n ≤ 16 → k ≤ 16 → start_of format n k ≤ 200
start_most format n k h l =
    bool_cases (eqb format 1)
    (λ t. omega (arith, start_1 format n k (eqb-true format 1 t)))
    (λ t. omega (arith, start_else format n k (eqb-false format 1 t)))

-- ---- the table

module _ (file : List ℕ) (format n : ℕ) where
  pub record Whole : Type 0 where
    pub some : 1 ≤ n
    pub most : n ≤ 16
    pub ends : length file ≡ start_of format n n
    pub entries : all_below (entry_ok file format n) n ≡ true

  pub table_whole : table_ok file format n ≡ true → Whole
  unfolding table_ok
  table_whole t =
      let a = and_both (leb 1 n && leb n 16) _ t in
      let b = and_both (leb 1 n) (leb n 16) a.0 in
      let c = and_both (eqb (length file) (start_of format n n)) _ a.1 in
      record { some = leb-true 1 n b.0; most = leb-true n 16 b.1; ends = eqb-true _ _ c.0; entries = c.1 }

  pub whole_table : 1 ≤ n → n ≤ 16 → length file ≡ start_of format n n → table_ok file format n ≡ all_below (entry_ok file format n) n
  unfolding table_ok
  whole_table some most ends = rw (le-leb 1 n some, le-leb n 16 most, eq-eqb _ _ ends)

  pub table_few : n < 1 → table_ok file format n ≡ false
  unfolding table_ok
  table_few h = rw (lt-leb 1 n h)

  pub table_many : 16 < n → table_ok file format n ≡ false
  unfolding table_ok
  table_many h = rw (lt-leb n 16 h, and_false (leb 1 n))

  pub table_long : (length file ≡ start_of format n n → ⊥) → table_ok file format n ≡ false
  unfolding table_ok
  table_long h = rw (ne_eqb _ _ h) (and_false (leb 1 n && leb n 16))

-- ---- the file

module _ (file : List ℕ) where
  -- the first body whose content is bad
  abbrev pub first_bad : Option ℕ
  first_bad = first_not (λ k. board_ok (board_in file (format_of file) (board_count file) k)) (board_count file)

  pub read_short : length file < 8 → read_of file ≡ refused_file 21 0
  unfolding read_of
  read_short h = rw (lt-ltb _ _ h)

  module _ (long : 8 ≤ length file) where
    pub read_format : format_ok (format_of file) ≡ false → read_of file ≡ refused_file 22 0
    unfolding read_of
    read_format f = rw (le-ltb _ _ long, f)

    module _ (known : format_ok (format_of file) ≡ true) where
      pub read_table : table_ok file (format_of file) (board_count file) ≡ false → read_of file ≡ refused_file 21 0
      unfolding read_of
      read_table t = rw (le-ltb _ _ long, known, t)

      pub read_bodies : table_ok file (format_of file) (board_count file) ≡ true → read_of file ≡ by_bodies file (format_of file) (board_count file) first_bad
      unfolding read_of
      read_bodies t = rw (le-ltb _ _ long, known, t)

      pub read_by : table_ok file (format_of file) (board_count file) ≡ true → (f n : ℕ) (o : Option ℕ) → f ≡ format_of file → n ≡ board_count file
          → o ≡ first_not (λ k. board_ok (board_in file f n k)) n → read_of file ≡ by_bodies file f n o
      read_by table f n o format count first =
          let is_first : o ≡ first_bad = first ∙ ap₂ (λ (f n : ℕ). first_not (λ k. board_ok (board_in file f n k)) n) format count in
          read_bodies table ∙ rw (format, count, is_first)

  -- ---- what was read keeps the rules

  module _ (known : format_ok (format_of file) ≡ true) (table : table_ok file (format_of file) (board_count file) ≡ true) where
    board_at_lem : (k : ℕ) → k < board_count file
        → get_or (boards_in file (format_of file) (board_count file)) k no_board ≡ board_in file (format_of file) (board_count file) k
    unfolding boards_in
    board_at_lem k h =
        let w = table_whole file (format_of file) (board_count file) table in
        each_at (λ k _. board_in file (format_of file) (board_count file) k) (board_count file) k (replicate 16 no_board) no_board h
        (omega (arith, w.most, h, length-replicate 16 no_board))

    bodies_kept : (o : Option ℕ) → first_bad ≡ o → Kept (by_bodies file (format_of file) (board_count file) o)
    bodies_kept (Some bad) e = (omega arith, omega arith)
    bodies_kept None e =
        let w = table_whole file (format_of file) (board_count file) table in
        let all = first_all (λ k. board_ok (board_in file (format_of file) (board_count file) k)) (board_count file) e in
        let f : (1 ≤ format_of file) × (format_of file ≤ 2) =
        ⊎_elim (λ (e : eqb (format_of file) 1 ≡ true). let q = eqb-true (format_of file) 1 e in (omega arith, omega arith))
        (λ (e : eqb (format_of file) 2 ≡ true). let q = eqb-true (format_of file) 2 e in (omega arith, omega arith))
        (or_either (eqb (format_of file) 1) (eqb (format_of file) 2) known) in
        (f.0, f.1, w.some, w.most, λ k h. rw (board_at_lem k h) ((board_exact _).0 (all k h)))

  pub read_kept : Kept (read_of file)
  unfolding read_of
  read_kept =
      cond_cases Kept (ltb (length file) 8) _ _ (λ s. (omega arith, omega arith))
      (λ s.
      cond_cases Kept (format_ok (format_of file)) _ _
      (λ f.
      cond_cases Kept (table_ok file (format_of file) (board_count file)) _ _ (λ t. bodies_kept f t first_bad refl) (λ t. (omega arith, omega arith)))
      (λ f. (omega arith, omega arith)))

  -- so the second promise of the reader follows from the first
  pub read_sound : (r : Result SettingsFile Refusal) → r ≡ read_of file → (r ≡ read_of file) × Kept r
  read_sound r e = (e, rw e read_kept)
