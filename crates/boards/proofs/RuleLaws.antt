-- A settings file is refused exactly by the rows of 02 [11], the first that applies, at the lowest place where it does. Assumes nothing.
use Rattle.std.specs.Prelude.{Option, Some, None, Result, Ok, Err}
use mathlib.Core.Path.{◌≡◌, refl, sym, ap, ap₂, ◌∙◌, subst}
use mathlib.Core.Logic.{◌↔◌, inl, inr, ⊎_elim}
use mathlib.Core.Bool.{true, false}
use mathlib.Core.List.{List}
use Prim.Native.Nat.{ℕ, zero, suc, ◌+◌, ◌≤◌, ◌<◌}
use native.Mathlib.Omega.{arith}
use lib.Dec.{ltb, eqb}
use lib.ListN.{length, get_or, replicate, length-replicate}
use lib.Seq.{ext_get_or}
use borrow.Author.Tests.{ltb-true, ltb-false, eqb-true, eqb-false, eq-eqb, ne_eqb}
use Rattle.word.specs.Bytes.{le}
use Rattle.word.specs.Memory.{part}
use Rattle.word.proofs.EachLaws.{all_at, all_intro, length-each, each_at, each_past}
use Rattle.word.proofs.TestLaws.{bool_cases, contrary, never, and_both, or_either}
use Rattle.refusal.specs.declared.Refusal.{Refusal}
use Rattle.settings.specs.Boards.{BoardRules, board_ok}
use Rattle.settings.specs.declared.Board.{Board}
use Rattle.settings.proofs.SettingsLaws.{board_exact}
use Rattle.events.specs.Rows.{FirstRow}
use Rattle.events.proofs.RowLaws as R
use Rattle.boards.specs.File.{format_of, board_count, offset_at, length_at, format_ok, body_size, start_of, board_at, board_in, entry_ok, table_ok, no_board}
use Rattle.boards.specs.File.{refused_file, boards_in, read_of}
use Rattle.boards.specs.Rules.{FormatRules, BodyLength, TableRules, BodySays, SettingsRow, shorter, bad_format, bad_table, bad_body, number_at}
use Rattle.boards.specs.Rules.{RefusedBy, UnrefusedFile, SaysBoards}
use Rattle.boards.specs.declared.SettingsFile.{SettingsFile}
use Rattle.boards.proofs.FileLaws.{first_found, first_all, body_1, body_else, start_next, start_first, start_within, start_table}
use Rattle.boards.proofs.FileLaws.{table_whole, whole_table, first_bad, read_short, read_format, read_table, read_by}

-- ---- formats and boards

pub format_exact : (f : ℕ) → (format_ok f ≡ true) ↔ FormatRules f
format_exact f = (
  λ e.
      ⊎_elim (λ (t : eqb f 1 ≡ true). inl (eqb-true f 1 t)) (λ (t : eqb f 2 ≡ true). inr (eqb-true f 2 t)) (or_either (eqb f 1) (eqb f 2) e),
  λ r. ⊎_elim (λ (e : f ≡ 1). rw e) (λ (e : f ≡ 2). rw e) r,
)

pub size_of : (f n : ℕ) → FormatRules f → BodyLength f n → n ≡ body_size f
size_of f n (inl e) r = r.0 e ∙ sym (body_1 f e)
size_of f n (inr e) r = r.1 e ∙ sym (body_else f (λ z. omega (arith, e, z)))

of_size : (f : ℕ) → BodyLength f (body_size f)
of_size f = (λ e. body_1 f e, λ e. body_else f (λ z. omega (arith, e, z)))

-- two boards with the same numbers
pub same_boards : (a b : Board) → a.size ≡ b.size → a.version ≡ b.version → a.misaligned ≡ b.misaligned → a ≡ b
same_boards a b s v m =
    ap₂ (λ (x y : ℕ). record { size = x; version = y; misaligned = a.misaligned }) s v
    ∙ ap (λ (x : ℕ). record { size = b.size; version = b.version; misaligned = x }) m

pub zeros_at : (n k : ℕ) → get_or (replicate n no_board) k no_board ≡ no_board
zeros_at zero k = refl
zeros_at (suc n) zero = refl
zeros_at (suc n) (suc k) = zeros_at n k

module _ (file : List ℕ) where
  abbrev f : ℕ
  f = format_of file

  abbrev n : ℕ
  n = board_count file

  -- ---- the table

  module _ (known : FormatRules (format_of file)) where
    -- a table with its numbers: each entry has its body's start
    starts : TableRules file → (k : ℕ) → k < board_count file → offset_at file k ≡ start_of (format_of file) (board_count file) k
    starts r zero h = r.first ∙ sym (start_first f n)
    starts r (suc k) h =
        omega (arith, r.next k h, starts r k (omega arith), size_of f (length_at file k) known (r.lengths k (omega arith)), start_next f n k)

    ends : TableRules file → (k : ℕ) → suc k ≡ board_count file → length file ≡ start_of (format_of file) (board_count file) (board_count file)
    ends r k e =
        let l : length file ≡ start_of f n (suc k) =
        omega (arith, r.end k e, starts r k (omega arith), size_of f (length_at file k) known (r.lengths k (omega arith)), start_next f n k) in
        l ∙ ap (start_of f n) e

    last : (m : ℕ) → 1 ≤ m → (k : ℕ) × (suc k ≡ m)
    last zero h = absurd (omega arith)
    last (suc k) h = (k, refl)

    entry_right : TableRules file → (k : ℕ) → k < board_count file → entry_ok file (format_of file) (board_count file) k ≡ true
    unfolding entry_ok
    entry_right r k h = rw (eq-eqb _ _ (starts r k h), eq-eqb _ _ (size_of f (length_at file k) known (r.lengths k h)))

    rules_table : TableRules file → table_ok file (format_of file) (board_count file) ≡ true
    rules_table r =
        let l = last n r.some in
        whole_table file f n r.some r.most (ends r l.0 l.1) ∙ all_intro (entry_ok file f n) n (entry_right r)

  module _ (t : table_ok file (format_of file) (board_count file) ≡ true) where
    pub entry_said : (k : ℕ) → k < board_count file
        → (offset_at file k ≡ start_of (format_of file) (board_count file) k) × (length_at file k ≡ body_size (format_of file))
    unfolding entry_ok
    entry_said k h =
        let e = and_both (eqb (offset_at file k) (start_of f n k)) _ (all_at (entry_ok file f n) k n (table_whole file f n t).entries h) in
        (eqb-true _ _ e.0, eqb-true _ _ e.1)

    table_rules : TableRules file
    table_rules =
        let w = table_whole file f n t in
        record {
          some = w.some;
          most = w.most;
          table = omega (arith, w.ends, start_table f n n);
          first = (entry_said 0 w.some).0 ∙ start_first f n;
          next = λ k h.
              omega (arith, (entry_said (suc k) h).0, (entry_said k (omega arith)).0, (entry_said k (omega arith)).1, start_next f n k);
          lengths = λ k h. rw (entry_said k h).1 (of_size f);
          end = λ k e.
              let s : start_of f n (suc k) ≡ length file = ap (start_of f n) e ∙ sym w.ends in
              omega (arith, (entry_said k (omega arith)).0, (entry_said k (omega arith)).1, start_next f n k, s);
        }

  -- 21 names neither boards nor table nor end exactly if the rules hold
  pub table_exact : FormatRules (format_of file) → (table_ok file (format_of file) (board_count file) ≡ true) ↔ TableRules file
  table_exact known = (table_rules, rules_table known)

  -- ---- the bodies

  module _ (known : FormatRules (format_of file)) (t : table_ok file (format_of file) (board_count file) ≡ true) (k : ℕ) (h : k < board_count file) where
    pub body_says : BodySays file k (board_in file (format_of file) (board_count file) k)
    unfolding board_at
    body_says =
        let e = sym (entry_said t k h).0 in
        record {
          size = ap (λ (p : ℕ). le (part file p 2)) e;
          version = ap (λ (p : ℕ). le (part file (p + 2) 1)) e;
          format1 = λ z. rw (eq-eqb f 1 z);
          format2 = λ z. rw (ne_eqb f 1 (λ y. omega (arith, z, y))) (ap (λ (p : ℕ). le (part file (p + 3) 1)) e);
        }

    pub body_one : (a b : Board) → BodySays file k a → BodySays file k b → a ≡ b
    body_one a b s r =
        same_boards a b (s.size ∙ sym r.size) (s.version ∙ sym r.version)
        (⊎_elim (λ (e : f ≡ 1). s.format1 e ∙ sym (r.format1 e)) (λ (e : f ≡ 2). s.format2 e ∙ sym (r.format2 e)) known)

  -- ---- the rows decide

  none_below : (o : ℕ) → (1 < o → 8 ≤ length file) → (2 < o → FormatRules (format_of file)) → (3 < o → TableRules file)
      → (4 < o → (k : ℕ) → k < board_count file → (b : Board) → BodySays file k b → BoardRules b)
      → (i q : ℕ) → i < o → SettingsRow file i q → ⊥
  none_below o a b c d i q l (shorter z w r) = omega (arith, a (omega arith), r)
  none_below o a b c d i q l (bad_format z w r) = r (b (omega arith))
  none_below o a b c d i q l (bad_table z w r) = r (c (omega arith))
  none_below o a b c d i q l (bad_body z k h w y s r) = r (d (omega arith) k h y s)

  ordered : (i q : ℕ) → SettingsRow file i q → i ≤ 4
  ordered i q (shorter z w r) = omega arith
  ordered i q (bad_format z w r) = omega arith
  ordered i q (bad_table z w r) = omega arith
  ordered i q (bad_body z k h w y s r) = omega arith

  -- the file that is read where no row applies
  abbrev file_in : Result SettingsFile Refusal
  file_in = Ok (record { format = format_of file; count = board_count file; boards = boards_in file (format_of file) (board_count file) })

  -- refused by the first row that applies, at the lowest place, or read
  abbrev Decided : Type 0
  Decided = R.Decided (SettingsRow file) (read_of file) (λ o p. refused_file (number_at o) p) file_in

  module _ (long : 8 ≤ length file) (known : format_ok (format_of file) ≡ true) where
    abbrev rules : FormatRules (format_of file)
    rules = (format_exact (format_of file)).0 known

    refused_table : table_ok file (format_of file) (board_count file) ≡ false → Decided
    refused_table t =
        R.refuses 3 0 (read_table file long known t)
        (record {
          applies = bad_table refl refl (λ r. contrary ((table_exact rules).1 r) t);
          first = none_below 3 (λ l. long) (λ l. rules) (never refl) (never refl);
          lowest = λ q l r. omega arith;
        })

    module _ (t : table_ok file (format_of file) (board_count file) ≡ true) where
      -- what is said of a body is what the definition reads
      rules_of : (k : ℕ) → k < board_count file → board_ok (board_in file (format_of file) (board_count file) k) ≡ true → (b : Board) → BodySays file k b
          → BoardRules b
      rules_of k h e b s = rw (body_one rules t k h b (board_in file f n k) s (body_says rules t k h)) ((board_exact (board_in file f n k)).0 e)

      module _ (bad : ℕ) (e : first_bad file ≡ Some bad) where
        found : (bad < board_count file) × (board_ok (board_in file (format_of file) (board_count file) bad) ≡ false)
            × ((j : ℕ) → j < bad → board_ok (board_in file (format_of file) (board_count file) j) ≡ true)
        found = first_found (λ k. board_ok (board_in file f n k)) n bad e

        not_before : (q : ℕ) → q < offset_at file bad → SettingsRow file 4 q → ⊥
        not_before q l (shorter z w r) = omega arith
        not_before q l (bad_format z w r) = omega arith
        not_before q l (bad_table z w r) = omega arith
        not_before q l (bad_body z k h w y s r) =
            bool_cases (ltb k bad)
            (λ u. r (rules_of k h (found.2 k (ltb-true k bad u)) y s))
            (λ u. later (ltb-false k bad u))
          where
            later : bad ≤ k → ⊥
            later g =
                bool_cases (eqb k bad)
                (λ e. let same : offset_at file k ≡ offset_at file bad = ap (offset_at file) (eqb-true k bad e) in omega (arith, l, w, same))
                (λ e.
                let up : bad < k = above bad k g (eqb-false k bad e) in
                omega (arith, l, w, (entry_said t k h).0, (entry_said t bad found.0).0, start_within f n bad k up))
              where
                above : (i j : ℕ) → i ≤ j → (j ≡ i → ⊥) → i < j
                above i j g e = bool_cases (ltb i j) (λ u. ltb-true i j u) (λ u. absurd (e (omega (arith, ltb-false i j u))))

        refused_body : Decided
        refused_body =
            let board = board_in file f n bad in
            R.refuses 4 (offset_at file bad)
            (read_by file long known t f n (Some bad) refl refl (sym e) ∙ ap (refused_file 23) (sym (entry_said t bad found.0).0))
            (record {
              applies = bad_body refl bad found.0 refl board (body_says rules t bad found.0) (λ r. contrary ((board_exact board).1 r) found.1);
              first = none_below 4 (λ l. long) (λ l. rules) (λ l. (table_exact rules).0 t) (never refl);
              lowest = λ q l r. not_before q l r;
            })

      accepted_bodies : first_bad file ≡ None → Decided
      accepted_bodies e =
          R.accepts (read_by file long known t f n None refl refl (sym e))
          (λ i q r.
          none_below 5 (λ l. long) (λ l. rules) (λ l. (table_exact rules).0 t)
          (λ l k h y s. rules_of k h (first_all (λ k. board_ok (board_in file f n k)) n e k h) y s) i q (omega (arith, ordered i q r)) r)

      by_first : (o : Option ℕ) → first_bad file ≡ o → Decided
      by_first (Some bad) e = refused_body bad e
      by_first None e = accepted_bodies e

  pub decided : Decided
  decided =
      bool_cases (ltb (length file) 8)
      (λ s.
      let short = ltb-true (length file) 8 s in
      R.refuses 1 0 (read_short file short)
      (record {
        applies = shorter refl refl short;
        first = none_below 1 (never refl) (never refl) (never refl) (never refl);
        lowest = λ q l r. omega arith;
      }))
      (λ s.
      let long = ltb-false (length file) 8 s in
      bool_cases (format_ok f)
      (λ k.
      bool_cases (table_ok file f n)
      (λ t. by_first long k t (first_bad file) refl)
      (λ t. refused_table long k t))
      (λ k.
      R.refuses 2 0 (read_format file long k)
      (record {
        applies = bad_format refl refl (λ r. contrary ((format_exact f).1 r) k);
        first = none_below 2 (λ l. long) (never refl) (never refl) (never refl);
        lowest = λ q l r. omega arith;
      })))

-- ---- both ways

-- the number of a refusal, or the format
abbrev number_in : Result SettingsFile Refusal → ℕ
number_in (Err r) = r.number
number_in (Ok f) = f.format

abbrev place_in : Result SettingsFile Refusal → ℕ
place_in (Err r) = r.place
place_in (Ok f) = 0

module _ (file : List ℕ) where
  -- a refused file has no boards
  pub refused_file_lem : (number place : ℕ) → RefusedBy file number place → read_of file ≡ refused_file number place
  refused_file_lem number place (o, e, r) =
      R.refused_by (SettingsRow file) (read_of file) (λ o p. refused_file (number_at o) p) (file_in file) (decided file) o place r
      ∙ ap (λ (k : ℕ). refused_file k place) (sym e)

  row_of : Decided file → (number place : ℕ) → read_of file ≡ refused_file number place → RefusedBy file number place
  row_of (R.refuses o p e r) number place q =
      let z = sym e ∙ q in
      (o, sym (ap number_in z), subst (FirstRow (SettingsRow file) o) (ap place_in z) r)
  row_of (R.accepts e u) number place q = absurd (cc (e, q))

  -- 02 [11]: a file is refused by this number at this place exactly if its row is the first that applies, and this the lowest place where it does
  pub refused_exact : (number place : ℕ) → (read_of file ≡ refused_file number place) ↔ RefusedBy file number place
  refused_exact number place = (row_of (decided file) number place, refused_file_lem number place)

  no_row_of : Decided file → (g : SettingsFile) → read_of file ≡ Ok g → (read_of file ≡ file_in file) × UnrefusedFile file
  no_row_of (R.refuses o p e r) g q = absurd (cc (e, q))
  no_row_of (R.accepts e u) g q = (e, u)

  -- ---- the boards of a file that isn't refused

  module _ (u : UnrefusedFile file) where
    pub known_of : FormatRules (format_of file)
    known_of =
        bool_cases (format_ok (format_of file)) (λ t. (format_exact (format_of file)).0 t)
        (λ t. absurd (u 2 0 (bad_format refl refl (λ r. contrary ((format_exact (format_of file)).1 r) t))))

    pub table_of : table_ok file (format_of file) (board_count file) ≡ true
    table_of =
        bool_cases (table_ok file (format_of file) (board_count file)) (λ t. t)
        (λ t. absurd (u 3 0 (bad_table refl refl (λ r. contrary ((table_exact file known_of).1 r) t))))

    says_in : SaysBoards file (board_count file) (boards_in file (format_of file) (board_count file))
    unfolding boards_in
    says_in =
        let n = board_count file in
        let g : ℕ → Board → Board = λ k _. board_in file (format_of file) n k in
        let w = table_whole file (format_of file) n table_of in
        record {
          many = refl;
          sixteen = length-each g n (replicate 16 no_board) ∙ length-replicate 16 no_board;
          each = λ k h.
              subst (BodySays file k) (sym (each_at g n k (replicate 16 no_board) no_board h (omega (arith, w.most, h, length-replicate 16 no_board))))
              (body_says file known_of table_of k h);
          rest = λ k h. each_past g n k (replicate 16 no_board) no_board h ∙ zeros_at 16 k;
        }

    pub says_one : (count : ℕ) (boards : List Board) → SaysBoards file count boards
        → (count ≡ board_count file) × (boards ≡ boards_in file (format_of file) (board_count file))
    says_one count boards s =
        let e = s.many in (
          e,
          ext_get_or no_board boards _ (s.sixteen ∙ sym says_in.sixteen)
              (λ i l.
              bool_cases (ltb i count)
              (λ t.
              let h = ltb-true i count t in
              body_one file known_of table_of i (omega (arith, h, e)) _ _ (s.each i h) (says_in.each i (omega (arith, h, e))))
              (λ t.
              let h = ltb-false i count t in
              s.rest i h ∙ sym (says_in.rest i (omega (arith, h, e))))),
        )

  pub accepted_file : UnrefusedFile file → read_of file ≡ file_in file
  accepted_file = R.accepted_by (SettingsRow file) (read_of file) (λ o p. refused_file (number_at o) p) (file_in file) (decided file)

  abbrev SaysIn : Result SettingsFile Refusal → Type 0
  SaysIn (Err r) = Unit {0}
  SaysIn (Ok f) = SaysBoards file f.count f.boards

  -- and is read exactly if no row applies, with its own format and exactly the boards that its bodies are
  pub accepted_exact : (format count : ℕ) (boards : List Board)
      → (read_of file ≡ Ok (record { format = format; count = count; boards = boards }))
      ↔ (UnrefusedFile file × (format ≡ format_of file) × SaysBoards file count boards)
  accepted_exact format count boards = (
    λ e.
        let d = no_row_of (decided file) _ e in
        let z = sym e ∙ d.0 in
        (d.1, ap number_in z, subst SaysIn (sym z) (says_in d.1)),
    λ (u, f, s).
        let b = says_one u count boards s in
        accepted_file u
        ∙ sym (ap₂ (λ (f n : ℕ). Ok (record { format = f; count = n; boards = boards })) f b.0
        ∙ ap (λ (l : List Board). Ok (record { format = format_of file; count = board_count file; boards = l })) b.1),
  )
