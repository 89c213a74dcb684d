-- What is written reads back, and no two lists of boards have one file (02 [11]): "Both versions are read; only version 2 is written. A version 1 file means 4
-- and 6, and rewriting it means the same." Assumes nothing.
use Rattle.std.specs.Prelude.{None, Result, Ok, Err}
use mathlib.Core.Path.{◌≡◌, refl, sym, ap, ap₂, ◌∙◌, subst}
use mathlib.Core.Logic.{◌↔◌, ⊎_elim}
use mathlib.Core.Bool.{true}
use mathlib.Core.List.{List, [], ◌++◌}
use Prim.Native.Nat.{ℕ, ◌+◌, ◌*◌, ◌-◌, ◌^◌, ◌≤◌, ◌<◌}
use native.Mathlib.Nat.{mod-eq_of_lt}
use native.Mathlib.Omega.{arith}
use lib.Dec.{ltb, lit<}
use lib.ListN.{length, get_or, take, replicate, length-append, length-replicate, get_or-append, get_or-eq_default}
use lib.Seq.{length-take-le, take_at, get_or-take, get_or-append-add, ext_get_or}
use borrow.Author.Tests.{ltb-true, ltb-false, eq-eqb}
use Rattle.word.specs.Bytes.{le, to_le, IsBytes}
use Rattle.word.specs.Memory.{part, splice}
use Rattle.word.proofs.BytesLaws.{length-to_le, le-to_le, to_le-le}
use Rattle.word.specs.Each.{each}
use Rattle.word.proofs.EachLaws.{all_intro, length-each, each_at, each_past}
use Rattle.word.proofs.MemoryLaws.{part_front, length_part, bytes_part, part-splice}
use Rattle.word.proofs.TestLaws.{bool_cases, contrary}
use Rattle.refusal.specs.declared.Refusal.{Refusal}
use Rattle.settings.specs.Boards.{BoardRules, board_ok}
use Rattle.settings.specs.declared.Board.{Board}
use Rattle.settings.proofs.SettingsLaws.{board_exact}
use Rattle.boards.specs.File.{format_of, board_count, offset_at, length_at, format_ok, body_size, start_of, board_at, board_in, entry_ok, table_ok, no_board}
use Rattle.boards.specs.File.{boards_in, read_of, read_as, AllKept, KeptFile}
use Rattle.boards.specs.Write.{blocks, entry_bytes, body_bytes, file_of, written_of, left_of}
use Rattle.boards.specs.Rules.{SaysBoards, UnrefusedFile}
use Rattle.boards.specs.WriteRules.{CountRules, bad_count, no_room, bad_board, UnrefusedWrite}
use Rattle.boards.specs.declared.SettingsFile.{SettingsFile}
use Rattle.boards.proofs.FileLaws.{first_none, body_else, start_else, start_most, table_whole, whole_table, read_by, read_kept}
use Rattle.boards.proofs.RuleLaws.{same_boards, zeros_at, entry_said, table_of, accepted_exact}
use Rattle.boards.proofs.WriteLaws.{length-blocks, length-entry, length_body, length_file}
use Rattle.boards.proofs.BlockLaws.{part-behind, part_all, part-part, part_split, part_block, blocks_same, blocks_of}
use Rattle.boards.proofs.WriteRuleLaws as W

two_not_one : ◌≡◌ {A = ℕ} 2 1 → ⊥
two_not_one e = omega (arith, e)

-- a number that its bytes hold
back_number : (n v : ℕ) → v < 256 ^ n → le (to_le n v) ≡ v
back_number n v h = le-to_le n v ∙ mod-eq_of_lt h

-- ---- the file of n boards, part by part

module _ (n : ℕ) (boards : List Board) where
  abbrev file : List ℕ
  file = file_of n boards

  abbrev body : ℕ → List ℕ
  body k = body_bytes (get_or boards k no_board)

  body_4 : (k : ℕ) → length (body_bytes (get_or boards k no_board)) ≡ 4
  body_4 k = length_body (get_or boards k no_board)

  file_front : part (file_of n boards) 0 4 ≡ to_le 4 2
  unfolding file_of
  file_front = part_front (to_le 4 2) _ 0 4 (omega (arith, length-to_le 4 2)) ∙ part_all (to_le 4 2) 4 (length-to_le 4 2)

  file_count : part (file_of n boards) 4 4 ≡ to_le 4 n
  unfolding file_of
  file_count =
      part-behind (to_le 4 2) _ 0 4 4 (omega (arith, length-to_le 4 2))
      ∙ part_front (to_le 4 n) _ 0 4 (omega (arith, length-to_le 4 n))
      ∙ part_all (to_le 4 n) 4 (length-to_le 4 n)

  file_entry : (k : ℕ) → k < n → part (file_of n boards) (8 + 8 * k) 8 ≡ entry_bytes n k
  unfolding file_of
  file_entry k h =
      part-behind (to_le 4 2) _ (4 + 8 * k) (8 + 8 * k) 8 (omega (arith, length-to_le 4 2))
      ∙ part-behind (to_le 4 n) _ (8 * k) (4 + 8 * k) 8 (omega (arith, length-to_le 4 n))
      ∙ part_front (blocks (entry_bytes n) n) _ (8 * k) 8 (omega (arith, length-blocks 8 (entry_bytes n) (length-entry n) n))
      ∙ part_block 8 (entry_bytes n) (length-entry n) n k h

  file_body : (k : ℕ) → k < n → part (file_of n boards) (8 + 8 * n + 4 * k) 4 ≡ body_bytes (get_or boards k no_board)
  unfolding file_of
  file_body k h =
      part-behind (to_le 4 2) _ (4 + 8 * n + 4 * k) (8 + 8 * n + 4 * k) 4 (omega (arith, length-to_le 4 2))
      ∙ part-behind (to_le 4 n) _ (8 * n + 4 * k) (4 + 8 * n + 4 * k) 4 (omega (arith, length-to_le 4 n))
      ∙ part-behind (blocks (entry_bytes n) n) _ (4 * k) (8 * n + 4 * k) 4 (omega (arith, length-blocks 8 (entry_bytes n) (length-entry n) n))
      ∙ part_block 4 body body_4 n k h

  -- its fields

  format_back : format_of (file_of n boards) ≡ 2
  format_back = ap le file_front ∙ back_number 4 2 (lit< tt)

  module _ (most : n ≤ 16) where
    count_back : board_count (file_of n boards) ≡ n
    count_back = ap le file_count ∙ back_number 4 n (omega arith)

    module _ (k : ℕ) (h : k < n) where
      offset_back : offset_at (file_of n boards) k ≡ start_of 2 n k
      offset_back =
          let s = to_le 4 (start_of 2 n k) in
          let e : part file (8 + 8 * k) 4 ≡ s =
          sym (part-part file (8 + 8 * k) 8 0 4 (8 + 8 * k) (omega arith) (omega arith))
          ∙ ap (λ (l : List ℕ). part l 0 4) (file_entry k h)
          ∙ part_front s _ 0 4 (omega (arith, length-to_le 4 (start_of 2 n k)))
          ∙ part_all s 4 (length-to_le 4 (start_of 2 n k)) in
          ap le e ∙ back_number 4 (start_of 2 n k) (omega (arith, start_most 2 n k most (omega arith)))

      length_back : length_at (file_of n boards) k ≡ body_size 2
      length_back =
          let s = to_le 4 (start_of 2 n k) in
          let z = to_le 4 (body_size 2) in
          let e : part file (12 + 8 * k) 4 ≡ z =
          sym (part-part file (8 + 8 * k) 8 4 4 (12 + 8 * k) (omega arith) (omega arith))
          ∙ ap (λ (l : List ℕ). part l 4 4) (file_entry k h)
          ∙ part-behind s z 0 4 4 (omega (arith, length-to_le 4 (start_of 2 n k)))
          ∙ part_all z 4 (length-to_le 4 (body_size 2)) in
          ap le e ∙ back_number 4 (body_size 2) (omega (arith, body_else 2 two_not_one))

      entry_back : entry_ok (file_of n boards) 2 n k ≡ true
      unfolding entry_ok
      entry_back = rw (eq-eqb _ _ offset_back, eq-eqb _ _ length_back)

    table_back : 1 ≤ n → table_ok (file_of n boards) 2 n ≡ true
    table_back some =
        let e : length file ≡ start_of 2 n n = omega (arith, length_file n boards, start_else 2 n n two_not_one) in
        whole_table file 2 n some most e ∙ all_intro (entry_ok file 2 n) n entry_back

  -- and a body whose board keeps the rules
  module _ (k : ℕ) (h : k < n) (kept : BoardRules (get_or boards k no_board)) where
    abbrev it : Board
    it = get_or boards k no_board

    in_body : (q m p : ℕ) → start_of 2 n k + q ≡ p → q + m ≤ 4 → part (file_of n boards) p m ≡ part (body_bytes (get_or boards k no_board)) q m
    in_body q m p place fit =
        sym (part-part file (8 + 8 * n + 4 * k) 4 q m p (omega (arith, place, start_else 2 n k two_not_one)) fit)
        ∙ ap (λ (l : List ℕ). part l q m) (file_body k h)

    size_back : le (part (file_of n boards) (start_of 2 n k) 2) ≡ (get_or boards k no_board).size
    size_back =
        ap le
        (in_body 0 2 (start_of 2 n k) (omega arith) (omega arith)
        ∙ part_front (to_le 2 it.size) _ 0 2 (omega (arith, length-to_le 2 it.size))
        ∙ part_all (to_le 2 it.size) 2 (length-to_le 2 it.size))
        ∙ back_number 2 it.size (omega (arith, kept.0.2))

    version_back : le (part (file_of n boards) (start_of 2 n k + 2) 1) ≡ (get_or boards k no_board).version
    version_back =
        ap le
        (in_body 2 1 (start_of 2 n k + 2) refl (omega arith)
        ∙ part-behind (to_le 2 it.size) _ 0 2 1 (omega (arith, length-to_le 2 it.size))
        ∙ part_front (to_le 1 it.version) _ 0 1 (omega (arith, length-to_le 1 it.version))
        ∙ part_all (to_le 1 it.version) 1 (length-to_le 1 it.version))
        ∙ back_number 1 it.version
        (⊎_elim (λ (e : it.version ≡ 20). rw e (lit< tt)) (λ (e : it.version ≡ 21). rw e (lit< tt)) kept.1)

    misaligned_back : le (part (file_of n boards) (start_of 2 n k + 3) 1) ≡ (get_or boards k no_board).misaligned
    misaligned_back =
        ap le
        (in_body 3 1 (start_of 2 n k + 3) refl (omega arith)
        ∙ part-behind (to_le 2 it.size) _ 1 3 1 (omega (arith, length-to_le 2 it.size))
        ∙ part-behind (to_le 1 it.version) _ 0 1 1 (omega (arith, length-to_le 1 it.version))
        ∙ part_all (to_le 1 it.misaligned) 1 (length-to_le 1 it.misaligned))
        ∙ back_number 1 it.misaligned
        (⊎_elim (λ (e : it.misaligned ≡ 0). rw e (lit< tt)) (λ (e : it.misaligned ≡ 1). rw e (lit< tt)) kept.2)

    board_back : board_in (file_of n boards) 2 n k ≡ get_or boards k no_board
    unfolding board_at
    board_back = same_boards _ _ size_back version_back misaligned_back

-- zeros keep no rules, so that boards that keep them are there
pub there : (n : ℕ) (boards : List Board) → AllKept n boards → n ≤ length boards
there n boards kept =
    bool_cases (ltb (length boards) n)
    (λ t.
    let e : get_or boards (length boards) no_board ≡ no_board = get_or-eq_default boards no_board (omega arith) in
    let r : BoardRules no_board = subst BoardRules e (kept (length boards) (ltb-true (length boards) n t)) in
    absurd (omega (arith, r.0.1)))
    (λ t. ltb-false (length boards) n t)

-- the first n boards, and zeros behind them
module _ (n : ℕ) (boards : List Board) (enough : n ≤ length boards) where
  abbrev zeros : List Board
  zeros = replicate (16 - n) no_board

  front : length (take n boards) ≡ n
  front = length-take-le n boards enough

  length_front : n ≤ 16 → length (take n boards ++ replicate (16 - n) no_board) ≡ 16
  length_front most = length-append (take n boards) zeros ∙ rw (front, length-replicate (16 - n) no_board) (omega (arith, most))

  pub front_at : (i : ℕ) → i < n → get_or (take n boards ++ replicate (16 - n) no_board) i no_board ≡ get_or boards i no_board
  front_at i h = get_or-append (take n boards) zeros no_board i (omega (arith, front, h)) ∙ get_or-take n boards i no_board h

  front_past : (i : ℕ) → n ≤ i → get_or (take n boards ++ replicate (16 - n) no_board) i no_board ≡ no_board
  front_past i h =
      let e : i ≡ length (take n boards) + (i - n) = omega (arith, front, h) in
      ap (λ (j : ℕ). get_or (take n boards ++ zeros) j no_board) e
      ∙ get_or-append-add (take n boards) zeros (i - n) no_board
      ∙ zeros_at (16 - n) (i - n)

module _ (n : ℕ) (boards : List Board) (count : CountRules n) (kept : AllKept n boards) where
  boards_back : boards_in (file_of n boards) 2 n ≡ take n boards ++ replicate (16 - n) no_board
  unfolding boards_in
  boards_back =
      let g : ℕ → Board → Board = λ k _. board_in (file_of n boards) 2 n k in
      let none = replicate 16 no_board in
      let enough = there n boards kept in
      let long : length (each g n none) ≡ 16 = length-each g n none ∙ length-replicate 16 no_board in
      ext_get_or no_board (each g n none) _ (long ∙ sym (length_front n boards enough count.1))
      (λ i h.
      bool_cases (ltb i n)
      (λ t.
      let l = ltb-true i n t in
      each_at g n i none no_board l (omega (arith, h, long, length-replicate 16 no_board))
      ∙ board_back n boards i l (kept i l)
      ∙ sym (front_at n boards enough i l))
      (λ t.
      let l = ltb-false i n t in
      each_past g n i none no_board l ∙ zeros_at 16 i ∙ sym (front_past n boards enough i l)))

  -- What is written reads back as given: the file of 1 to 16 boards that keep the rules is read as these boards.
  pub back : read_of (file_of n boards) ≡ read_as 2 n boards
  back =
      let file = file_of n boards in
      let some = count.0 in
      let most = count.1 in
      let f = format_back n boards in
      let c = count_back n boards most in
      let known : format_ok (format_of file) ≡ true = rw f in
      let table : table_ok file (format_of file) (board_count file) ≡ true = rw (f, c) (table_back n boards most some) in
      let good : (k : ℕ) → k < n → board_ok (board_in file 2 n k) ≡ true = λ k h. rw (board_back n boards k h (kept k h)) ((board_exact _).1 (kept k h)) in
      let first = first_none (λ k. board_ok (board_in file 2 n k)) n good in
      read_by file (omega (arith, length_file n boards)) known table 2 n None (sym f) (sym c) (sym first)
      ∙ ap (λ (l : List Board). Ok (record { format = 2; count = n; boards = l })) boards_back

-- ---- what a write leaves

module _ (n : ℕ) (boards : List Board) (room : ℕ) (u : UnrefusedWrite n boards room) where
  pub count_of : CountRules n
  count_of =
      bool_cases (ltb n 1) (λ t. absurd (u 21 0 (bad_count refl refl (λ r. omega (arith, ltb-true n 1 t, r.0)))))
      (λ t.
      bool_cases (ltb 16 n) (λ s. absurd (u 21 0 (bad_count refl refl (λ r. omega (arith, ltb-true 16 n s, r.1)))))
      (λ s. (ltb-false n 1 t, ltb-false 16 n s)))

  pub room_of : length (file_of n boards) ≤ room
  room_of =
      bool_cases (ltb room (length (file_of n boards))) (λ t. absurd (u 21 0 (no_room refl refl (ltb-true room (length (file_of n boards)) t))))
      (λ t. ltb-false room (length (file_of n boards)) t)

  pub kept_of : AllKept n boards
  kept_of k h =
      bool_cases (board_ok (get_or boards k no_board)) (λ t. (board_exact (get_or boards k no_board)).0 t)
      (λ t. absurd (u 23 (8 + 8 * n + 4 * k) (bad_board refl k h refl (λ r. contrary ((board_exact (get_or boards k no_board)).1 r) t))))

-- boards that keep the rules are written wherever there is room
pub unrefused : (n : ℕ) (boards : List Board) (room : ℕ) → CountRules n → AllKept n boards → length (file_of n boards) ≤ room → UnrefusedWrite n boards room
unrefused n boards room count kept fit i q (bad_count z w r) = r count
unrefused n boards room count kept fit i q (no_room z w r) = omega (arith, r, fit)
unrefused n boards room count kept fit i q (bad_board z k h w r) = r (kept k h)

-- The same of the buffer: where a write answers m bytes, the first m of the buffer are then read as the boards that were given.
pub written_back : (n : ℕ) (boards : List Board) (before : List ℕ) (m : ℕ) → written_of n boards (length before) ≡ Ok m
    → read_of (take m (left_of n boards before)) ≡ read_as 2 n boards
unfolding part
written_back n boards before m e =
    let a = (W.accepted_exact n boards (length before) m).0 e in
    let u = a.0 in
    let file = file_of n boards in
    let front : take m (splice before 0 file) ≡ file =
    ap (λ (k : ℕ). take k (splice before 0 file)) a.1 ∙ part-splice before 0 file (omega (arith, room_of n boards (length before) u)) in
    ap read_of (ap (take m) (W.accepted_left n boards before u) ∙ front)
    ∙ back n boards (count_of n boards (length before) u) (kept_of n boards (length before) u)

-- ---- one file for one list of boards

abbrev count_in : Result SettingsFile Refusal → ℕ
count_in (Err r) = 0
count_in (Ok f) = f.count

abbrev list_in : Result SettingsFile Refusal → List Board
list_in (Err r) = []
list_in (Ok f) = f.boards

-- No two lists of boards that keep the rules have the same file.
pub same_file : (n m : ℕ) (l k : List Board) → CountRules n → AllKept n l → CountRules m → AllKept m k → file_of n l ≡ file_of m k
    → (n ≡ m) × (take n l ≡ take m k)
same_file n m l k cn kn cm km e =
    let same : read_as 2 n l ≡ read_as 2 m k = sym (back n l cn kn) ∙ ap read_of e ∙ back m k cm km in
    let count : n ≡ m = ap count_in same in
    let ln : length (take n l) ≡ n = length-take-le n l (there n l kn) in
    let lm : length (take m k) ≡ m = length-take-le m k (there m k km) in (
      count,
      sym (take_at (take n l) (replicate (16 - n) no_board) n ln)
          ∙ ap (λ r. take n (list_in r)) same
          ∙ take_at (take m k) (replicate (16 - m) no_board) n (omega (arith, lm, count)),
    )

-- ---- a file that is read, and written again

module _ (file : List ℕ) (f : SettingsFile) (e : read_of file ≡ Ok f) where
  abbrev n : ℕ
  n = f.count

  abbrev boards : List Board
  boards = f.boards

  kept_read : KeptFile f
  kept_read = rw e at (read_kept file)

  said : UnrefusedFile file × (f.format ≡ format_of file) × SaysBoards file f.count f.boards
  said = (accepted_exact file f.format n boards).0 e

  pub read_count : CountRules f.count
  read_count = (kept_read.2, kept_read.3)

  pub read_all_kept : AllKept f.count f.boards
  read_all_kept = kept_read.4

  -- what is read has zeros behind its boards
  read_front : take f.count f.boards ++ replicate (16 - f.count) no_board ≡ f.boards
  read_front =
      let s = said.2 in
      let enough : n ≤ length boards = omega (arith, s.sixteen, read_count.1) in
      ext_get_or no_board _ boards (length_front n boards enough read_count.1 ∙ sym s.sixteen)
      (λ i h.
      bool_cases (ltb i n) (λ t. front_at n boards enough i (ltb-true i n t))
      (λ t. let l = ltb-false i n t in front_past n boards enough i l ∙ sym (s.rest i l)))

  -- Its boards written again are read as the same boards.
  pub read_again : read_of (file_of f.count f.boards)
      ≡ Ok (record { format = 2; count = f.count; boards = f.boards })
  read_again = back n boards read_count read_all_kept ∙ ap (λ (l : List Board). Ok (record { format = 2; count = n; boards = l })) read_front

  -- And they are written wherever there is room.
  pub written-room : (room : ℕ) → length (file_of f.count f.boards) ≤ room
      → written_of f.count f.boards room ≡ Ok (length (file_of f.count f.boards))
  written-room room fit = W.accepted_write n boards room (unrefused n boards room read_count read_all_kept fit)

  -- The first bytes of the buffer are then read as them too.
  pub rewritten : (before : List ℕ) → length (file_of f.count f.boards) ≤ length before
      → read_of (take (length (file_of f.count f.boards)) (left_of f.count f.boards before))
      ≡ Ok (record { format = 2; count = f.count; boards = f.boards })
  rewritten before fit =
      written_back n boards before (length (file_of n boards)) (written-room (length before) fit)
      ∙ ap (λ (l : List Board). Ok (record { format = 2; count = n; boards = l })) read_front

-- "A version 1 file means 4 and 6, and rewriting it means the same."
pub format_1_means : (file : List ℕ) (f : SettingsFile) → read_of file ≡ Ok f → f.format ≡ 1
    → ((k : ℕ) → (get_or f.boards k no_board).misaligned ≡ 0)
    × (read_of (file_of f.count f.boards) ≡ Ok (record { format = 2; count = f.count; boards = f.boards }))
format_1_means file f e one = (means, read_again file f e)
  where
    means : (k : ℕ) → (get_or f.boards k no_board).misaligned ≡ 0
    means k =
        let s = said file f e in
        bool_cases (ltb k f.count) (λ t. (s.2.each k (ltb-true k f.count t)).format1 (sym s.1 ∙ one))
        (λ t. ap (λ (b : Board). b.misaligned) (s.2.rest k (ltb-false k f.count t)))

-- ---- the files of format 2 that are read are those that are written

module _ (file : List ℕ) (bytes : IsBytes file) where
  -- a part is the bytes of its number
  part_number : (p m v : ℕ) → p + m ≤ length file → le (part file p m) ≡ v → part file p m ≡ to_le m v
  part_number p m v fit e =
      sym (ap₂ to_le (sym (length_part file p m fit)) (sym e) ∙ to_le-le (part file p m) (bytes_part file p m bytes))

  module _ (f : SettingsFile) (e : read_of file ≡ Ok f) (two : f.format ≡ 2) where
    abbrev m : ℕ
    m = f.count

    is_2 : format_of file ≡ 2
    is_2 = sym (said file f e).1 ∙ two

    many : board_count file ≡ f.count
    many = sym (said file f e).2.many

    entry : (k : ℕ) → k < f.count → (offset_at file k ≡ start_of 2 f.count k) × (length_at file k ≡ body_size 2)
    entry k h =
        let s = entry_said file (table_of file (said file f e).0) k (omega (arith, h, many)) in
        (s.0 ∙ ap₂ (λ (f n : ℕ). start_of f n k) is_2 many, s.1 ∙ ap body_size is_2)

    long : length file ≡ 8 + 12 * f.count
    long =
        let w = table_whole file (format_of file) (board_count file) (table_of file (said file f e).0) in
        w.ends ∙ ap₂ (λ (f n : ℕ). start_of f n n) is_2 many ∙ start_else 2 m m two_not_one ∙ (let s : 8 + 8 * m + 4 * m ≡ 8 + 12 * m = omega arith in s)

    module _ (k : ℕ) (h : k < f.count) where
      entry_same : part file (8 + 8 * k) 8 ≡ entry_bytes f.count k
      entry_same =
          let q : 8 + 8 * k + 4 ≡ 12 + 8 * k = omega arith in
          part_split file (8 + 8 * k) 4 4
          ∙ ap₂ ◌++◌ (part_number (8 + 8 * k) 4 _ (omega (arith, long)) (entry k h).0)
          (ap (λ (p : ℕ). part file p 4) q ∙ part_number (12 + 8 * k) 4 _ (omega (arith, long)) (entry k h).1)

      abbrev at_body : ℕ
      at_body = 8 + 8 * m + 4 * k

      body_same : part file (8 + 8 * f.count + 4 * k) 4 ≡ body_bytes (get_or f.boards k no_board)
      body_same =
          let s = (said file f e).2.each k h in
          let o : offset_at file k ≡ at_body = (entry k h).0 ∙ start_else 2 m k two_not_one in
          let q : at_body + 2 + 1 ≡ at_body + 3 = omega arith in
          part_split file at_body 2 2
          ∙ ap₂ ◌++◌ (part_number at_body 2 _ (omega (arith, long)) (sym (s.size ∙ ap (λ (p : ℕ). le (part file p 2)) o)))
          (part_split file (at_body + 2) 1 1
          ∙ ap₂ ◌++◌ (part_number (at_body + 2) 1 _ (omega (arith, long)) (sym (s.version ∙ ap (λ (p : ℕ). le (part file (p + 2) 1)) o)))
          (ap (λ (p : ℕ). part file p 1) q
          ∙ part_number (at_body + 3) 1 _ (omega (arith, long)) (sym (s.format2 is_2 ∙ ap (λ (p : ℕ). le (part file (p + 3) 1)) o))))

    -- A file of format 2 that is read is the one that is written from its boards.
    pub written_again : file_of f.count f.boards ≡ file
    unfolding file_of
    written_again =
        let rest = 8 * m + 4 * m in
        let all : length file ≡ 4 + (4 + rest) = omega (arith, long) in
        sym (sym (part_all file (4 + (4 + rest)) all)
        ∙ part_split file 0 4 (4 + rest)
        ∙ ap₂ ◌++◌ (part_number 0 4 2 (omega (arith, long)) is_2)
        (part_split file 4 4 rest
        ∙ ap₂ ◌++◌ (part_number 4 4 m (omega (arith, long)) many)
        (part_split file 8 (8 * m) (4 * m)
        ∙ ap₂ ◌++◌ (sym (blocks_of file 8 8 m) ∙ blocks_same _ _ m entry_same) (sym (blocks_of file (8 + 8 * m) 4 m) ∙ blocks_same _ _ m body_same))))

-- So the files of format 2 that are read are exactly the files of 1 to 16 boards that keep the rules.
pub format_2_exact : (file : List ℕ) → IsBytes file
    → ((f : SettingsFile) × (read_of file ≡ Ok f) × (f.format ≡ 2)) ↔ ((n : ℕ) × (boards : List Board) × CountRules n × AllKept n boards × (file_of n boards ≡ file))
format_2_exact file bytes = (
  λ (f, e, two). (f.count, f.boards, read_count file f e, read_all_kept file f e, written_again file bytes f e two),
  λ (n, boards, count, kept, e).
      (record { format = 2; count = n; boards = take n boards ++ replicate (16 - n) no_board }, ap read_of (sym e) ∙ back n boards count kept, refl),
)
