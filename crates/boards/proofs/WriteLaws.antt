-- The laws of blocks of bytes and of a file written: lengths, one turn of each loop, and what a write leaves. Assumes nothing.
use Rattle.std.specs.Prelude.{Result}
use mathlib.Core.Path.{◌≡◌, sym, ap, ◌∙◌}
use mathlib.Core.List.{List, ◌++◌, append_assoc}
use Prim.Native.Nat.{ℕ, zero, suc, ◌+◌, ◌*◌, ◌≤◌, ◌<◌}
use native.Mathlib.Nat.{mul-suc, mul-zero}
use native.Mathlib.Omega.{arith}
use borrow.Author.Tests.{lt-ltb, le-ltb, le-leb, lt-leb}
use lib.Dec.{leb}
use lib.ListN.{length, get_or, length-append}
use Rattle.word.specs.Bytes.{to_le}
use Rattle.word.specs.Memory.{splice}
use Rattle.word.proofs.TestLaws.{and_false}
use Rattle.word.proofs.BytesLaws.{length-to_le}
use Rattle.word.proofs.MemoryLaws.{splice_none, splice-append}
use Rattle.refusal.specs.declared.Refusal.{Refusal}
use Rattle.settings.specs.declared.Board.{Board}
use Rattle.boards.specs.File.{body_size, start_of, no_board}
use Rattle.boards.specs.Write.{blocks, entry_bytes, body_bytes, file_of, first_bad_board, refused_write, by_boards, written_of, left_by, left_of}

-- ---- writes one behind the other

-- two of them are one, where the second starts at a place that is the first's end
pub splice_next : (mem : List ℕ) (place next : ℕ) (xs ys : List ℕ) → place + length xs ≡ next → next + length ys ≤ length mem
    → splice (splice mem place xs) next ys ≡ splice mem place (xs ++ ys)
splice_next mem place next xs ys e fit =
    ap (λ (m : ℕ). splice (splice mem place xs) m ys) (sym e) ∙ splice-append mem place xs ys (omega (arith, e, fit))

-- ---- blocks of b bytes each

module _ (b : ℕ) (f : ℕ → List ℕ) (size : (k : ℕ) → length (f k) ≡ b) where
  pub length-blocks : (n : ℕ) → length (blocks f n) ≡ b * n
  unfolding blocks
  length-blocks zero = sym (mul-zero b)
  length-blocks (suc n) = length-append (blocks f n) (f n) ∙ rw (length-blocks n, size n, mul-suc b n)

  -- one more, written behind those before
  pub blocks_turn : (mem : List ℕ) (place k : ℕ) → place + b * k + b ≤ length mem
      → splice (splice mem place (blocks f k)) (place + b * k) (f k) ≡ splice mem place (blocks f (suc k))
  unfolding blocks
  blocks_turn mem place k fit = splice_next mem place (place + b * k) (blocks f k) (f k) (ap (λ (m : ℕ). place + m) (length-blocks k)) (omega (arith, size k))

pub blocks_none : (mem : List ℕ) (place : ℕ) (f : ℕ → List ℕ) → splice mem place (blocks f 0) ≡ mem
unfolding blocks
blocks_none mem place f = splice_none mem place

-- ---- entries, bodies and the file

pub length-entry : (n k : ℕ) → length (entry_bytes n k) ≡ 8
length-entry n k = length-append (to_le 4 (start_of 2 n k)) (to_le 4 (body_size 2)) ∙ rw (length-to_le 4 (start_of 2 n k), length-to_le 4 (body_size 2))

pub length_body : (x : Board) → length (body_bytes x) ≡ 4
length_body x = simp (length-append, length-to_le)

-- the writes of a body are one
pub body_whole : (mem : List ℕ) (place : ℕ) (x : Board) → place + 4 ≤ length mem
    → splice (splice (splice mem place (to_le 2 x.size)) (place + 2) (to_le 1 x.version)) (place + 3) (to_le 1 x.misaligned)
    ≡ splice mem place (body_bytes x)
body_whole mem place x fit =
    let a = to_le 2 x.size in
    let b = to_le 1 x.version in
    let c = to_le 1 x.misaligned in
    let la : length a ≡ 2 = length-to_le 2 x.size in
    let lb : length b ≡ 1 = length-to_le 1 x.version in
    let lc : length c ≡ 1 = length-to_le 1 x.misaligned in
    let lab : length (a ++ b) ≡ 3 = length-append a b ∙ rw (la, lb) in
    ap (λ (l : List ℕ). splice l (place + 3) c) (splice_next mem place (place + 2) a b (omega (arith, la)) (omega (arith, lb)))
    ∙ splice_next mem place (place + 3) (a ++ b) c (omega (arith, lab)) (omega (arith, lc))
    ∙ ap (splice mem place) (append_assoc a b c)

-- the four writes of a file are one
pub file_whole : (mem : List ℕ) (n : ℕ) (boards : List Board) → 8 + 12 * n ≤ length mem
    → splice (splice (splice (splice mem 0 (to_le 4 2)) 4 (to_le 4 n)) 8 (blocks (entry_bytes n) n)) (8 + 8 * n)
    (blocks (λ k. body_bytes (get_or boards k no_board)) n)
    ≡ splice mem 0 (file_of n boards)
unfolding file_of
file_whole mem n boards fit =
    let a = to_le 4 2 in
    let b = to_le 4 n in
    let c = blocks (entry_bytes n) n in
    let d = blocks (λ k. body_bytes (get_or boards k no_board)) n in
    let la : length a ≡ 4 = length-to_le 4 2 in
    let lb : length b ≡ 4 = length-to_le 4 n in
    let lc : length c ≡ 8 * n = length-blocks 8 (entry_bytes n) (length-entry n) n in
    let ld : length d ≡ 4 * n = length-blocks 4 (λ k. body_bytes (get_or boards k no_board)) (λ k. length_body (get_or boards k no_board)) n in
    let lab : length (a ++ b) ≡ 8 = length-append a b ∙ rw (la, lb) in
    let labc : length (a ++ b ++ c) ≡ 8 + 8 * n = length-append (a ++ b) c ∙ rw (lab, lc) in
    ap (λ (l : List ℕ). splice (splice l 8 c) (8 + 8 * n) d) (splice_next mem 0 4 a b (omega (arith, la)) (omega (arith, lb)))
    ∙ ap (λ (l : List ℕ). splice l (8 + 8 * n) d) (splice_next mem 0 8 (a ++ b) c (omega (arith, lab)) (omega (arith, lc)))
    ∙ splice_next mem 0 (8 + 8 * n) (a ++ b ++ c) d (omega (arith, labc)) (omega (arith, ld))
    ∙ ap (splice mem 0) (append_assoc (a ++ b) c d ∙ append_assoc a b (c ++ d))

pub length_file : (n : ℕ) (boards : List Board) → length (file_of n boards) ≡ 8 + 12 * n
unfolding file_of
length_file n boards =
    let c = length-blocks 8 (entry_bytes n) (length-entry n) n in
    let d = length-blocks 4 (λ k. body_bytes (get_or boards k no_board)) (λ k. length_body (get_or boards k no_board)) n in
    simp (length-append, length-to_le) (omega (arith, c, d))

-- ---- what a write answers

module _ (n : ℕ) (boards : List Board) (room : ℕ) where
  pub write_few : n < 1 → written_of n boards room ≡ refused_write 21 0
  unfolding written_of
  write_few h = rw (lt-leb 1 n h)

  pub write_many : 16 < n → written_of n boards room ≡ refused_write 21 0
  unfolding written_of
  write_many h = rw (lt-leb n 16 h, and_false (leb 1 n))

  module _ (some : 1 ≤ n) (most : n ≤ 16) where
    pub write_short : room < 8 + 12 * n → written_of n boards room ≡ refused_write 21 0
    unfolding written_of
    write_short h = rw (le-leb 1 n some, le-leb n 16 most, lt-ltb _ _ h)

    pub write_by : 8 + 12 * n ≤ room → written_of n boards room ≡ by_boards n (first_bad_board n boards)
    unfolding written_of
    write_by fit = rw (le-leb 1 n some, le-leb n 16 most, le-ltb _ _ fit)

-- the answer tells what is left
pub answered : (n : ℕ) (boards : List Board) (before after : List ℕ) (w : Result ℕ Refusal) → written_of n boards (length before) ≡ w
    → after ≡ left_by before (file_of n boards) w → (w ≡ written_of n boards (length before)) × (after ≡ left_of n boards before)
answered n boards before after w e l = (sym e, l ∙ ap (left_by before (file_of n boards)) (sym e))
