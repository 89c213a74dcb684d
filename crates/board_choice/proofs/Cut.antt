-- A settings file has 200 bytes at most. So the first 4,096 bytes of a file, or any number above 200, get the answer of the whole. Assumes nothing.
use mathlib.Core.Path.{◌≡◌, sym, ap, ◌∙◌}
use mathlib.Core.Logic.{⊎_elim}
use mathlib.Core.Bool.{false, cond}
use mathlib.Core.List.{List}
use Prim.Native.Nat.{ℕ, ◌≤◌, ◌<◌}
use native.Mathlib.Omega.{arith}
use lib.Dec.{eqb, leb}
use lib.ListN.{length, take}
use lib.Seq.{take_all, take-take, length-take-le}
use borrow.Author.Tests.{leb-true, le-ltb, ne_eqb}
use Rattle.word.specs.Bytes.{le}
use Rattle.word.specs.Memory.{part}
use Rattle.word.proofs.TestLaws.{bool_cases}
use Rattle.word.proofs.WordLaws.{split_lt}
use Rattle.boards.specs.File.{format_of, board_count, format_ok, body_size, start_of, table_ok, refused_file, read_of}

-- where 16 boards or fewer end
end_most : (format n : ℕ) → n ≤ 16 → start_of format n n ≤ 200
unfolding start_of body_size
end_most format n h = bool_cases (eqb format 1) (λ t. rw t (omega arith)) (λ f. rw f (omega arith))

-- so the table of a longer file is wrong
long_table : (file : List ℕ) (format n : ℕ) → 200 < length file → table_ok file format n ≡ false
unfolding table_ok
long_table file format n h =
    bool_cases (leb 1 n)
    (λ a.
    bool_cases (leb n 16)
    (λ b. rw (a, b, ne_eqb (length file) (start_of format n n) (λ e. omega (arith, e, h, end_most format n (leb-true n 16 b)))))
    (λ b. rw (a, b)))
    (λ a. rw a)

long_read : (file : List ℕ) → 200 < length file → read_of file ≡ cond (format_ok (format_of file)) (refused_file 21 0) (refused_file 22 0)
unfolding read_of
long_read file h = rw (le-ltb (length file) 8 (omega arith), long_table file (format_of file) (board_count file) h)

-- the first 4 bytes of a part are those of the whole
same_format : (file : List ℕ) (n : ℕ) → 4 ≤ n → format_of (take n file) ≡ format_of file
unfolding part
same_format file n h = ap le (take-take 4 n file h)

pub cut_same : (file : List ℕ) (n : ℕ) → 200 < n → read_of (take n file) ≡ read_of file
cut_same file n h =
    ⊎_elim
    (λ (long : n < length file).
    let size = length-take-le n file (omega arith) in
    long_read (take n file) (omega (arith, size, h))
    ∙ ap (λ (f : ℕ). cond (format_ok f) (refused_file 21 0) (refused_file 22 0)) (same_format file n (omega arith))
    ∙ sym (long_read file (omega arith)))
    (λ (short : length file ≤ n). ap read_of (take_all n file short))
    (split_lt n (length file))
