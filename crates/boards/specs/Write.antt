-- A settings file written (02 [11]): "Both versions are read; only version 2 is written." "the writer gives 21 (also for a buffer too short) and 23 too,
-- writing nothing".
-- RULES 16.
use Rattle.std.specs.Prelude.{ℕ, zero, suc, ◌+◌, ◌*◌, cond, ◌&&◌, List, [], ◌++◌, ltb, leb, length, get_or}
use Rattle.std.specs.Prelude.{Option, Some, None, Result, Ok, Err}
use Rattle.word.specs.Bytes.{to_le}
use Rattle.word.specs.Memory.{splice}
use Rattle.refusal.specs.declared.Refusal.{Refusal}
use Rattle.settings.specs.Boards.{board_ok}
use Rattle.settings.specs.declared.Board.{Board}
use Rattle.boards.specs.First.{first_not}
use Rattle.boards.specs.File.{body_size, start_of, no_board}

-- f 0, f 1 and so on, n of them, one behind the other
unfoldable pub blocks : (ℕ → List ℕ) → ℕ → List ℕ
blocks f zero = []
blocks f (suc n) = blocks f n ++ f n

-- "offset and length (4 each) of every body": the entry of body k of n
abbrev pub entry_bytes : ℕ → ℕ → List ℕ
entry_bytes n k = to_le 4 (start_of 2 n k) ++ to_le 4 (body_size 2)

-- "A body is set size (2) and A version (1: 20 or 21); in version 2 one byte more"
abbrev pub body_bytes : Board → List ℕ
body_bytes b = to_le 2 b.size ++ (to_le 1 b.version ++ to_le 1 b.misaligned)

-- "version (4 bytes), boards (4, 1 to 16), offset and length (4 each) of every body, then the bodies without a gap to the end": the file of the first n of
-- these boards
unfoldable pub file_of : ℕ → List Board → List ℕ
file_of n boards = to_le 4 2 ++ (to_le 4 n ++ (blocks (entry_bytes n) n ++ blocks (λ k. body_bytes (get_or boards k no_board)) n))

-- the first of n boards that is bad, if one is
abbrev pub first_bad_board : ℕ → List Board → Option ℕ
first_bad_board n boards = first_not (λ k. board_ok (get_or boards k no_board)) n

-- a refused write has written nothing
abbrev pub refused_write : ℕ → ℕ → Result ℕ Refusal
refused_write number place = Err (record { number = number; place = place })

-- what a write of n boards that fits answers, the first bad one of them this, if one is bad. The place of 23 is that of its body in the file that would be
-- written
abbrev pub by_boards : ℕ → Option ℕ → Result ℕ Refusal
by_boards n (Some bad) = refused_write 23 (start_of 2 n bad)
by_boards n None = Ok (8 + 12 * n)

-- what a write of the first n of these boards to a buffer of so many bytes answers: a refusal, or how many bytes it wrote
unfoldable pub written_of : ℕ → List Board → ℕ → Result ℕ Refusal
written_of n boards room =
    cond (leb 1 n && leb n 16)
    (cond (ltb room (8 + 12 * n)) (refused_write 21 0) (by_boards n (first_bad_board n boards)))
    (refused_write 21 0)

-- what it leaves in the buffer: "writing nothing" where it is refused; the bytes behind the file stay
abbrev pub left_by : List ℕ → List ℕ → Result ℕ Refusal → List ℕ
left_by before file (Err r) = before
left_by before file (Ok n) = splice before 0 file

abbrev pub left_of : ℕ → List Board → List ℕ → List ℕ
left_of n boards before = left_by before (file_of n boards) (written_of n boards (length before))
