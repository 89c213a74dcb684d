-- A settings file read (02 [11]): "A settings file, little-endian, holds version (4 bytes), boards (4, 1 to 16), offset and length (4 each) of every body,
-- then the bodies without a gap to the end." The file's own version is called its format here, since `version` is that of A.
-- RULES 16.
use Rattle.std.specs.Prelude.{ℕ, ◌+◌, ◌*◌, ◌-◌, ◌≤◌, ◌<◌, Bool, cond, ◌&&◌, ◌||◌, List, ◌++◌, ltb, leb, eqb, length, get_or, take, replicate}
use Rattle.std.specs.Prelude.{Option, Some, None, Result, Ok, Err}
use Rattle.word.specs.Bytes.{le}
use Rattle.word.specs.Memory.{part, field_at}
use Rattle.word.specs.Each.{each, all_below}
use Rattle.refusal.specs.declared.Refusal.{Refusal}
use Rattle.settings.specs.Boards.{BoardRules, board_ok}
use Rattle.settings.specs.declared.Board.{Board}
use Rattle.boards.specs.First.{first_not}
use Rattle.boards.specs.declared.SettingsFile.{SettingsFile}

-- "holds version (4 bytes), boards (4, 1 to 16)"
abbrev pub format_of : List ℕ → ℕ
format_of file = field_at file 0

abbrev pub board_count : List ℕ → ℕ
board_count file = field_at file 4

-- "offset and length (4 each) of every body"
abbrev pub offset_at : List ℕ → ℕ → ℕ
offset_at file k = field_at file (8 + 8 * k)

abbrev pub length_at : List ℕ → ℕ → ℕ
length_at file k = field_at file (12 + 8 * k)

-- "22 version not 1 or 2": it is one of them
abbrev pub format_ok : ℕ → Bool
format_ok format = eqb format 1 || eqb format 2

-- "A body is set size (2) and A version (1: 20 or 21); in version 2 one byte more"
unfoldable pub body_size : ℕ → ℕ
body_size format = cond (eqb format 1) 3 4

-- "then the bodies without a gap to the end": where body k of n starts. Body n would start where the file ends
unfoldable pub start_of : ℕ → ℕ → ℕ → ℕ
start_of format n k = 8 + 8 * n + body_size format * k

-- the board that the body at a place is. "A version 1 file means 4 and 6": misaligned 0
unfoldable pub board_at : ℕ → List ℕ → ℕ → Board
board_at format file start =
    record {
      size = le (part file start 2);
      version = le (part file (start + 2) 1);
      misaligned = cond (eqb format 1) 0 (le (part file (start + 3) 1));
    }

-- body k of n
abbrev pub board_in : List ℕ → ℕ → ℕ → ℕ → Board
board_in file format n k = board_at format file (start_of format n k)

-- the entry of body k of n has its start and its length
unfoldable pub entry_ok : List ℕ → ℕ → ℕ → ℕ → Bool
entry_ok file format n k = eqb (offset_at file k) (start_of format n k) && eqb (length_at file k) (body_size format)

-- "21 again for boards, table or end": none of them is wrong
unfoldable pub table_ok : List ℕ → ℕ → ℕ → Bool
table_ok file format n = (leb 1 n && leb n 16) && (eqb (length file) (start_of format n n) && all_below (entry_ok file format n) n)

-- what stands where there is no board
abbrev pub no_board : Board
no_board = record { size = 0; version = 0; misaligned = 0 }

-- a refused file has no boards
abbrev pub refused_file : ℕ → ℕ → Result SettingsFile Refusal
refused_file number place = Err (record { number = number; place = place })

-- the boards of a file with n of them, in their order
unfoldable pub boards_in : List ℕ → ℕ → ℕ → List Board
boards_in file format n = each (λ k _. board_in file format n k) n (replicate 16 no_board)

-- "23 a body's content with the first bad body's start", of a file with n bodies, the first bad one of them this, if one is bad
abbrev pub by_bodies : List ℕ → ℕ → ℕ → Option ℕ → Result SettingsFile Refusal
by_bodies file format n (Some bad) = refused_file 23 (start_of format n bad)
by_bodies file format n None = Ok (record { format = format; count = n; boards = boards_in file format n })

-- "Refusals, in this order: 21 shorter than 8 bytes, 22 version not 1 or 2, 21 again for boards, table or end, 23 a body's content"
unfoldable pub read_of : List ℕ → Result SettingsFile Refusal
read_of file =
    cond (ltb (length file) 8) (refused_file 21 0)
    (cond (format_ok (format_of file))
    (cond (table_ok file (format_of file) (board_count file))
    (by_bodies file (format_of file) (board_count file)
    (first_not (λ k. board_ok (board_in file (format_of file) (board_count file) k)) (board_count file)))
    (refused_file 21 0))
    (refused_file 22 0))

-- the first n of these boards, read from a file of this format
abbrev pub read_as : ℕ → ℕ → List Board → Result SettingsFile Refusal
read_as format n boards = Ok (record { format = format; count = n; boards = take n boards ++ replicate (16 - n) no_board })

-- each of the first n boards keeps the rules
abbrev pub AllKept : ℕ → List Board → Type 0
AllKept n boards = (k : ℕ) → k < n → BoardRules (get_or boards k no_board)

-- what holds of every file that is read: it has 1 to 16 boards, and each of them keeps the rules
abbrev pub KeptFile : SettingsFile → Type 0
KeptFile f = (1 ≤ f.format) × (f.format ≤ 2) × (1 ≤ f.count) × (f.count ≤ 16) × AllKept f.count f.boards

-- and of every answer: a refusal is 21, 22 or 23
abbrev pub Kept : Result SettingsFile Refusal → Type 0
Kept (Err r) = (21 ≤ r.number) × (r.number ≤ 23)
Kept (Ok f) = KeptFile f
