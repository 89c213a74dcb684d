-- Refusals 21 to 23 of a settings file (02 [11]), row by row and without tests: when a file is refused, by which number, and at which place; and what its
-- boards are where it isn't.
-- RULES 16.
use Rattle.std.specs.Prelude.{◌≡◌, ◌⊎◌, ℕ, suc, ◌+◌, ◌*◌, ◌-◌, ◌≤◌, ◌<◌, List, [], ◌∷◌, length, get_or}
use Rattle.word.specs.Bytes.{le}
use Rattle.word.specs.Memory.{part}
use Rattle.settings.specs.Boards.{BoardRules}
use Rattle.settings.specs.declared.Board.{Board}
use Rattle.events.specs.Rows.{FirstRow, NoRow}
use Rattle.boards.specs.File.{format_of, board_count, offset_at, length_at, no_board}

-- "22 version not 1 or 2": a format that is
abbrev pub FormatRules : ℕ → Type 0
FormatRules format = (format ≡ 1) ⊎ (format ≡ 2)

-- "A body is set size (2) and A version (1: 20 or 21); in version 2 one byte more"
abbrev pub BodyLength : ℕ → ℕ → Type 0
BodyLength format n = (format ≡ 1 → n ≡ 3) × (format ≡ 2 → n ≡ 4)

-- "21 again for boards, table or end": a file that has none of them wrong. "boards (4, 1 to 16), offset and length (4 each) of every body, then the bodies
-- without a gap to the end": the table is whole, the first body starts where it ends, the next one where the one before ends, and the last ends the file. An
-- offset plus a length is a whole number, never one modulo 2 ^ 32
pub record TableRules (file : List ℕ) : Type 0 where
  pub some : 1 ≤ board_count file
  pub most : board_count file ≤ 16
  pub table : 8 + 8 * board_count file ≤ length file
  pub first : offset_at file 0 ≡ 8 + 8 * board_count file
  pub next : (k : ℕ) → suc k < board_count file → offset_at file (suc k) ≡ offset_at file k + length_at file k
  pub lengths : (k : ℕ) → k < board_count file → BodyLength (format_of file) (length_at file k)
  pub end : (k : ℕ) → suc k ≡ board_count file → offset_at file k + length_at file k ≡ length file

-- body k is this board: "set size (2) and A version (1 ..); in version 2 one byte more"; "A version 1 file means 4 and 6"
pub record BodySays (file : List ℕ) (k : ℕ) (b : Board) : Type 0 where
  pub size : b.size ≡ le (part file (offset_at file k) 2)
  pub version : b.version ≡ le (part file (offset_at file k + 2) 1)
  pub format1 : format_of file ≡ 1 → b.misaligned ≡ 0
  pub format2 : format_of file ≡ 2 → b.misaligned ≡ le (part file (offset_at file k + 3) 1)

-- The row of this order applies, at this place: "Refusals, in this order: 21 shorter than 8 bytes, 22 version not 1 or 2, 21 again for boards, table or end,
-- 23 a body's content with the first bad body's start". 02 gives a place to 23 alone: that of the others is 0
pub data SettingsRow (file : List ℕ) (order place : ℕ) : Type 0 where
  shorter : order ≡ 1 → place ≡ 0 → length file < 8 → SettingsRow file order place
  bad_format : order ≡ 2 → place ≡ 0 → (FormatRules (format_of file) → ⊥) → SettingsRow file order place
  bad_table : order ≡ 3 → place ≡ 0 → (TableRules file → ⊥) → SettingsRow file order place
  bad_body : order ≡ 4 → (k : ℕ) → k < board_count file → place ≡ offset_at file k → (b : Board) → BodySays file k b → (BoardRules b → ⊥)
      → SettingsRow file order place

-- the numbers of the four rows
abbrev pub number_at : ℕ → ℕ
number_at order = get_or (21 ∷ 22 ∷ 21 ∷ 23 ∷ []) (order - 1) 0

-- "in this order": the first row that applies, at the lowest place where it does
abbrev pub RefusedBy : List ℕ → ℕ → ℕ → Type 0
RefusedBy file number place = (order : ℕ) × (number ≡ number_at order) × FirstRow (SettingsRow file) order place

-- no row applies
abbrev pub UnrefusedFile : List ℕ → Type 0
UnrefusedFile file = NoRow (SettingsRow file)

-- so many boards, these: one for each body, and zeros in what is left of the sixteen
pub record SaysBoards (file : List ℕ) (count : ℕ) (boards : List Board) : Type 0 where
  pub many : count ≡ board_count file
  pub sixteen : length boards ≡ 16
  pub each : (k : ℕ) → k < count → BodySays file k (get_or boards k no_board)
  pub rest : (k : ℕ) → count ≤ k → get_or boards k no_board ≡ no_board
