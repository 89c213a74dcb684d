-- The writer's refusals (02 [11]) row by row and without tests: "the writer gives 21 (also for a buffer too short) and 23 too, writing nothing".
-- RULES 16.
use Rattle.std.specs.Prelude.{◌≡◌, ℕ, ◌+◌, ◌*◌, ◌≤◌, ◌<◌, List, length, get_or}
use Rattle.settings.specs.Boards.{BoardRules}
use Rattle.settings.specs.declared.Board.{Board}
use Rattle.events.specs.Rows.{FirstRow, NoRow}
use Rattle.boards.specs.File.{no_board}
use Rattle.boards.specs.Write.{file_of}

-- "boards (4, 1 to 16)"
abbrev pub CountRules : ℕ → Type 0
CountRules n = (1 ≤ n) × (n ≤ 16)

-- The row of this number applies, at this place, to a write of the first n of these boards to a buffer of so many bytes: a number of boards that isn't allowed,
-- a buffer that the file doesn't fit, or a board that no file may have. The place of 23 is the start of its body in the file that would be written, behind the
-- table and the bodies before, each of 4 bytes
pub data WriteRow (n : ℕ) (boards : List Board) (room number place : ℕ) : Type 0 where
  bad_count : number ≡ 21 → place ≡ 0 → (CountRules n → ⊥) → WriteRow n boards room number place
  no_room : number ≡ 21 → place ≡ 0 → room < length (file_of n boards) → WriteRow n boards room number place
  bad_board : number ≡ 23 → (k : ℕ) → k < n → place ≡ 8 + 8 * n + 4 * k → (BoardRules (get_or boards k no_board) → ⊥) → WriteRow n boards room number place

-- the first row that applies, at the lowest place where it does
abbrev pub WriteRefusedBy : ℕ → List Board → ℕ → ℕ → ℕ → Type 0
WriteRefusedBy n boards room = FirstRow (WriteRow n boards room)

-- no row applies
abbrev pub UnrefusedWrite : ℕ → List Board → ℕ → Type 0
UnrefusedWrite n boards room = NoRow (WriteRow n boards room)
