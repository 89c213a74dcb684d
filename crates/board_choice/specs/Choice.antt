-- The board that a program's arguments choose, by the settings file that is read and the number that is said. (What a system gives as a file and as an
-- argument no definition says.)
use Rattle.std.specs.Prelude.{ℕ, ◌≤◌, cond, ltb, get_or, Option, Some, None, Result, Ok, Err}
use Rattle.refusal.specs.declared.Refusal.{Refusal}
use Rattle.settings.specs.Boards.{BoardRules}
use Rattle.settings.specs.declared.Board.{Board}
use Rattle.boards.specs.File.{no_board}
use Rattle.boards.specs.declared.SettingsFile.{SettingsFile}
use Rattle.board_choice.specs.declared.NoBoard.{NoBoard}
use Rattle.board_choice.specs.declared.NoBoard.TheVariants.{Told, Refused}

-- boards count from 0
abbrev pub choice_by : SettingsFile → Option ℕ → Result Board NoBoard
choice_by file None = Err Told
choice_by file (Some said) = cond (ltb said file.count) (Ok (get_or file.boards said no_board)) (Err Told)

-- a file that is refused is refused whatever number is said
abbrev pub choice_of : Result SettingsFile Refusal → Option ℕ → Result Board NoBoard
choice_of (Err r) said = Err (Refused r)
choice_of (Ok file) said = choice_by file said

-- a settings file is refused by 21, 22 or 23
abbrev pub AllowedNone : NoBoard → Type 0
AllowedNone Told = Unit {0}
AllowedNone (Refused r) = (21 ≤ r.number) × (r.number ≤ 23)

-- and a board that is chosen may be set so
abbrev pub Allowed : Result Board NoBoard → Type 0
Allowed (Err e) = AllowedNone e
Allowed (Ok board) = BoardRules board
