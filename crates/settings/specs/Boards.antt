-- What a settings file says of a board (02 [11]), and the settings that a case has on it.
-- RULES 1.6, 16.
use Rattle.std.specs.Prelude.{Bool, ◌&&◌, ℕ}
use Rattle.settings.specs.Settings.{SizeRules, size_ok, VersionRules, version_ok, MisalignedRules, misaligned_ok}
use Rattle.settings.specs.declared.Board.{Board}
use Rattle.settings.specs.declared.Settings.{Settings}

-- the settings of a case of this kind on this board; the kind isn't the board's, 02 [10]: "A case file states it"
abbrev pub on_board : Board → ℕ → Settings
on_board board kind = record { size = board.size; version = board.version; kind = kind; misaligned = board.misaligned }

-- what a case runs under that is given without a board: the defaults, but for its kind
abbrev pub default_board : Board
default_board = record { size = 64; version = 21; misaligned = 0 }

-- "A body is set size (2) and A version (1: 20 or 21); in version 2 one byte more, 0 where .., 1 where .."; [5]: "a power of two from 8 to 4,096": what a board
-- may have, whatever the kind
abbrev pub BoardRules : Board → Type 0
BoardRules board = SizeRules (on_board board 0) × VersionRules (on_board board 0) × MisalignedRules (on_board board 0)

-- the same as a test
unfoldable pub board_ok : Board → Bool
board_ok board = size_ok (on_board board 0) && (version_ok (on_board board 0) && misaligned_ok (on_board board 0))
