-- Settings files with their boards as bytes: what floecavern_read_settings and floecavern_write_settings leave in the buffers, and their answers.
use Rattle.std.specs.Prelude.{◌≡◌, Result, Ok, Err, List, [], ◌∷◌, ℕ, ◌+◌, ◌/◌, ◌%◌, ◌≤◌, length, replicate}
use Rattle.word.specs.Bytes.{to_le}
use Rattle.layout.specs.Layout.{word_bytes}
use Rattle.refusal.specs.declared.Refusal.{Refusal}
use Rattle.settings.specs.declared.Board.{Board}
use Rattle.boards.specs.File.{no_board, read_of}
use Rattle.boards.specs.Write.{written_of, left_of}
use Rattle.boards.specs.declared.SettingsFile.{SettingsFile}
use Rattle.boards_layout.specs.Boards.{boards_from, boards_bytes}
use Rattle.capi.specs.Answers.{wrong_size}

-- ---- a file read

-- 512 and the number of a refusal, or 0
abbrev pub read_code : Result SettingsFile Refusal → ℕ
read_code (Err r) = 512 + r.number
read_code (Ok f) = 0

-- the place of a refusal, or the format
abbrev pub read_first : Result SettingsFile Refusal → ℕ
read_first (Err r) = r.place
read_first (Ok f) = f.format

-- how many boards there are: a refused file has none
abbrev pub read_count : Result SettingsFile Refusal → ℕ
read_count (Err r) = 0
read_count (Ok f) = f.count

-- sixteen boards, those of the file and zeros behind them
abbrev pub read_boards : Result SettingsFile Refusal → List Board
read_boards (Err r) = replicate 16 no_board
read_boards (Ok f) = f.boards

-- what keeps the answers small
abbrev pub SmallRead : Result SettingsFile Refusal → Type 0
SmallRead (Err r) = r.number ≤ 23
SmallRead (Ok f) = Unit {0}

-- What is left where the file is this: two numbers are told, the format, or the place of a refusal, and how many boards there are; sixteen boards are
-- written, those of the file and zeros behind them.
pub record SettingsTold (f : Result SettingsFile Refusal) (r : ℕ) (boards' told' : List ℕ) : Type 0 where
  pub answer : r ≡ read_code f
  pub numbers : told' ≡ word_bytes (read_first f ∷ read_count f ∷ [])
  pub bytes : boards' ≡ boards_bytes (read_boards f)

-- What a read leaves, and its answer r. Where the room isn't that of sixteen boards and of two numbers, nothing is written.
pub record SettingsRead (file boards told : List ℕ) (r : ℕ) (boards' told' : List ℕ) : Type 0 where
  pub wrong : ((length boards ≡ 384) × (length told ≡ 16) → ⊥) → (r ≡ wrong_size) × (boards' ≡ boards) × (told' ≡ told)
  pub right : length boards ≡ 384 → length told ≡ 16 → SettingsTold (read_of file) r boards' told'

-- ---- a file written

-- 512 and the number of a refusal, or 0
abbrev pub written_code : Result ℕ Refusal → ℕ
written_code (Err r) = 512 + r.number
written_code (Ok n) = 0

-- the place of a refusal, or how many bytes the file has
abbrev pub written_told : Result ℕ Refusal → ℕ
written_told (Err r) = r.place
written_told (Ok n) = n

-- what keeps the answer small
abbrev pub SmallWritten : Result ℕ Refusal → Type 0
SmallWritten (Err r) = r.number ≤ 23
SmallWritten (Ok n) = Unit {0}

-- what is left where n boards are given, the first sixteen of them these
pub record WriteTold (n : ℕ) (boards : List Board) (out : List ℕ) (r : ℕ) (out' told' : List ℕ) : Type 0 where
  pub answer : r ≡ written_code (written_of n boards (length out))
  pub number : told' ≡ to_le 8 (written_told (written_of n boards (length out)))
  pub bytes : out' ≡ left_of n boards out

-- What a write leaves, and its answer r. Where the boards aren't whole or the room isn't that of a number, nothing is written.
pub record SettingsWritten (boards out told : List ℕ) (r : ℕ) (out' told' : List ℕ) : Type 0 where
  pub wrong : ((length boards % 24 ≡ 0) × (length told ≡ 8) → ⊥) → (r ≡ wrong_size) × (out' ≡ out) × (told' ≡ told)
  pub right : length boards % 24 ≡ 0 → length told ≡ 8
      → WriteTold (length boards / 24) (boards_from boards (length boards / 24)) out r out' told'
