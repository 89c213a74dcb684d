-- Boards as C and Rust keep them: 24 bytes for each, one behind the other. Every number has 8 bytes, the lowest first:
--
--      0   the size of a reservation's set
--      8   the version of A
--     16   misaligned
use Rattle.std.specs.Prelude.{ℕ, ◌+◌, ◌*◌, min, List, [], ◌∷◌, get_or, replicate}
use Rattle.word.specs.Each.{each}
use Rattle.settings.specs.declared.Board.{Board}
use Rattle.layout.specs.Layout.{word_at, word_bytes}
use Rattle.boards.specs.File.{no_board}
use Rattle.boards.specs.Write.{blocks}

-- the board at a place
abbrev pub board_from : List ℕ → ℕ → Board
board_from bytes place = record { size = word_at bytes place; version = word_at bytes (place + 8); misaligned = word_at bytes (place + 16) }

-- the first sixteen of n boards, and zeros behind them
unfoldable pub boards_from : List ℕ → ℕ → List Board
boards_from bytes n = each (λ k _. board_from bytes (24 * k)) (min n 16) (replicate 16 no_board)

-- the bytes of a board
abbrev pub board_bytes : Board → List ℕ
board_bytes b = word_bytes (b.size ∷ b.version ∷ b.misaligned ∷ [])

-- and of sixteen
unfoldable pub boards_bytes : List Board → List ℕ
boards_bytes boards = blocks (λ k. board_bytes (get_or boards k no_board)) 16
