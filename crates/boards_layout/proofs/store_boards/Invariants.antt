use mathlib.Core.Path.{◌≡◌}
use lib.ListN.{get_or}
use Rattle.word.specs.Memory.{splice}
use Rattle.boards.specs.File.{no_board}
use Rattle.boards.specs.Write.{blocks}
use Rattle.boards_layout.specs.Boards.{board_bytes}
use Rattle.boards_layout.proofs.store_boards.Given as goal

abbrev pub invariant-loop-k : goal.invariant-loop-k
invariant-loop-k l = l.bytes ≡ splice l.initial.bytes 0 (blocks (λ j. board_bytes (get_or l.board-items j no_board)) l.k)
