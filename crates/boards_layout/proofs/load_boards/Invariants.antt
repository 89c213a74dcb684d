use mathlib.Core.Path.{◌≡◌}
use Prim.Native.Nat.{◌*◌}
use lib.ListN.{replicate}
use Rattle.word.specs.Each.{each}
use Rattle.boards.specs.File.{no_board}
use Rattle.boards_layout.specs.Boards.{board_from}
use Rattle.boards_layout.proofs.load_boards.Given as goal

abbrev pub invariant-loop-k : goal.invariant-loop-k
invariant-loop-k l = l.boards ≡ each (λ j _. board_from l.bytes (24 * j)) l.k (replicate 16 no_board)
