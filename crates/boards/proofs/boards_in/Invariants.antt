use mathlib.Core.Path.{◌≡◌}
use lib.ListN.{replicate}
use Rattle.word.specs.Each.{each}
use Rattle.boards.specs.File.{no_board, board_in}
use Rattle.boards.proofs.boards_in.Given as goal

abbrev pub invariant-loop-k : goal.invariant-loop-k
invariant-loop-k l = (l.boards ≡ each (λ j _. board_in l.table.file.now l.table.format l.table.count j) l.k (replicate 16 no_board))
