use mathlib.Core.Path.{◌≡◌}
use mathlib.Core.Bool.{true}
use lib.ListN.{get_or}
use Rattle.word.specs.Each.{all_below}
use Rattle.settings.specs.Boards.{board_ok}
use Rattle.boards.specs.File.{no_board}
use Rattle.boards.proofs.first_bad_board.Given as goal

abbrev pub invariant-loop-k : goal.invariant-loop-k
invariant-loop-k l = (all_below (λ j. board_ok (get_or l.boards j no_board)) l.k ≡ true)
