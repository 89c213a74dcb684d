use mathlib.Core.Path.{subst}
use Rattle.board_choice.specs.Choice.{Allowed}
use Rattle.floecavern.proofs.run_on_board.Goals as goal

pub run-requires : goal.run-requires
run-requires c = subst Allowed c.in-Ok.is c.chosen.ensures
