use mathlib.Core.Path.{◌≡◌}
use lib.ListN.{get_or}
use Rattle.word.specs.Memory.{splice}
use Rattle.boards.specs.File.{no_board}
use Rattle.boards.specs.Write.{blocks, body_bytes}
use Rattle.boards.proofs.put_bodies.Given as goal

abbrev pub invariant-loop-k : goal.invariant-loop-k
invariant-loop-k l = (l.out ≡ splice l.initial.out l.first (blocks (λ j. body_bytes (get_or l.boards j no_board)) l.k))
