use Rattle.std.proofs.Common.{◌≡◌, ◌+◌, ◌*◌, None}
use lib.ListN.{replicate}
use Rattle.word.specs.Each.{each}
use Rattle.layout.specs.Layout.{reservation_at}
use Rattle.layout.proofs.load_reservations.Given as goal

abbrev pub invariant-loop-k : goal.invariant-loop-k
invariant-loop-k l = l.held-items ≡ each (λ h _. reservation_at l.bytes (2120 + 24 * h)) l.k (replicate 8 None)
