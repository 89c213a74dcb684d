use Rattle.std.proofs.Common.{◌≡◌, replicate, None}
use Rattle.word.specs.Each.{each}
use Rattle.event_table.specs.Build.{reservation_at}
use Rattle.event_table.proofs.build.reservations.Given as goal

abbrev pub invariant-loop-h : goal.invariant-loop-h
invariant-loop-h l = l.held-items ≡ each (λ k _. reservation_at l.count l.x k) l.h (replicate 8 None)
