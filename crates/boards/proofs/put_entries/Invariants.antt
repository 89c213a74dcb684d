use mathlib.Core.Path.{◌≡◌}
use Rattle.word.specs.Memory.{splice}
use Rattle.boards.specs.Write.{blocks, entry_bytes}
use Rattle.boards.proofs.put_entries.Given as goal

abbrev pub invariant-loop-k : goal.invariant-loop-k
invariant-loop-k l = (l.out ≡ splice l.initial.out 8 (blocks (entry_bytes l.count) l.k))
