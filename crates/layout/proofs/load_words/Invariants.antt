use Rattle.std.proofs.Common.{◌≡◌, ◌+◌, ◌*◌, length}
use Rattle.word.specs.Each.{each}
use Rattle.layout.specs.Layout.{word_at}
use Rattle.layout.proofs.load_words.Given as goal

abbrev pub invariant-loop-i : goal.invariant-loop-i
invariant-loop-i l = (length l.out ≡ length l.initial.out) × (l.out ≡ each (λ k _. word_at l.bytes (l.place + 8 * k)) l.i l.initial.out)
