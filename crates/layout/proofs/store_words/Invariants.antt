use Rattle.std.proofs.Common.{◌≡◌, length, take}
use Rattle.word.specs.Memory.{splice}
use Rattle.layout.specs.Layout.{word_bytes}
use Rattle.layout.proofs.store_words.Given as goal

abbrev pub invariant-loop-i : goal.invariant-loop-i
invariant-loop-i l = (length l.bytes ≡ length l.initial.bytes) × (l.bytes ≡ splice l.initial.bytes l.place (word_bytes (take l.i l.words)))
