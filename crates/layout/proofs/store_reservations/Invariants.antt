use Rattle.std.proofs.Common.{◌≡◌, length, take}
use Rattle.word.specs.Memory.{splice}
use Rattle.layout.specs.Layout.{word_bytes, slot_words}
use Rattle.layout.proofs.store_reservations.Given as goal

abbrev pub invariant-loop-k : goal.invariant-loop-k
invariant-loop-k l =
    (length l.bytes ≡ length l.initial.bytes) × (l.bytes ≡ splice l.initial.bytes 2120 (word_bytes (slot_words (take l.k l.used))))
