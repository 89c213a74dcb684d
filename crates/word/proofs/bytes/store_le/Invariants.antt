use Rattle.std.proofs.Common.{◌≡◌, ◌-◌, ◌++◌, length, take}
use Rattle.word.specs.Bytes.{to_le}
use Rattle.word.proofs.bytes.store_le.Given as goal

-- the bytes written, followed by those of what is left, are the bytes of v
abbrev pub invariant-loop-b : goal.invariant-loop-b
invariant-loop-b l =
    take l.b-index l.bytes ++ to_le (length l.initial.bytes - l.b-index) l.rest ≡ to_le (length l.initial.bytes) l.v
