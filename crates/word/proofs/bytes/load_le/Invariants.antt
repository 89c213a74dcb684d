use Rattle.std.proofs.Common.{◌≡◌, length, ◌-◌, drop}
use Rattle.word.specs.Bytes.{le}
use Rattle.word.proofs.bytes.load_le.Given as goal

-- v is the number of the bytes from the last one read on
abbrev pub invariant-loop-b : goal.invariant-loop-b
invariant-loop-b l = l.v ≡ le (drop (length l.bytes - length l.yielded) l.bytes)
