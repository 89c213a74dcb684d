-- What keeps a machine one that refusals 1 and 2 don't refuse.
-- RULES 1.1, 1.3: what every event keeps.
use Rattle.std.specs.Prelude.{◌≡◌, ℕ, ◌%◌, ◌^◌, ◌<◌, length}
use Rattle.reserve.specs.Range.{Inside}
use Rattle.machine.specs.Rules.{MemoryRules, StateRules}
use Rattle.word.specs.Bytes.{IsBytes}
use Rattle.effect.specs.Sound.{AccessOk, WritesFit, AccessFits}
use Rattle.model.specs.Act.{Act, refuse, fault, change, put, release}
use Rattle.model.specs.Perform.{Machine}

-- neither 1 nor 2 refuses the machine
abbrev pub Valid : ℕ → Machine → Type 0
Valid base m = MemoryRules m.state.settings base (length m.mem) × StateRules base (length m.mem) m.state

-- an act whose next pc is aligned, whose reservation is well formed and whose bytes lie in the len bytes at base
abbrev pub ActOk : ℕ → ℕ → Act → Type 0
ActOk base len (refuse number) = Unit {0}
ActOk base len (fault cause value) = Unit {0}
ActOk base len (change h ws to t) = (to % 4 ≡ 0) × AccessOk base len t
ActOk base len (put a bs) = Inside base len a (length bs)
ActOk base len (release h) = Unit {0}

-- an act that writes numbers of xlen bits to registers and pc, stores bytes, and reserves no more than a register has
abbrev pub ActFits : ℕ → Act → Type 0
ActFits xlen (refuse number) = Unit {0}
ActFits xlen (fault cause value) = Unit {0}
ActFits xlen (change h ws to t) = WritesFit xlen ws × ((to < 2 ^ xlen) × AccessFits xlen t)
ActFits xlen (put a bs) = IsBytes bs
ActFits xlen (release h) = Unit {0}
