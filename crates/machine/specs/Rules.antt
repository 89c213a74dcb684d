-- The rules of 01, "The machine", with 02 [5], [7], [10] and [11], without tests: what refusals 1 and 2 ask of a memory and a state, its settings among them.
-- RULES 1.1, 1.2, 1.3, 1.6, 2.1.
use Rattle.std.specs.Prelude.{◌≡◌, ◌⊎◌, ℕ, ◌+◌, ◌*◌, ◌%◌, ◌^◌, ◌≤◌, ◌<◌, Option, None, Some, get_or, length}
use Rattle.settings.specs.Settings.{xlen_of, SizeRules, ReadingRules, MisalignedRules, granule_of}
use Rattle.settings.specs.declared.Settings.{Settings}
use Rattle.reserve.specs.Range.{Inside}
use Rattle.reserve.specs.declared.Reservation.{Reservation}
use Rattle.machine.specs.declared.State.{State}

-- "One lent memory, 64 to 1,048,576 bytes, .. at a base address that is .. at most 2^40."; 02 [5]: "Memory base and length are now multiples of the larger
-- of 64 and the size."
abbrev pub LentRules : Settings → ℕ → ℕ → Type 0
LentRules settings base len =
    (64 ≤ len) × (len ≤ 1048576) × (len % granule_of settings ≡ 0) × (base % granule_of settings ≡ 0) × (base ≤ 2 ^ 40)

-- 02 [10], of the 32-bit core: "Base plus length is at most 2^32 for this kind". Of the 64-bit core it asks nothing that LentRules doesn't (top-64 of
-- proofs/StateLaws.antt).
abbrev pub TopRules : Settings → ℕ → ℕ → Type 0
TopRules settings base len = base + len ≤ 2 ^ xlen_of settings

-- what refusal 1 asks; 02 [5]: "a size not allowed is 1"
abbrev pub MemoryRules : Settings → ℕ → ℕ → Type 0
MemoryRules settings base len = SizeRules settings × LentRules settings base len × TopRules settings base len

-- How it is broken, 02 [5]: the size is "tried before base and length". All are 1, so no answer shows which was tried first; without a size that is
-- allowed nothing is asked of base and length, and without base and length that are nothing of their sum.
pub data WrongMemory (settings : Settings) (base len : ℕ) : Type 0 where
  by_size : (SizeRules settings → ⊥) → WrongMemory settings base len
  by_length_or_base : SizeRules settings → (LentRules settings base len → ⊥) → WrongMemory settings base len
  by_top : SizeRules settings → LentRules settings base len → (TopRules settings base len → ⊥) → WrongMemory settings base len

-- "at most one reservation: the address and width (4 or 8) of the LR that made it", aligned to the width and inside memory; 02 [10], of the 32-bit core:
-- "A reservation 8 wide is refusal 2 here"
abbrev pub ReservationRules : Settings → ℕ → ℕ → Option Reservation → Type 0
ReservationRules settings base len None = Unit {0}
ReservationRules settings base len (Some r) =
    ((r.width ≡ 4) ⊎ (r.width ≡ 8)) × (8 * r.width ≤ xlen_of settings) × (r.addr % r.width ≡ 0) × Inside base len r.addr r.width

-- 02 [10]: "Registers and pc of a 32-bit case with a nonzero upper half are refusal 9 too, 2 in the library": hart k's have none
abbrev pub UpperZero : State → ℕ → Type 0
UpperZero s k = ((r : ℕ) → r < 32 → get_or s.x (k * 32 + r) 0 < 2 ^ 32) × (get_or s.pc k 0 < 2 ^ 32)

-- "x0 zero .. a pc that is a multiple of 4": hart k
abbrev pub HartRules : ℕ → ℕ → State → ℕ → Type 0
HartRules base len s k =
    (get_or s.x (k * 32) 0 ≡ 0)
    × (get_or s.pc k 0 % 4 ≡ 0)
    × ReservationRules s.settings base len (get_or s.res k None)
    × (xlen_of s.settings ≡ 32 → UpperZero s k)

-- "1 to 8 harts"; only those below the count are looked at; 02 [7]: "any other version is 2", and so is a kind that is neither of [10]'s; [11]: "any other
-- value refusal 2"
abbrev pub StateRules : ℕ → ℕ → State → Type 0
StateRules base len s =
    (1 ≤ s.count)
    × (s.count ≤ 8)
    × ((k : ℕ) → k < s.count → HartRules base len s k)
    × ReadingRules s.settings
    × MisalignedRules s.settings

-- the lengths of a state's arrays, which its type fixes
pub record Shaped (s : State) : Type 0 where
  pub registers : length s.x ≡ 256
  pub pcs : length s.pc ≡ 8
  pub reservations : length s.res ≡ 8
