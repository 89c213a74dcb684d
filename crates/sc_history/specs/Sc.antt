-- Which SCs trap (02 [2]), and the words of demand 2's sentence on SC: "from a start without reservations an SC that doesn't trap succeeds exactly if
-- the history since its hart's latest retired LR allows it".
-- RULES 3.2, 4.6, 11.2.
use Rattle.std.specs.Prelude.{◌≡◌, ◌≢◌, ℕ, ◌-◌, ◌%◌, ◌<◌, length}
use Rattle.word.specs.Bytes.{to_le}
use Rattle.word.specs.Memory.{splice}
use Rattle.reserve.specs.Range.{Inside}
use Rattle.std.specs.Prelude.{None}
use Rattle.isa.specs.declared.AtomicOp.TheVariants.{Sc}
use Rattle.isa.specs.declared.Atomic.{Atomic}
use Rattle.isa.specs.declared.Instr.TheVariants.{Amo}
use Rattle.machine.specs.declared.State.{State}
use Rattle.effect.specs.Execute.{reg_at}
use Rattle.events.specs.declared.Event.TheVariants.{Step}
use Rattle.model.specs.Perform.{Machine, reservation_of, next_of}
use Rattle.model.specs.Fetch.{Fetches}
use Rattle.notices.specs.Happened.{atomic_address, atomic_size}

-- "a start without reservations": no used hart holds one
abbrev pub Reservationless : State → Type 0
Reservationless s = (k : ℕ) → k < s.count → reservation_of s k ≡ None

-- hart h's next step is this SC, of either width (W alone where registers have 32 bits), with any ordering bits and registers
pub record FetchesSc (base : ℕ) (m : Machine) (h : ℕ) (sc : Atomic) : Type 0 where
  pub fetches : Fetches base m h (Amo sc)
  pub operation : sc.op ≡ Sc

-- The SCs that trap, whatever the reservation. 01: cause 6, "address not aligned to its width"; 02 [11]: or 7, by the setting
abbrev pub MisalignedSc : Machine → ℕ → Atomic → Type 0
MisalignedSc m h sc = atomic_address m h sc % atomic_size sc ≢ 0

-- 02 [2]: "an SC whose bytes aren't wholly in memory": cause 7 "After alignment", so that of the row before if it is misaligned too
abbrev pub OutsideSc : ℕ → Machine → ℕ → Atomic → Type 0
OutsideSc base m h sc = Inside base (length m.mem) (atomic_address m h sc) (atomic_size sc) → ⊥

-- 02 [2]: "reservation kept"; 01: "A trap .. leaves registers, pc, reservations and memory as they were."
pub record TrappedLeaves (base : ℕ) (m : Machine) (h : ℕ) : Type 0 where
  pub reservation : reservation_of (next_of base m (Step h)).state h ≡ reservation_of m.state h
  pub machine : next_of base m (Step h) ≡ m

-- 01: "Success writes memory and puts 0 in rd"; "Retired either way, it drops the reservation.": the low bytes of rs2 stand at the SC's address, the rest
-- of memory is as it was, and rd is 0; x0 is anyway
pub record StoredLeaves (base : ℕ) (m : Machine) (h : ℕ) (sc : Atomic) : Type 0 where
  pub memory : (next_of base m (Step h)).mem ≡ splice m.mem (atomic_address m h sc - base) (to_le (atomic_size sc) (reg_at m.state.x h sc.rs2))
  pub register : sc.rd % 32 ≢ 0 → reg_at (next_of base m (Step h)).state.x h sc.rd ≡ 0
  pub reservation : reservation_of (next_of base m (Step h)).state h ≡ None

-- 01: "failure puts 1 in rd and writes nothing", and drops it too; x0 stays 0
pub record FailedLeaves (base : ℕ) (m : Machine) (h : ℕ) (sc : Atomic) : Type 0 where
  pub memory : (next_of base m (Step h)).mem ≡ m.mem
  pub register : sc.rd % 32 ≢ 0 → reg_at (next_of base m (Step h)).state.x h sc.rd ≡ 1
  pub reservation : reservation_of (next_of base m (Step h)).state h ≡ None
