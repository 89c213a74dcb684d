-- The table of refusals (01, "Refusal numbers, in the order they are tried"), row by row and without tests. An event has rows 1 to 5.
-- RULES 2.1, 2.2.
use Rattle.std.specs.Prelude.{ℕ, ◌<◌, ◌≡◌, ◌⊎◌, List, length}
use Rattle.reserve.specs.Range.{Inside}
use Rattle.machine.specs.Rules.{WrongMemory, StateRules}
use Rattle.machine.specs.declared.State.{State}
use Rattle.events.specs.declared.Event.{Event}
use Rattle.events.specs.declared.Event.TheVariants.{Step, Device, Yield}

-- "hart number not below the count": a step or a yield names a hart
abbrev pub NoHart : State → Event → Type 0
NoHart s (Step h) = h < s.count → ⊥
NoHart s (Device a n v) = ⊥
NoHart s (Yield h) = h < s.count → ⊥

-- "device write of 0 or more than 8 bytes"
abbrev pub BadSize : Event → Type 0
BadSize (Step h) = ⊥
BadSize (Device a n v) = (n ≡ 0) ⊎ (8 < n)
BadSize (Yield h) = ⊥

-- "device write not wholly inside memory"
abbrev pub Beyond : ℕ → ℕ → Event → Type 0
Beyond base len (Step h) = ⊥
Beyond base len (Device a n v) = Inside base len a n → ⊥
Beyond base len (Yield h) = ⊥

-- The row of this number applies.
-- 1: "memory length or base breaks the rules above"; 02 [5]: "a size not allowed is 1, tried before base and length"; [10]: base plus length above 2^32, last
-- 2: "state malformed"; 02 [7]: "any other version is 2"; [10]: any other kind, an upper half that isn't zero, a reservation 8 wide on the 32-bit core;
-- [11]: any other misaligned
pub data RefusalRow (base : ℕ) (mem : List ℕ) (s : State) (e : Event) (number : ℕ) : Type 0 where
  bad_memory : number ≡ 1 → WrongMemory s.settings base (length mem) → RefusalRow base mem s e number
  bad_state : number ≡ 2 → (StateRules base (length mem) s → ⊥) → RefusalRow base mem s e number
  no_hart : number ≡ 3 → NoHart s e → RefusalRow base mem s e number
  bad_size : number ≡ 4 → BadSize e → RefusalRow base mem s e number
  beyond : number ≡ 5 → Beyond base (length mem) e → RefusalRow base mem s e number

-- the row applies, and no earlier one does
pub record FirstRefusal (base : ℕ) (mem : List ℕ) (s : State) (e : Event) (number : ℕ) : Type 0 where
  pub applies : RefusalRow base mem s e number
  pub first : (k : ℕ) → k < number → RefusalRow base mem s e k → ⊥

-- no row applies
abbrev pub Unrefused : ℕ → List ℕ → State → Event → Type 0
Unrefused base mem s e = (number : ℕ) → RefusalRow base mem s e number → ⊥
