-- Refusal 11 (01, "The case file") without tests: where an events body is wrong.
-- RULES 7.4, 7.5.
use Rattle.std.specs.Prelude.{◌≡◌, ◌⊎◌, ℕ, ◌+◌, ◌*◌, ◌%◌, ◌≤◌, ◌<◌, List, length, get_or}
use Rattle.word.specs.Memory.{part}
use Rattle.reserve.specs.Range.{Inside}
use Rattle.events.specs.Events.{kind_of, hart_of, size_of, address_of}

-- the bytes from a place to before another are zero
abbrev pub Zeros : List ℕ → ℕ → ℕ → Type 0
Zeros e from to = (i : ℕ) → from ≤ i → i < to → get_or e i 0 ≡ 0

-- An event's "zeros or kind": "kind (1 step, 2 device, 3 yield), hart, size, five zeros, address (8), data (8, first byte lowest, zero above size).
-- Fields a kind doesn't use are zero." A step or a yield uses the hart, byte 1, alone; a device write uses all but the hart
abbrev pub HartForm : List ℕ → Type 0
HartForm e = ((kind_of e ≡ 1) ⊎ (kind_of e ≡ 3)) × Zeros e 2 24

abbrev pub DeviceForm : List ℕ → Type 0
DeviceForm e = (kind_of e ≡ 2) × (hart_of e ≡ 0) × Zeros e 3 8 × Zeros e (16 + size_of e) 24

abbrev pub WellFormed : List ℕ → Type 0
WellFormed e = HartForm e ⊎ DeviceForm e

-- An event that isn't bad "by 3, 4 or 5 or its zeros or kind". 3: a hart below the count; 4: 1 to 8 bytes; 5: wholly inside memory
abbrev pub HartEvent : ℕ → List ℕ → Type 0
HartEvent count e = HartForm e × (hart_of e < count)

abbrev pub DeviceEvent : ℕ → ℕ → List ℕ → Type 0
DeviceEvent base len e = DeviceForm e × (1 ≤ size_of e) × (size_of e ≤ 8) × Inside base len (address_of e) (size_of e)

abbrev pub EventRules : ℕ → ℕ → ℕ → List ℕ → Type 0
EventRules count base len e = HartEvent count e ⊎ DeviceEvent base len e

-- each event of a body is as P says
abbrev pub EachEvent : (List ℕ → Type 0) → List ℕ → Type 0
EachEvent P body = (i : ℕ) → 24 * i + 24 ≤ length body → P (part body (24 * i) 24)

-- "11: events body not a multiple of 24 (its start), or the first bad event, .. (its start)": a body is wrong at this place, counted from its first
-- byte
pub data WrongEvents (count base len : ℕ) (body : List ℕ) (place : ℕ) : Type 0 where
  not_whole : place ≡ 0 → (length body % 24 ≡ 0 → ⊥) → WrongEvents count base len body place
  bad_event : (i : ℕ) → place ≡ 24 * i → place + 24 ≤ length body → (EventRules count base len (part body place 24) → ⊥)
      → WrongEvents count base len body place

-- wrong at this place and at no lower one
pub record FirstWrong (count base len : ℕ) (body : List ℕ) (place : ℕ) : Type 0 where
  pub wrong : WrongEvents count base len body place
  pub lowest : (p : ℕ) → p < place → WrongEvents count base len body p → ⊥

-- wrong nowhere
abbrev pub NoneWrong : ℕ → ℕ → ℕ → List ℕ → Type 0
NoneWrong count base len body = (place : ℕ) → WrongEvents count base len body place → ⊥
