-- Who lost a reservation to an event (02 [3]), in terms of the event, the instruction that a hart's step performs, and the answer, and without tests.
-- m is the machine that the event is put to.
-- RULES 5.1.
use Rattle.std.specs.Prelude.{◌≡◌, ◌≢◌, ℕ, ◌/◌, ◌%◌, ◌^◌, ◌<◌, Some, None}
use Rattle.settings.specs.Settings.{DevicesBreak}
use Rattle.reserve.specs.Range.{Touch, set_of}
use Rattle.reserve.specs.declared.Reservation.{Reservation}
use Rattle.events.specs.declared.Event.{Event}
use Rattle.model.specs.Perform.{Machine, set_size, reservation_of, broke_at, next_of}
use Rattle.notices.specs.Happened.{RetiredSc, HartWrites, DeviceWrites, Yields}

-- 02 [3]: "one bit each, bit 0 for hart 0": bit k of a number is set
abbrev pub Bit : ℕ → ℕ → Type 0
Bit k n = n / 2 ^ k % 2 ≡ 1

module _ (base : ℕ) (m : Machine) (e : Event) (k : ℕ) where
  -- 01: "What breaks a reservation.": the event is a write that breaks the one that hart k's LR of w bytes at a made
  pub data Reached (a w : ℕ) : Type 0 where
    -- "a retired write by another hart that touches a byte of the set, even with the same bytes"
    by_hart : (g b n : ℕ) → g ≢ k → HartWrites base m e g b n → Touch b n (set_of (set_size m) a) (set_size m) → Reached a w
    -- "a device write that touches a byte the LR read"; 02 [7]: "Under 2.0 a device write breaks no reservation"
    by_device : DevicesBreak m.state.settings → (b n : ℕ) → DeviceWrites base m e b n → Touch b n a w → Reached a w

  -- hart k is below the count, it holds a reservation, and the event is a write that breaks it
  pub record Loses : Type 0 where
    pub used : k < m.state.count
    pub reservation : Reservation
    pub held : reservation_of m.state k ≡ Some reservation
    pub reached : Reached reservation.addr reservation.width

  -- how a reservation of hart k ends without another in its place: it retired an SC, or had a yield, or its bit is set
  pub data Ended : Type 0 where
    by_sc : RetiredSc base m e k → Ended
    by_yield : Yields base m e k → Ended
    by_write : Bit k (broke_at base m e) → Ended

  -- it holds none after the event
  abbrev pub HoldsNone : Type 0
  HoldsNone = reservation_of (next_of base m e).state k ≡ None
