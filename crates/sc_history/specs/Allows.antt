-- Demand 2's sentence on SC in terms of events: "from a start without reservations an SC that doesn't trap succeeds exactly if the history since its
-- hart's latest retired LR allows it".
-- RULES 5, 11.2.
use Rattle.std.specs.Prelude.{ℕ, ◌≡◌, ◌≢◌, List, [], ◌∷◌, ◌++◌}
use Rattle.reserve.specs.Range.{Touch, Inside, set_of}
use Rattle.events.specs.declared.Event.{Event}
use Rattle.events.specs.declared.Event.TheVariants.{Yield}
use Rattle.model.specs.Perform.{Machine, set_size, version, next_of, run_of}
use Rattle.notices.specs.Happened.{RetiredLr, RetiredSc, HartWrites, DeviceWrites}

-- a memory at base; hart h. The set's size and the version of A are those of the machine that the event is put to; no event changes them
-- (model/proofs/Frame: settings_run)
module _ (base h : ℕ) where
  -- The event, put to the machine m, is none of those that break under both versions of A what hart h's LR at a reserved.
  pub record HartsLeave (m : Machine) (e : Event) (a : ℕ) : Type 0 where
    -- 01: "Its own hart's next retired LR (replaced) or SC, or a yield"
    pub no_lr : (b n : ℕ) → RetiredLr base m e h b n → ⊥
    pub no_sc : RetiredSc base m e h → ⊥
    pub no_yield : e ≢ Yield h
    -- 01: "a retired write by another hart that touches a byte of the set, even with the same bytes"
    pub no_write : (g b n : ℕ) → g ≢ h → HartWrites base m e g b n → Touch b n (set_of (set_size m) a) (set_size m) → ⊥

  -- nor is it, 01: "a device write that touches a byte the LR read", of its w bytes
  abbrev pub DevicesLeave : Machine → Event → ℕ → ℕ → Type 0
  DevicesLeave m e a w = (b n : ℕ) → DeviceWrites base m e b n → Touch b n a w → ⊥

  -- The event breaks nothing of what hart h's LR of w bytes at a reserved. 02 [7]: "Demand 2 reads by version."; "Under 2.0 a device write breaks no
  -- reservation, because 004 speaks only of harts".
  pub data LeavesReserved (m : Machine) (e : Event) (a w : ℕ) : Type 0 where
    under20 : version m ≡ 20 → HartsLeave m e a → LeavesReserved m e a w
    under21 : version m ≡ 21 → HartsLeave m e a → DevicesLeave m e a w → LeavesReserved m e a w

  -- so of each of the events, each put to the machine that the ones before left
  abbrev pub AllLeave : Machine → List Event → ℕ → ℕ → Type 0
  AllLeave m [] a w = Unit {0}
  AllLeave m (e ∷ es) a w = LeavesReserved m e a w × AllLeave (next_of base m e) es a w

  -- Among the events from m on is a retired LR of hart h, of w bytes at a, and no event since then broke what it reserved.
  pub record ReservedSince (m : Machine) (es : List Event) (a w : ℕ) : Type 0 where
    pub before : List Event
    pub event : Event
    pub since : List Event
    pub split : es ≡ before ++ event ∷ since
    pub reserves : RetiredLr base (run_of base m before) event h a w
    pub kept : AllLeave (next_of base (run_of base m before) event) since a w

  -- The history allows an SC of n bytes at b: 01: "a reservation whose set contains all its bytes, whatever the LR's address and width were".
  pub record Allows (m : Machine) (es : List Event) (b n : ℕ) : Type 0 where
    pub addr : ℕ
    pub width : ℕ
    pub reserved : ReservedSince m es addr width
    pub inside : Inside (set_of (set_size m) addr) (set_size m) b n
