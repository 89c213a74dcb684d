-- What the version of A decides of an event, a run and a replay, and what it doesn't (02 [7]), without tests.
-- RULES 1.6, 5, 5.1, 8, 15.
use Rattle.std.specs.Prelude.{◌≡◌, List, [], ◌∷◌, ℕ}
use Rattle.settings.specs.Settings.{at_version}
use Rattle.machine.specs.declared.State.{State}
use Rattle.events.specs.declared.Event.{Event}
use Rattle.events.specs.declared.Event.TheVariants.{Step, Device, Yield}
use Rattle.model.specs.Perform.{Machine, outcome_at, broke_at, next_of}
use Rattle.model.specs.Run as Run
use Rattle.rows.specs.Replay as Replay

-- the state with another version of A
abbrev pub state_under : ℕ → State → State
state_under version s =
    record { count = s.count; settings = at_version version s.settings; x = s.x; pc = s.pc; res = s.res }

-- the machine
abbrev pub under : ℕ → Machine → Machine
under version m = record { state = state_under version m.state; mem = m.mem }

abbrev pub IsDevice : Event → Type 0
IsDevice (Step h) = ⊥
IsDevice (Device a n v) = Unit {0}
IsDevice (Yield h) = ⊥

-- The event is put to m: it leaves the state as it was, every reservation in it, and tells of no reservation that it broke.
pub record LeavesState (base : ℕ) (m : Machine) (e : Event) : Type 0 where
  pub state : (next_of base m e).state ≡ m.state
  pub broke : broke_at base m e ≡ 0

-- The event is put to m: it is no device write, or one that breaks no reservation.
abbrev pub DeviceSpares : ℕ → Machine → Event → Type 0
DeviceSpares base m e = IsDevice e → broke_at base m e ≡ 0

-- so of each of the events, each put to the machine that the ones before left
abbrev pub DevicesSpare : ℕ → Machine → List Event → Type 0
DevicesSpare base m [] = Unit {0}
DevicesSpare base m (e ∷ es) = DeviceSpares base m e × DevicesSpare base (next_of base m e) es

-- "All else is the same.": the event is put to m under 2.0 and under 2.1. It has the same outcome, a trap's cause and value and a refusal's number
-- included, and leaves the same count, registers, pcs and memory. (No event changes the settings: model/proofs/Frame: settings_next.)
pub record SameAnswer (base : ℕ) (m : Machine) (e : Event) : Type 0 where
  pub outcome : outcome_at base (under 20 m) e ≡ outcome_at base (under 21 m) e
  pub count : (next_of base (under 20 m) e).state.count ≡ (next_of base (under 21 m) e).state.count
  pub registers : (next_of base (under 20 m) e).state.x ≡ (next_of base (under 21 m) e).state.x
  pub pcs : (next_of base (under 20 m) e).state.pc ≡ (next_of base (under 21 m) e).state.pc
  pub memory : (next_of base (under 20 m) e).mem ≡ (next_of base (under 21 m) e).mem

-- It leaves the same reservations, and reports the same set of harts whose reservation it broke.
pub record SameReservations (base : ℕ) (m : Machine) (e : Event) : Type 0 where
  pub reservations : (next_of base (under 20 m) e).state.res ≡ (next_of base (under 21 m) e).state.res
  pub broke : broke_at base (under 20 m) e ≡ broke_at base (under 21 m) e

-- ---- runs and replays

-- The events body is run on m, under 2.0 and under 2.1, with this budget. It is refused by the same number at the same place, or as many events are
-- performed.
pub record SameVerdict (base : ℕ) (m : Machine) (body : List ℕ) (budget : ℕ) : Type 0 where
  pub verdict : (Run.result_of base m.mem (state_under 20 m.state) body budget).ran.verdict
      ≡ (Run.result_of base m.mem (state_under 21 m.state) body budget).ran.verdict
  pub performed : (Run.result_of base m.mem (state_under 20 m.state) body budget).ran.performed
      ≡ (Run.result_of base m.mem (state_under 21 m.state) body budget).ran.performed

-- what a run answers, with another version of A in the state
abbrev pub ran_under : ℕ → Run.Result → Run.Result
ran_under version r =
    record { ran = record { verdict = r.ran.verdict; performed = r.ran.performed; state = state_under version r.ran.state }; mem = r.mem }

-- what a replay answers
abbrev pub replayed_under : ℕ → Replay.Result → Replay.Result
replayed_under version r =
    record {
      replayed = record { stop = r.replayed.stop; rows = r.replayed.rows; state = state_under version r.replayed.state };
      mem = r.mem;
    }
