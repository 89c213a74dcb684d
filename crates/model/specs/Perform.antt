-- The machine: what each event does to a state and a memory at a base.
-- RULES 1.4; `fetch_of` 3.1; `device_of` 1.4, 2.1; the order of refusals 2.2; `answer_of` 1.4, 5.1; `run_of` 11.2.
use Rattle.std.specs.Prelude.{ℕ, Bool, cond, ◌&&◌, Option, None, List, [], ◌∷◌, eqb, ltb, leb, length, get_or}
use Rattle.word.specs.Bytes.{to_le}
use Rattle.settings.specs.Settings.{xlen_of}
use Rattle.reserve.specs.Range.{inside_of}
use Rattle.reserve.specs.Reserve.{covers_of}
use Rattle.reserve.specs.declared.Reservation.{Reservation}
use Rattle.machine.specs.State.{refusal_of}
use Rattle.machine.specs.declared.State.{State}
use Rattle.effect.specs.Effect.{Exec, trap, effect}
use Rattle.effect.specs.Memory.{value_at}
use Rattle.effect.specs.Execute.{reg_at, execute_word}
use Rattle.events.specs.declared.Event.{Event}
use Rattle.events.specs.declared.Event.TheVariants.{Step, Device, Yield}
use Rattle.model.specs.Act.{Act, refuse, fault, change, put, release, outcome_of, broken_after, apply, leaves}
use Rattle.model.specs.declared.Outcome.{Outcome}
use Rattle.model.specs.declared.Reply.{Reply}
use Rattle.model.specs.declared.Answer.{Answer}

-- a hart's reservation
abbrev pub reservation_of : State → ℕ → Option Reservation
reservation_of s h = get_or s.res h None

-- 01: cause 1, "the word at pc isn't wholly in memory", value "pc"; then what the word there does at a register width of xlen bits and with the setting
-- misaligned. x gives the hart's registers
unfoldable pub fetch_of : ℕ → ℕ → (ℕ → ℕ) → ℕ → ℕ → List ℕ → (ℕ → ℕ → Bool) → Exec
fetch_of xlen misaligned x pc base mem covered =
    cond (inside_of base (length mem) pc 4) (execute_word xlen misaligned (value_at base mem pc 4) x pc base mem covered) (trap 1 pc)

-- hart h's step
abbrev pub step_of : ℕ → List ℕ → State → ℕ → Exec
step_of base mem s h =
    fetch_of (xlen_of s.settings) s.settings.misaligned (reg_at s.x h) (get_or s.pc h 0) base mem (covers_of s.settings (reservation_of s h))

abbrev pub of_exec : ℕ → Exec → Act
of_exec h (trap cause value) = fault cause value
of_exec h (effect ws to t) = change h ws to t

-- 01: refusals 4, "device write of 0 or more than 8 bytes", and 5, "device write not wholly inside memory": the n lowest bytes of v at a
unfoldable pub device_of : ℕ → List ℕ → ℕ → ℕ → ℕ → Act
device_of base mem a n v =
    cond (leb 1 n && leb n 8) (cond (inside_of base (length mem) a n) (put a (to_le n v)) (refuse 5)) (refuse 4)

-- 01: refusal 3, "hart number not below the count"
unfoldable pub act_on : ℕ → List ℕ → State → Event → Act
act_on base mem s (Step h) = cond (ltb h s.count) (of_exec h (step_of base mem s h)) (refuse 3)
act_on base mem s (Device a n v) = device_of base mem a n v
act_on base mem s (Yield h) = cond (ltb h s.count) (release h) (refuse 3)

-- refusals 1 and 2 first
unfoldable pub act_of : ℕ → List ℕ → State → Event → Act
act_of base mem s e =
    cond (eqb (refusal_of base (length mem) s) 0) (act_on base mem s e) (refuse (refusal_of base (length mem) s))

-- a state and a memory
pub record Machine : Type 0 where
  pub state : State
  pub mem : List ℕ

-- the number of bytes of a reservation's set
abbrev pub set_size : Machine → ℕ
set_size m = m.state.settings.size

-- the version of A: 20 or 21
abbrev pub version : Machine → ℕ
version m = m.state.settings.version

-- the bits of registers, the pc and addresses
abbrev pub xlen : Machine → ℕ
xlen m = xlen_of m.state.settings

-- what a misaligned LR, SC, AMO or AMOCAS gives: 0 for causes 4 and 6, 1 for 5 and 7
abbrev pub misaligned : Machine → ℕ
misaligned m = m.state.settings.misaligned

-- the answer to an event, with the harts whose reservation it broke and the state, and the memory afterwards
unfoldable pub answer_of : ℕ → List ℕ → State → Event → Answer
answer_of base mem s e =
    record {
      outcome = outcome_of (act_of base mem s e);
      broke = broken_after s.settings s.count (act_of base mem s e) s.res;
      state = apply s (act_of base mem s e);
    }

unfoldable pub memory_of : ℕ → List ℕ → State → Event → List ℕ
memory_of base mem s e = leaves base mem (act_of base mem s e)

-- the outcome alone, the harts whose reservation it broke alone, and both
abbrev pub outcome_at : ℕ → Machine → Event → Outcome
outcome_at base m e = (answer_of base m.mem m.state e).outcome

abbrev pub broke_at : ℕ → Machine → Event → ℕ
broke_at base m e = (answer_of base m.mem m.state e).broke

abbrev pub reply_at : ℕ → Machine → Event → Reply
reply_at base m e = record { outcome = outcome_at base m e; broke = broke_at base m e }

-- the machine after an event, and after events one after another: each gets what the one before left
unfoldable pub next_of : ℕ → Machine → Event → Machine
next_of base m e = record { state = (answer_of base m.mem m.state e).state; mem = memory_of base m.mem m.state e }

unfoldable pub run_of : ℕ → Machine → List Event → Machine
run_of base m [] = m
run_of base m (e ∷ es) = run_of base (next_of base m e) es
