-- A run of an events body (01: "A run takes a budget of events and reports how many it performed").
-- RULES 8.
use Rattle.std.specs.Prelude.{cond, List, ℕ, ◌/◌, min, eqb, length, take, Ok, Err}
use Rattle.machine.specs.State.{refusal_of}
use Rattle.machine.specs.declared.State.{State}
use Rattle.events.specs.Events.{Checked, checked_of, events_of}
use Rattle.model.specs.Perform.{Machine, run_of}
use Rattle.model.specs.declared.Ran.{Ran}

-- what a run answers, and the memory it leaves
pub record Result : Type 0 where
  pub ran : Ran
  pub mem : List ℕ

-- 01: "a refused run reports 0 performed"; the state and the memory as given
abbrev pub refused_run : ℕ → ℕ → State → List ℕ → Result
refused_run number place s mem = record { ran = record { verdict = Err (record { number = number; place = place }); performed = 0; state = s }; mem = mem }

-- 01: "the smaller of the budget and the number of events; the state is the one after exactly that many"
abbrev pub performed_run : ℕ → Machine → Result
performed_run n m = record { ran = record { verdict = Ok tt; performed = n; state = m.state }; mem = m.mem }

abbrev pub performed_count : List ℕ → ℕ → ℕ
performed_count body budget = min budget (length body / 24)

abbrev pub run_checked : Checked → ℕ → List ℕ → State → List ℕ → ℕ → Result
run_checked (Ok x) base mem s body budget =
    performed_run (performed_count body budget) (run_of base (record { state = s; mem = mem }) (take (performed_count body budget) (events_of body)))
run_checked (Err place) base mem s body budget = refused_run 11 place s mem

-- 01: "It tries 1 and 2, then the body by 11 with the place counted from the body's first byte, before it performs any"
unfoldable pub result_of : ℕ → List ℕ → State → List ℕ → ℕ → Result
result_of base mem s body budget =
    cond (eqb (refusal_of base (length mem) s) 0)
    (run_checked (checked_of s.count base (length mem) body) base mem s body budget)
    (refused_run (refusal_of base (length mem) s) 0 s mem)
