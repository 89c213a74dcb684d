-- What the model makes of a hart's step: the row that a board logs of it, or why there is none.
use Rattle.std.specs.Prelude.{ℕ, Result, Ok, Err}
use Rattle.events.specs.declared.Event.TheVariants.{Step}
use Rattle.model.specs.Perform.{Machine, outcome_at}
use Rattle.model.specs.declared.Outcome.{Outcome}
use Rattle.model.specs.declared.Outcome.TheVariants as O
use Rattle.steplog.specs.declared.Row.{Row}
use Rattle.replay_words.specs.Written.{model_row}
use Rattle.log_maker.specs.declared.NoRow.{NoRow}
use Rattle.log_maker.specs.declared.NoRow.TheVariants.{Trap, Refused}

-- the row of a step, or why there is none
abbrev pub Made : Type 0
Made = Result Row NoRow

-- 02 [1]: "Our boards log each step as one row": a step that retires. A trap and a refusal have no row
unfoldable pub made_by : Outcome → Row → Made
made_by O.Retired r = Ok r
made_by O.ScStored r = Ok r
made_by O.ScFailed r = Ok r
made_by (O.Trap cause value) r = Err (Trap cause value)
made_by (O.Refused number) r = Err (Refused number)

-- of hart h's step from machine m
abbrev pub made_of : ℕ → Machine → ℕ → Made
made_of base m h = made_by (outcome_at base m (Step h)) (model_row base m h)
