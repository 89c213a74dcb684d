-- The rows that are made, one after another, are the log that the model writes (replay_words/specs/Written: log_of). Assumes nothing.
use mathlib.Core.Path.{◌≡◌, ap}
use mathlib.Core.List.{List, ◌∷◌, ◌++◌}
use Prim.Native.Nat.{ℕ}
use Rattle.std.specs.Prelude.{Ok}
use Rattle.events.specs.declared.Event.TheVariants.{Step}
use Rattle.model.specs.Perform.{Machine, outcome_at, next_of}
use Rattle.model.specs.Retired.{IsRetired}
use Rattle.model.specs.declared.Outcome.{Outcome}
use Rattle.model.specs.declared.Outcome.TheVariants as O
use Rattle.steplog.specs.Row.{row_of}
use Rattle.steplog.specs.declared.Row.{Row}
use Rattle.replay_words.specs.Written.{model_row, log_of}
use Rattle.log_maker.specs.Made.{made_by, made_of}

logged : (o : Outcome) (row r : Row) → made_by o row ≡ Ok r → IsRetired o × (row ≡ r)
unfolding made_by
logged O.Retired row r e = (tt, cc)
logged O.ScStored row r e = (tt, cc)
logged O.ScFailed row r e = (tt, cc)
logged (O.Trap cause value) row r e = absurd cc
logged (O.Refused number) row r e = absurd cc

module _ (base : ℕ) (m : Machine) (h : ℕ) (r : Row) (made : made_of base m h ≡ Ok r) where
  -- A row is made of a step that retires, and it is the model's.
  pub made_row : IsRetired (outcome_at base m (Step h)) × (model_row base m h ≡ r)
  made_row = logged (outcome_at base m (Step h)) (model_row base m h) r made

  -- The log of these steps begins with the text of the row that was made, and goes on with the log from where the step led.
  pub log_begins : (hs : List ℕ) → log_of base m (h ∷ hs) ≡ row_of r ++ log_of base (next_of base m (Step h)) hs
  unfolding log_of
  log_begins hs = ap (λ (x : Row). row_of x ++ log_of base (next_of base m (Step h)) hs) made_row.1
