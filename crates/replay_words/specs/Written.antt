-- The log that the model itself writes.
use Rattle.std.specs.Prelude.{◌≡◌, List, [], ◌∷◌, ◌++◌, ℕ}
use Rattle.events.specs.declared.Event.{Event}
use Rattle.events.specs.declared.Event.TheVariants.{Step}
use Rattle.model.specs.Perform.{Machine, next_of, outcome_at}
use Rattle.model.specs.Retired.{IsRetired}
use Rattle.steplog.specs.Row.{row_of}
use Rattle.steplog.specs.declared.Row.{Row}
use Rattle.rows.specs.Row.{pc_at, word_at, rd_at, value_after}

-- the row of hart h's step from machine m
abbrev pub model_row : ℕ → Machine → ℕ → Row
model_row base m h = record { hart = h; pc = pc_at base m h; word = word_at base m h; rd = rd_at base m h; value = value_after base m h }

-- the log of these harts' steps one after another
unfoldable pub log_of : ℕ → Machine → List ℕ → List ℕ
log_of base m [] = []
log_of base m (h ∷ hs) = row_of (model_row base m h) ++ log_of base (next_of base m (Step h)) hs

-- the steps as events
unfoldable pub steps_of : List ℕ → List Event
steps_of [] = []
steps_of (h ∷ hs) = Step h ∷ steps_of hs

-- each of the steps retires: it doesn't trap, and its hart is below the count, since it isn't refused
unfoldable pub Retiring : ℕ → Machine → List ℕ → Type 0
Retiring base m [] = Unit {0}
Retiring base m (h ∷ hs) = IsRetired (outcome_at base m (Step h)) × Retiring base (next_of base m (Step h)) hs

-- it is the log that the model writes of some harts' steps
pub record WrittenBy (base : ℕ) (m : Machine) (log : List ℕ) : Type 0 where
  pub harts : List ℕ
  pub retiring : Retiring base m harts
  pub same : log ≡ log_of base m harts
