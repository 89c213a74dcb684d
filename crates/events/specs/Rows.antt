-- Refusals that are tried in order (01: "Tried in this order"), of any rows with a number and a place.
-- RULES 7.5, 8.
use Rattle.std.specs.Prelude.{ℕ, ◌<◌}

-- The row of this number applies at this place, no earlier row applies anywhere, and it applies at no lower place.
pub record FirstRow (Row : ℕ → ℕ → Type 0) (number place : ℕ) : Type 0 where
  pub applies : Row number place
  pub first : (k p : ℕ) → k < number → Row k p → ⊥
  pub lowest : (p : ℕ) → p < place → Row number p → ⊥

-- no row applies
abbrev pub NoRow : (ℕ → ℕ → Type 0) → Type 0
NoRow Row = (number place : ℕ) → Row number place → ⊥
