-- Which answers there are.
-- RULES 1.4, 11.1.
use Rattle.std.specs.Prelude.{ℕ, ◌≤◌, ◌≡◌}
use Rattle.model.specs.Retired.{IsRetired}
use Rattle.model.specs.declared.Outcome.{Outcome}
use Rattle.model.specs.declared.Outcome.TheVariants.{Trap, Refused}

-- an answer is a refusal by one of the numbers, a trap with one of the causes, or retired
pub data Answered (o : Outcome) : Type 0 where
  refused : (number : ℕ) → 1 ≤ number → number ≤ 5 → o ≡ Refused number → Answered o
  trapped : (cause value : ℕ) → cause ≤ 8 → o ≡ Trap cause value → Answered o
  retired : IsRetired o → Answered o
