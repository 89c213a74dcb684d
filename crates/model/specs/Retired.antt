-- What an answer says, without its numbers.
-- RULES 1.4, 3.3.
use Rattle.std.specs.Prelude.{◌≡◌, ℕ}
use Rattle.model.specs.declared.Outcome.{Outcome}
use Rattle.model.specs.declared.Outcome.TheVariants.{Retired, ScStored, ScFailed, Trap, Refused}

-- 01: "A step that doesn't trap is retired"; of an SC the answer says how it ended
abbrev pub IsRetired : Outcome → Type 0
IsRetired Retired = Unit {0}
IsRetired ScStored = Unit {0}
IsRetired ScFailed = Unit {0}
IsRetired (Trap cause value) = ⊥
IsRetired (Refused number) = ⊥

-- a trap, of whatever cause and value
abbrev pub Traps : Outcome → Type 0
Traps o = (cause : ℕ) × (value : ℕ) × (o ≡ Trap cause value)

-- a refusal, of whatever number
abbrev pub Refuses : Outcome → Type 0
Refuses o = (number : ℕ) × (o ≡ Refused number)
