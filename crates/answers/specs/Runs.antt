-- When a run is refused (01: "It tries 1 and 2, then the body by 11 with the place counted from the body's first byte, before it performs any"), row by
-- row and without tests.
-- RULES 8.
use Rattle.std.specs.Prelude.{ℕ, ◌≡◌, List, length}
use Rattle.machine.specs.Rules.{WrongMemory, StateRules}
use Rattle.machine.specs.declared.State.{State}
use Rattle.events.specs.Rows.{FirstRow, NoRow}
use Rattle.events.specs.Rules.{WrongEvents}

-- The row of this number applies, at this place. 1 and 2 are told with the place 0.
pub data RunRow (base : ℕ) (mem : List ℕ) (s : State) (body : List ℕ) (number place : ℕ) : Type 0 where
  wrong_memory : number ≡ 1 → place ≡ 0 → WrongMemory s.settings base (length mem) → RunRow base mem s body number place
  wrong_state : number ≡ 2 → place ≡ 0 → (StateRules base (length mem) s → ⊥) → RunRow base mem s body number place
  wrong_body : number ≡ 11 → WrongEvents s.count base (length mem) body place → RunRow base mem s body number place

-- the row applies at this place, no earlier row applies anywhere, and it applies at no lower place
abbrev pub RunRefused : ℕ → List ℕ → State → List ℕ → ℕ → ℕ → Type 0
RunRefused base mem s body = FirstRow (RunRow base mem s body)

-- no row applies
abbrev pub RunUnrefused : ℕ → List ℕ → State → List ℕ → Type 0
RunUnrefused base mem s body = NoRow (RunRow base mem s body)
