-- What a caller reads from the 8 bytes beside the answer to a retired event (a trap's and a refusal's: capi/specs/Events: value_of).
use Rattle.std.specs.Prelude.{◌↔◌, List, ℕ, ◌<◌}
use Rattle.word.specs.Bytes.{le}
use Rattle.layout.specs.Layout.{state_in}
use Rattle.events.specs.declared.Event.{Event}
use Rattle.broken.specs.Broken.{Bit, Loses}

-- 02 [3] as a caller reads it: where the answer r tells that the event is retired, bit k of the number that the bytes are, the lowest first, is set exactly
-- if hart k lost its reservation to the event
abbrev pub TellsLosers : Event → ℕ → List ℕ → List ℕ → ℕ → List ℕ → Type 0
TellsLosers e base state mem r value' = r < 256 → (k : ℕ) → Bit k (le value') ↔ Loses base (record { state = state_in state; mem = mem }) e k
