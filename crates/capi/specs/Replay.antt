-- A log replayed on a machine whose state is kept as bytes: what floecavern_replay leaves in the buffers, and its answer.
use Rattle.std.specs.Prelude.{◌≡◌, Bool, true, false, List, [], ◌∷◌, ℕ, ◌≤◌, length}
use Rattle.layout.specs.Layout.{state_size, state_in, word_bytes}
use Rattle.rows.specs.Replay.{Result, replay_of}
use Rattle.rows.specs.Numbers.{stop_code, board_of, model_of}
use Rattle.rows.specs.declared.Stop.{Stop}
use Rattle.rows.specs.declared.Stop.TheVariants.{Agreed, Form, Pc, Word, Trap, Rd, Value, Refused}
use Rattle.capi.specs.Answers.{wrong_size}
use Rattle.capi.specs.Events.{state_if}

-- a refusal leaves every byte of the state as it was; a stop is none (02 [1]: "the state and memory are the ones after exactly those" rows)
abbrev pub is_replayed : Stop → Bool
is_replayed Agreed = true
is_replayed Form = true
is_replayed (Pc board model) = true
is_replayed (Word board model) = true
is_replayed (Rd board model) = true
is_replayed (Value board model) = true
is_replayed (Trap cause value) = true
is_replayed (Refused r) = false

-- what keeps the answers to a replay apart, and small: causes go up to 8, the numbers of refusals up to 13, and no refusal has a place
abbrev pub SmallStop : Stop → Type 0
SmallStop Agreed = Unit {0}
SmallStop Form = Unit {0}
SmallStop (Pc board model) = Unit {0}
SmallStop (Word board model) = Unit {0}
SmallStop (Rd board model) = Unit {0}
SmallStop (Value board model) = Unit {0}
SmallStop (Trap cause value) = cause ≤ 8
SmallStop (Refused r) = (r.number ≤ 13) × (r.place ≡ 0)

-- What is left where the model's result is a. Three numbers are told: how many rows there are before the stop, the board's value and the model's.
pub record ReplayTold (a : Result) (state : List ℕ) (r : ℕ) (state' mem' told' : List ℕ) : Type 0 where
  pub answer : r ≡ stop_code a.replayed.stop
  pub numbers : told' ≡ word_bytes (a.replayed.rows ∷ board_of a.replayed.stop ∷ model_of a.replayed.stop ∷ [])
  pub bytes : state' ≡ state_if (is_replayed a.replayed.stop) state a.replayed.state
  pub memory : mem' ≡ a.mem

-- What a replay of a log leaves, and its answer r. Where the state isn't 2344 bytes or the room for three numbers isn't 24, nothing is written. (A log
-- of a wrong length is 02's refusal 12, and one of no rows 13.)
pub record ReplayedOn (log : List ℕ) (base : ℕ) (state mem told : List ℕ) (r : ℕ) (state' mem' told' : List ℕ) : Type 0 where
  pub wrong : ((length state ≡ state_size) × (length told ≡ 24) → ⊥) → (r ≡ wrong_size) × (state' ≡ state) × (mem' ≡ mem) × (told' ≡ told)
  pub right : length state ≡ state_size → length told ≡ 24 → ReplayTold (replay_of base mem (state_in state) log) state r state' mem' told'
