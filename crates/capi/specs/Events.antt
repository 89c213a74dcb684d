-- Events and runs on a machine whose state is kept as bytes: the numbers that floecavern_step, floecavern_device_write, floecavern_yield and
-- floecavern_run answer, and what they leave in the buffers.
use Rattle.std.specs.Prelude.{◌≡◌, Bool, true, false, cond, Result, Ok, Err, List, [], ◌∷◌, ℕ, ◌+◌, ◌*◌, ◌≤◌, ◌<◌, length}
use Rattle.word.specs.Bytes.{to_le, IsBytes}
use Rattle.word.specs.Memory.{part}
use Rattle.machine.specs.declared.State.{State}
use Rattle.layout.specs.Layout.{state_size, state_in, state_over, word_bytes}
use Rattle.events.specs.declared.Event.{Event}
use Rattle.model.specs.Perform.{answer_of, memory_of}
use Rattle.model.specs.Run.{Result as RunResult, result_of}
use Rattle.model.specs.declared.Outcome.{Outcome}
use Rattle.model.specs.declared.Outcome.TheVariants.{Retired, ScStored, ScFailed, Trap, Refused}
use Rattle.model.specs.declared.Answer.{Answer}
use Rattle.refusal.specs.declared.Refusal.{Refusal}
use Rattle.capi.specs.Answers.{wrong_size}

-- The bytes of a state with those of another put over them, or as they are. layout/specs/Layout.antt says what the bytes mean (state_in) and what is
-- put over them (state_over).
abbrev pub state_if : Bool → List ℕ → State → List ℕ
state_if t bytes s = cond t (state_over bytes s) bytes

-- ---- an event

-- the answer to an event as a number
abbrev pub code_of : Outcome → ℕ
code_of Retired = 0
code_of ScStored = 1
code_of ScFailed = 2
code_of (Trap cause value) = 256 + cause
code_of (Refused number) = 512 + number

-- the number beside it: a trap's value; of a retired event the harts whose reservation it broke, bit k for hart k; 0 for a refusal
abbrev pub value_of : Outcome → ℕ → ℕ
value_of Retired broke = broke
value_of ScStored broke = broke
value_of ScFailed broke = broke
value_of (Trap cause value) broke = value
value_of (Refused number) broke = 0

-- a refusal and a trap leave every byte of the state as it was
abbrev pub is_retired : Outcome → Bool
is_retired Retired = true
is_retired ScStored = true
is_retired ScFailed = true
is_retired (Trap cause value) = false
is_retired (Refused number) = false

-- what keeps the answers to an event apart, and small: causes go up to 8, the numbers of refusals up to 5
abbrev pub Small : Outcome → Type 0
Small Retired = Unit {0}
Small ScStored = Unit {0}
Small ScFailed = Unit {0}
Small (Trap cause value) = cause ≤ 8
Small (Refused number) = number ≤ 5

-- What is left where the model's answer is a and its memory m.
pub record Told (a : Answer) (m state : List ℕ) (r : ℕ) (state' mem' value' : List ℕ) : Type 0 where
  pub answer : r ≡ code_of a.outcome
  pub value : value' ≡ to_le 8 (value_of a.outcome a.broke)
  pub bytes : state' ≡ state_if (is_retired a.outcome) state a.state
  pub memory : mem' ≡ m

-- What an event e leaves, and its answer r: state, memory and value before and after. Where the state isn't 2344 bytes or the value isn't 8, nothing
-- is written. (A memory of a wrong length is 01's refusal 1, and so is a set size that isn't allowed, as that of a state of zeros: 02 [5];
-- a version, a kind or a misaligned that isn't allowed is refusal 2: 02 [7], [10], [11].)
pub record PerformedOn (e : Event) (base : ℕ) (state mem value : List ℕ) (r : ℕ) (state' mem' value' : List ℕ) : Type 0 where
  pub wrong : ((length state ≡ state_size) × (length value ≡ 8) → ⊥) → (r ≡ wrong_size) × (state' ≡ state) × (mem' ≡ mem) × (value' ≡ value)
  pub right : length state ≡ state_size → length value ≡ 8
      → Told (answer_of base mem (state_in state) e) (memory_of base mem (state_in state) e) state r state' mem' value'

-- ---- a run

-- whether a run performed its events, as a number
abbrev pub verdict_code : Result (Unit {0}) Refusal → ℕ
verdict_code (Ok x) = 0
verdict_code (Err r) = 512 + r.number

-- the place of a refusal; 0 for a run that was performed
abbrev pub place_of : Result (Unit {0}) Refusal → ℕ
place_of (Ok x) = 0
place_of (Err r) = r.place

-- a refused run leaves every byte of the state as it was
abbrev pub is_performed : Result (Unit {0}) Refusal → Bool
is_performed (Ok x) = true
is_performed (Err r) = false

-- the same of a run, whose numbers go up to 11
abbrev pub SmallVerdict : Result (Unit {0}) Refusal → Type 0
SmallVerdict (Ok x) = Unit {0}
SmallVerdict (Err r) = r.number ≤ 11

-- What is left where the model's result is a. Two numbers are told: how many events were performed, and the place.
pub record RunTold (a : RunResult) (state : List ℕ) (r : ℕ) (state' mem' told' : List ℕ) : Type 0 where
  pub answer : r ≡ verdict_code a.ran.verdict
  pub numbers : told' ≡ word_bytes (a.ran.performed ∷ place_of a.ran.verdict ∷ [])
  pub bytes : state' ≡ state_if (is_performed a.ran.verdict) state a.ran.state
  pub memory : mem' ≡ a.mem

-- What a run of an events body leaves, and its answer r. Where the state isn't 2344 bytes or the room for two numbers isn't 16, nothing is written. (A
-- body of a wrong length is 01's refusal 11.)
pub record RanOn (body : List ℕ) (budget base : ℕ) (state mem told : List ℕ) (r : ℕ) (state' mem' told' : List ℕ) : Type 0 where
  pub wrong : ((length state ≡ state_size) × (length told ≡ 16) → ⊥) → (r ≡ wrong_size) × (state' ≡ state) × (mem' ≡ mem) × (told' ≡ told)
  pub right : length state ≡ state_size → length told ≡ 16 → RunTold (result_of base mem (state_in state) body budget) state r state' mem' told'

-- ---- what stays

-- every byte of the registers, the pc and the reservation of hart h, below 8, is as it was
pub record HartKept (h : ℕ) (state state' : List ℕ) : Type 0 where
  pub registers : (r : ℕ) → r < 32 → part state' (8 + 8 * (32 * h + r)) 8 ≡ part state (8 + 8 * (32 * h + r)) 8
  pub pc : part state' (2056 + 8 * h) 8 ≡ part state (2056 + 8 * h) 8
  pub reservation : part state' (2120 + 24 * h) 24 ≡ part state (2120 + 24 * h) 24

-- ---- calls one after another

-- A call for an event with sizes that are right: r is its answer, and it leaves s and m. That these hold bytes, and as many as before, their type says.
pub record Called (base : ℕ) (e : Event) (state mem : List ℕ) (r : ℕ) (s m : List ℕ) : Type 0 where
  pub value : List ℕ
  pub value' : List ℕ
  pub performed : PerformedOn e base state mem value r s m value'
  pub eight : length value ≡ 8
  pub whole : length s ≡ state_size
  pub bytes : IsBytes s
  pub memory : IsBytes m

-- a call for each event, each with the state and the memory that the one before left
unfoldable pub Calls : ℕ → List Event → List ℕ → List ℕ → List ℕ → List ℕ → Type 0
Calls base [] state mem state' mem' = (state' ≡ state) × (mem' ≡ mem)
Calls base (e ∷ es) state mem state' mem' =
    (r : ℕ) × (s : List ℕ) × (m : List ℕ) × Called base e state mem r s m × Calls base es s m state' mem'
