-- What a row of the table of edges says (01, "Edges, proved together").
-- RULES 10.
use Rattle.std.specs.Prelude.{◌≡◌, List, [], ◌∷◌, ℕ, ◌+◌, set, replicate}
use Rattle.word.specs.Bytes.{le, to_le}
use Rattle.word.specs.Memory.{part, splice}
use Rattle.settings.specs.Settings.{defaults}
use Rattle.std.specs.Prelude.{None}
use Rattle.isa.specs.Decode.{decode_of}
use Rattle.isa.specs.declared.Instr.{Instr}
use Rattle.effect.specs.Execute.{reg_at}
use Rattle.events.specs.declared.Event.{Event}
use Rattle.model.specs.Perform.{Machine, answer_of, next_of, run_of}
use Rattle.model.specs.declared.Outcome.{Outcome}
use Rattle.retry.specs.Loop.{check_of}
use Rattle.retry.specs.declared.LoopAnswer.{LoopAnswer}

-- so many bytes at an address, as a number
infix 68 ◌at◌is◌
pub data Bytes : Type 0 where
  ◌at◌is◌ : ℕ → ℕ → ℕ → Bytes

-- a register and its value
infix 68 x◌is◌
pub data Register : Type 0 where
  x◌is◌ : ℕ → ℕ → Register

pub data Edge : Type 0 where
  -- a block of words is answered so by the loop checker, under the default settings
  checks : List ℕ → LoopAnswer → Edge
  -- a word is this instruction
  decodes : ℕ → Instr → Edge
  -- a hart with these words from address 0 on, these registers and these bytes in memory, the default settings and no reservation: the events are
  -- answered so, and leave these registers and these bytes
  runs : List ℕ → List Register → List Bytes → List Event → List Outcome → List Register → List Bytes → Edge

-- "Memory is 256 bytes at base 0."
abbrev pub with_words : ℕ → List ℕ → List ℕ → List ℕ
with_words a [] mem = mem
with_words a (w ∷ ws) mem = with_words (a + 4) ws (splice mem a (to_le 4 w))

abbrev pub with_bytes : List Bytes → List ℕ → List ℕ
with_bytes [] mem = mem
with_bytes ((n at a is v) ∷ rest) mem = with_bytes rest (splice mem a (to_le n v))

abbrev pub with_registers : List Register → List ℕ → List ℕ
with_registers [] l = l
with_registers ((x r is v) ∷ rest) l = with_registers rest (set l r v)

abbrev pub start : List ℕ → List Register → List Bytes → Machine
start words registers bytes =
    record {
      state = record { count = 1; settings = defaults; x = with_registers registers (replicate 256 0); pc = replicate 8 0; res = replicate 8 None };
      mem = with_bytes bytes (with_words 0 words (replicate 256 0));
    }

-- the answers to the events, each performed on what the one before left
abbrev pub answers_of : Machine → List Event → List Outcome
answers_of m [] = []
answers_of m (e ∷ es) = (answer_of 0 m.mem m.state e).outcome ∷ answers_of (next_of 0 m e) es

abbrev pub HoldRegisters : Machine → List Register → Type 0
HoldRegisters m [] = Unit {0}
HoldRegisters m ((x r is v) ∷ rest) = (reg_at m.state.x 0 r ≡ v) × HoldRegisters m rest

abbrev pub HoldBytes : Machine → List Bytes → Type 0
HoldBytes m [] = Unit {0}
HoldBytes m ((n at a is v) ∷ rest) = (le (part m.mem a n) ≡ v) × HoldBytes m rest

abbrev pub Holds : Edge → Type 0
Holds (checks words answer) = check_of defaults words ≡ answer
Holds (decodes word i) = decode_of word ≡ i
Holds (runs words registers bytes events answers registers' bytes') =
    (answers_of (start words registers bytes) events ≡ answers)
    × HoldRegisters (run_of 0 (start words registers bytes) events) registers'
    × HoldBytes (run_of 0 (start words registers bytes) events) bytes'

-- every row of a table holds
abbrev pub All : List Edge → Type 0
All [] = Unit {0}
All (e ∷ es) = Holds e × All es
