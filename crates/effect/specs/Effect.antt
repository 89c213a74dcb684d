-- What an instruction comes to: a trap, or its effect.
-- RULES 3 and 4: what the two ends of a step are.
use Rattle.std.specs.Prelude.{ℕ, ◌+◌, ◌-◌, ◌%◌, ◌^◌, ◌≡◌, List, length, Result, Ok, Err}
use Rattle.word.specs.Memory.{splice}
use Rattle.reserve.specs.declared.Notice.{Notice}
use Rattle.reserve.specs.declared.Notice.TheVariants.{Quiet, LoadReserved, ScStored, ScFailed, Write}
use Rattle.effect.specs.declared.Effect.{Effect}
use Rattle.effect.specs.declared.Trap.{Trap}

-- the registers that it writes, with their values; a pair writes its first register first
pub data Writes : Type 0 where
  none : Writes
  one : ℕ → ℕ → Writes
  pair : ℕ → ℕ → ℕ → ℕ → Writes

-- what it does besides registers and pc: both the bytes that change and what reservations learn are read off this one value
pub data Access : Type 0 where
  nothing : Access
  reserve : ℕ → ℕ → Access  -- LR: address and width
  store : ℕ → List ℕ → Access  -- address and bytes
  sc_stored : ℕ → List ℕ → Access  -- an SC that succeeds
  sc_failed : Access  -- an SC that fails

-- cause and value; or what is written, the next pc, and the access
pub data Exec : Type 0 where
  trap : ℕ → ℕ → Exec
  effect : Writes → ℕ → Access → Exec

-- the memory afterwards
abbrev pub stored : ℕ → List ℕ → Access → List ℕ
stored base mem nothing = mem
stored base mem (reserve a w) = mem
stored base mem (store a bs) = splice mem (a - base) bs
stored base mem (sc_stored a bs) = splice mem (a - base) bs
stored base mem sc_failed = mem

abbrev pub memory_by : ℕ → List ℕ → Exec → List ℕ
memory_by base mem (trap cause value) = mem
memory_by base mem (effect ws to t) = stored base mem t

-- what reservations learn of hart h's access
abbrev pub notice_of : ℕ → Access → Notice
notice_of h nothing = Quiet
notice_of h (reserve a w) = LoadReserved h a w
notice_of h (store a bs) = Write h a (length bs)
notice_of h (sc_stored a bs) = ScStored h a (length bs)
notice_of h sc_failed = ScFailed h

-- the answer as the code gives it: where no register is written, x0 is
abbrev pub retired : Writes → ℕ → Notice → Result Effect Trap
retired none to n = Ok (record { rd = 0; value = 0; rd2 = 0; value2 = 0; next = to; notice = n })
retired (one rd v) to n = Ok (record { rd = rd; value = v; rd2 = 0; value2 = 0; next = to; notice = n })
retired (pair rd v rd2 v2) to n = Ok (record { rd = rd; value = v; rd2 = rd2; value2 = v2; next = to; notice = n })

abbrev pub done_of : ℕ → Exec → Result Effect Trap
done_of h (trap cause value) = Err (record { cause = cause; value = value })
done_of h (effect ws to t) = retired ws to (notice_of h t)

-- hart h's answer and the memory afterwards are those of e
pub record Meets (h : ℕ) (e : Exec) (base : ℕ) (before : List ℕ) (r : Result Effect Trap) (after : List ℕ) : Type 0 where
  pub answer : r ≡ done_of h e
  pub memory : after ≡ memory_by base before e

-- addresses and pc are numbers of xlen bits: 01 has 64, and 02 [10] 32
module _ (xlen : ℕ) where
  -- the place at an offset
  abbrev pub offset : ℕ → ℕ → ℕ
  offset a imm = (a + imm) % 2 ^ xlen

  abbrev pub next_pc : ℕ → ℕ
  next_pc pc = offset pc 4

  -- one register is set, and nothing else happens
  abbrev pub sets : ℕ → ℕ → ℕ → Exec
  sets rd v pc = effect (one rd v) (next_pc pc) nothing
