-- Which instruction a hart's step performs.
-- RULES 1.4.
use Rattle.std.specs.Prelude.{◌≡◌, ℕ, length, get_or}
use Rattle.reserve.specs.Range.{Inside}
use Rattle.isa.specs.Narrow.{decode_at}
use Rattle.isa.specs.declared.Instr.{Instr}
use Rattle.effect.specs.Memory.{value_at}
use Rattle.model.specs.Perform.{Machine, xlen}

-- 01: "fetch the word at pc, perform it": the word at hart h's pc is wholly in memory and decodes to i
pub record Fetches (base : ℕ) (m : Machine) (h : ℕ) (i : Instr) : Type 0 where
  pub inside : Inside base (length m.mem) (get_or m.state.pc h 0) 4
  pub decodes : decode_at (xlen m) (value_at base m.mem (get_or m.state.pc h 0) 4) ≡ i
