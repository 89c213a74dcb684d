-- What every effect keeps: the pc stays aligned, a reservation is as 01 asks, what is stored lies in memory, and values fit registers.
-- RULES 1.1, 1.3, 4.10.
use Rattle.std.specs.Prelude.{ℕ, ◌*◌, ◌%◌, ◌^◌, ◌<◌, ◌≤◌, ◌≡◌, ◌⊎◌, length}
use Rattle.word.specs.Bytes.{IsBytes}
use Rattle.reserve.specs.Range.{Inside}
use Rattle.isa.specs.Width.{bits_of}
use Rattle.isa.specs.declared.Instr.{Instr}
use Rattle.isa.specs.declared.Instr.TheVariants.{Load, OpImm32, Op32, Amo}
use Rattle.effect.specs.Memory.{load_bytes}
use Rattle.effect.specs.Effect.{Writes, none, one, pair, Access, nothing, reserve, store, sc_stored, sc_failed, Exec, trap, effect}

-- 01: a reservation's width is 4 or 8, it is aligned to it, and inside memory (refusal 2); bytes stored are wholly in memory (cause 7): in the
-- len bytes at base
abbrev pub AccessOk : ℕ → ℕ → Access → Type 0
AccessOk base len nothing = Unit {0}
AccessOk base len (reserve a w) = ((w ≡ 4) ⊎ (w ≡ 8)) × ((a % w ≡ 0) × Inside base len a w)
AccessOk base len (store a bs) = Inside base len a (length bs)
AccessOk base len (sc_stored a bs) = Inside base len a (length bs)
AccessOk base len sc_failed = Unit {0}

-- 01: "a pc that is a multiple of 4"
abbrev pub Sound : ℕ → ℕ → Exec → Type 0
Sound base len (trap cause value) = Unit {0}
Sound base len (effect ws to t) = (to % 4 ≡ 0) × AccessOk base len t

-- at a register width of xlen bits
module _ (xlen : ℕ) where
  -- 01: "x0 to x31 (64 bits ..)": the values written and the next pc are numbers of xlen bits
  abbrev pub WritesFit : Writes → Type 0
  WritesFit none = Unit {0}
  WritesFit (one rd v) = v < 2 ^ xlen
  WritesFit (pair rd v rd2 v2) = (v < 2 ^ xlen) × (v2 < 2 ^ xlen)

  -- what is stored is bytes; a reservation is no wider than a register (02 [10]: "A reservation 8 wide is refusal 2 here")
  abbrev pub AccessFits : Access → Type 0
  AccessFits nothing = Unit {0}
  AccessFits (reserve a w) = 8 * w ≤ xlen
  AccessFits (store a bs) = IsBytes bs
  AccessFits (sc_stored a bs) = IsBytes bs
  AccessFits sc_failed = Unit {0}

  abbrev pub Fits : Exec → Type 0
  Fits (trap cause value) = Unit {0}
  Fits (effect ws to t) = WritesFit ws × ((to < 2 ^ xlen) × AccessFits t)

  -- What an instruction loads into a register has no more bits than that, and OP-32 and OP-IMM-32 are of registers of 64 bits: so it is with every word that
  -- is decoded at that width.
  abbrev pub Fitting : Instr → Type 0
  Fitting (Load op rd rs1 imm) = 8 * load_bytes op ≤ xlen
  Fitting (OpImm32 op rd rs1 imm) = 64 ≤ xlen
  Fitting (Op32 op rd rs1 rs2) = 64 ≤ xlen
  Fitting (Amo a) = bits_of a.width ≤ xlen
  Fitting _ = Unit {0}
