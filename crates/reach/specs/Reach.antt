-- Which bytes a step may write, so that they can be put back: what the code saves before a row's step.
use Rattle.std.specs.Prelude.{ℕ, ◌-◌, min, cond, Option, Some, None}
use Rattle.reserve.specs.Range.{inside_of}
use Rattle.isa.specs.Fields.{rd_of, rs1_of, imm_s}
use Rattle.isa.specs.Decode.{class_of}
use Rattle.isa.specs.declared.class.Class.{Class}
use Rattle.isa.specs.declared.class.Class.TheVariants as C
use Rattle.isa.specs.declared.Instr.{Instr}
use Rattle.isa.specs.declared.Instr.TheVariants.{Illegal, Lui, Auipc, Jal, Jalr, Branch, Load, Store, OpImm, OpImm32, Op, Op32, Fence, Ecall, Ebreak, Amo}
use Rattle.effect.specs.Effect.{offset}
use Rattle.reach.specs.declared.Reach.{Reach}

-- where 16 bytes of a memory of len bytes at base start that hold those from a on: at a, or as late as there are 16; 0 where a isn't in memory, since
-- nothing is written there
abbrev pub window_of : ℕ → ℕ → ℕ → ℕ
window_of base len a = cond (inside_of base len a 1) (min (a - base) (len - 16)) 0

-- at a register width of xlen bits
module _ (xlen : ℕ) where
  -- the address at which an instruction may write; x gives the hart's registers. Of an instruction that never writes memory it is 0, but for LR, which has an
  -- address as all atomics have
  unfoldable pub writes_at : Instr → (ℕ → ℕ) → ℕ
  writes_at (Store op rs1 rs2 imm) x = offset xlen (x rs1) imm
  writes_at (Amo m) x = x m.rs1
  writes_at Illegal x = 0
  writes_at (Lui rd imm) x = 0
  writes_at (Auipc rd imm) x = 0
  writes_at (Jal rd imm) x = 0
  writes_at (Jalr rd rs1 imm) x = 0
  writes_at (Branch op rs1 rs2 imm) x = 0
  writes_at (Load op rd rs1 imm) x = 0
  writes_at (OpImm op rd rs1 imm) x = 0
  writes_at (OpImm32 op rd rs1 imm) x = 0
  writes_at (Op op rd rs1 rs2) x = 0
  writes_at (Op32 op rd rs1 rs2) x = 0
  writes_at (Fence rd rs1 imm) x = 0
  writes_at Ecall x = 0
  writes_at Ebreak x = 0

  -- Both by the word's class, as the code has them: it needs no decoded instruction. Of a word that is no instruction they say nothing, since it traps
  abbrev pub reach_by : Option Class → ℕ → (ℕ → ℕ) → Reach
  reach_by (Some C.Store) w x = record { rd = 0; at = offset xlen (x (rs1_of w)) (imm_s w) }
  reach_by (Some C.Amo) w x = record { rd = rd_of w; at = x (rs1_of w) }
  reach_by (Some C.MiscMem) w x = record { rd = 0; at = 0 }
  reach_by (Some C.Branch) w x = record { rd = 0; at = 0 }
  reach_by (Some C.Load) w x = record { rd = rd_of w; at = 0 }
  reach_by (Some C.OpImm) w x = record { rd = rd_of w; at = 0 }
  reach_by (Some C.Auipc) w x = record { rd = rd_of w; at = 0 }
  reach_by (Some C.OpImm32) w x = record { rd = rd_of w; at = 0 }
  reach_by (Some C.Op) w x = record { rd = rd_of w; at = 0 }
  reach_by (Some C.Lui) w x = record { rd = rd_of w; at = 0 }
  reach_by (Some C.Op32) w x = record { rd = rd_of w; at = 0 }
  reach_by (Some C.Jalr) w x = record { rd = rd_of w; at = 0 }
  reach_by (Some C.Jal) w x = record { rd = rd_of w; at = 0 }
  reach_by (Some C.System) w x = record { rd = rd_of w; at = 0 }
  reach_by None w x = record { rd = rd_of w; at = 0 }

  unfoldable pub reach_in : ℕ → (ℕ → ℕ) → Reach
  reach_in w x = reach_by (class_of w) w x
