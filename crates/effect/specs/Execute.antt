-- What each instruction does, at a register width of xlen bits; misaligned is given to LR, SC, AMO and AMOCAS alone. x gives the value of a register;
-- all are read here, before any is written.
-- RULES 4; `pair_at` 4.8; sources before destinations 4.9.
use Rattle.std.specs.Prelude.{ℕ, ◌+◌, ◌*◌, ◌%◌, ◌^◌, Bool, cond, List, get_or, eqb}
use Rattle.word.specs.Word.{low}
use Rattle.isa.specs.Width.{bits_of}
use Rattle.isa.specs.Narrow.{decode_at}
use Rattle.isa.specs.declared.Width.{Width}
use Rattle.isa.specs.declared.AtomicOp.{AtomicOp}
use Rattle.isa.specs.declared.AtomicOp.TheVariants.{Lr, Sc, Cas, CasPair, Rmw}
use Rattle.isa.specs.declared.Atomic.{Atomic}
use Rattle.isa.specs.declared.Instr.{Instr}
use Rattle.isa.specs.declared.Instr.TheVariants.{Illegal, Lui, Auipc, Jal, Jalr, Branch, Load, Store, OpImm, OpImm32, Op, Op32, Fence, Ecall, Ebreak, Amo}
use Rattle.effect.specs.Effect.{Exec, trap, effect, none, nothing, offset, next_pc, sets}
use Rattle.effect.specs.Integer.{computed, exec_jump, clear_bit0, holds_of, exec_branch}
use Rattle.effect.specs.Memory.{exec_load, exec_store}
use Rattle.effect.specs.Atomic.{exec_lr, exec_sc, exec_amo, exec_cas, exec_cas_pair}

-- register r of hart h among those of all harts
unfoldable pub reg_at : List ℕ → ℕ → ℕ → ℕ
reg_at x h r = get_or x (h * 32 + r % 32) 0

-- 01: "Q uses pairs rd, rd+1 and rs2, rs2+1; a pair that starts at x0 reads as zero twice"; w is the width of each half
unfoldable pub pair_at : Width → (ℕ → ℕ) → ℕ → ℕ
pair_at w x r = cond (eqb (r % 32) 0) 0 (low (bits_of w) (x r) + 2 ^ bits_of w * low (bits_of w) (x (r % 32 + 1)))

module _ (xlen misaligned : ℕ) where
  abbrev pub atomic_by : AtomicOp → Atomic → (ℕ → ℕ) → ℕ → ℕ → List ℕ → (ℕ → ℕ → Bool) → Exec
  atomic_by Lr m x pc base mem covered = exec_lr xlen misaligned m.width m.rd (x m.rs1) pc base mem
  atomic_by Sc m x pc base mem covered = exec_sc xlen misaligned m.width m.rd (x m.rs1) (x m.rs2) pc base mem covered
  atomic_by Cas m x pc base mem covered = exec_cas xlen misaligned m.width m.rd (x m.rs1) (x m.rd) (x m.rs2) pc base mem
  atomic_by CasPair m x pc base mem covered =
      exec_cas_pair xlen misaligned m.width m.rd (x m.rs1) (pair_at m.width x m.rd) (pair_at m.width x m.rs2) pc base mem
  atomic_by (Rmw op) m x pc base mem covered = exec_amo xlen misaligned op m.width m.rd (x m.rs1) (x m.rs2) pc base mem

  unfoldable pub exec_atomic : Atomic → (ℕ → ℕ) → ℕ → ℕ → List ℕ → (ℕ → ℕ → Bool) → Exec
  exec_atomic m x pc base mem covered = atomic_by m.op m x pc base mem covered

  -- the word is the value of cause 2
  unfoldable pub execute : Instr → ℕ → (ℕ → ℕ) → ℕ → ℕ → List ℕ → (ℕ → ℕ → Bool) → Exec
  execute Illegal word x pc base mem covered = trap 2 word
  execute Ecall word x pc base mem covered = trap 8 0
  execute Ebreak word x pc base mem covered = trap 3 0
  execute (Fence rd rs1 imm) word x pc base mem covered = effect none (next_pc xlen pc) nothing
  execute (Lui rd imm) word x pc base mem covered = sets xlen rd (low xlen imm) pc
  execute (Auipc rd imm) word x pc base mem covered = sets xlen rd (offset xlen pc imm) pc
  execute (Jal rd imm) word x pc base mem covered = exec_jump xlen rd (offset xlen pc imm) pc
  execute (Jalr rd rs1 imm) word x pc base mem covered = exec_jump xlen rd (clear_bit0 (offset xlen (x rs1) imm)) pc
  execute (Branch op rs1 rs2 imm) word x pc base mem covered =
      exec_branch xlen (holds_of xlen op (x rs1) (x rs2)) (offset xlen pc imm) pc
  execute (Load op rd rs1 imm) word x pc base mem covered = exec_load xlen op rd (offset xlen (x rs1) imm) pc base mem
  execute (Store op rs1 rs2 imm) word x pc base mem covered = exec_store xlen op (offset xlen (x rs1) imm) (x rs2) pc base mem
  execute (OpImm op rd rs1 imm) word x pc base mem covered = sets xlen rd (computed xlen xlen op (x rs1) imm) pc
  execute (OpImm32 op rd rs1 imm) word x pc base mem covered = sets xlen rd (computed xlen 32 op (x rs1) imm) pc
  execute (Op op rd rs1 rs2) word x pc base mem covered = sets xlen rd (computed xlen xlen op (x rs1) (x rs2)) pc
  execute (Op32 op rd rs1 rs2) word x pc base mem covered = sets xlen rd (computed xlen 32 op (x rs1) (x rs2)) pc
  execute (Amo m) word x pc base mem covered = exec_atomic m x pc base mem covered

  -- what a word does
  unfoldable pub execute_word : ℕ → (ℕ → ℕ) → ℕ → ℕ → List ℕ → (ℕ → ℕ → Bool) → Exec
  execute_word word x pc base mem covered = execute (decode_at xlen word) word x pc base mem covered
