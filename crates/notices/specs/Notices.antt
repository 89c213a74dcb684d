-- What reservations learn of an event: of a retired step by its instruction and its answer, and of each notice from which events alone it comes.
-- `act_notice` and `notice_of`, by which a trace is defined, are proved to say both.
-- RULES 5.
use Rattle.std.specs.Prelude.{cond, List, ℕ, eqb}
use Rattle.word.specs.Word.{low}
use Rattle.reserve.specs.declared.Notice.{Notice}
use Rattle.reserve.specs.declared.Notice.TheVariants as N
use Rattle.isa.specs.Width.{bits_of, bytes_of, pair_bytes}
use Rattle.isa.specs.declared.AtomicOp.{AtomicOp}
use Rattle.isa.specs.declared.AtomicOp.TheVariants.{Lr, Sc, Cas, CasPair, Rmw}
use Rattle.isa.specs.declared.Atomic.{Atomic}
use Rattle.isa.specs.declared.Instr.{Instr}
use Rattle.isa.specs.declared.Instr.TheVariants.{Illegal, Lui, Auipc, Jal, Jalr, Branch, Load, Store, OpImm, OpImm32, Op, Op32, Fence, Ecall, Ebreak, Amo}
use Rattle.effect.specs.Effect.{offset}
use Rattle.effect.specs.Memory.{store_bytes, value_at}
use Rattle.effect.specs.Execute.{pair_at}
use Rattle.events.specs.declared.Event.{Event}
use Rattle.model.specs.Perform.{Machine}
use Rattle.model.specs.declared.Outcome.{Outcome}
use Rattle.model.specs.declared.Outcome.TheVariants as O
use Rattle.notices.specs.Happened.{RetiredLr, StoredSc, FailedSc, PlainWrite, DeviceWrites, Yields, Silent}

-- The notice of an instruction that retires, as an equation. Hart h, its registers x and the memory before the step.
module _ (h : ℕ) (x : ℕ → ℕ) (base : ℕ) (mem : List ℕ) where
  -- an SC, of n bytes at a, by its answer
  abbrev pub sc_notice : ℕ → ℕ → Outcome → Notice
  sc_notice a n O.Retired = N.Quiet
  sc_notice a n O.ScStored = N.ScStored h a n
  sc_notice a n O.ScFailed = N.ScFailed h
  sc_notice a n (O.Trap cause value) = N.Quiet
  sc_notice a n (O.Refused number) = N.Quiet

  abbrev pub atomic_notice : AtomicOp → Atomic → Outcome → Notice
  atomic_notice Lr i o = N.LoadReserved h (x i.rs1) (bytes_of i.width)
  atomic_notice Sc i o = sc_notice (x i.rs1) (bytes_of i.width) o
  atomic_notice Cas i o =
      cond (eqb (value_at base mem (x i.rs1) (bytes_of i.width)) (low (bits_of i.width) (x i.rd)))
      (N.Write h (x i.rs1) (bytes_of i.width)) N.Quiet
  atomic_notice CasPair i o =
      cond (eqb (value_at base mem (x i.rs1) (pair_bytes i.width)) (pair_at i.width x i.rd))
      (N.Write h (x i.rs1) (pair_bytes i.width)) N.Quiet
  atomic_notice (Rmw op) i o = N.Write h (x i.rs1) (bytes_of i.width)

-- the same of any instruction, where registers and addresses have xlen bits
module _ (xlen h : ℕ) (x : ℕ → ℕ) (base : ℕ) (mem : List ℕ) where
  abbrev pub notice_by : Instr → Outcome → Notice
  notice_by Illegal o = N.Quiet
  notice_by Ecall o = N.Quiet
  notice_by Ebreak o = N.Quiet
  notice_by (Fence rd rs1 imm) o = N.Quiet
  notice_by (Lui rd imm) o = N.Quiet
  notice_by (Auipc rd imm) o = N.Quiet
  notice_by (Jal rd imm) o = N.Quiet
  notice_by (Jalr rd rs1 imm) o = N.Quiet
  notice_by (Branch op rs1 rs2 imm) o = N.Quiet
  notice_by (Load op rd rs1 imm) o = N.Quiet
  notice_by (Store op rs1 rs2 imm) o = N.Write h (offset xlen (x rs1) imm) (store_bytes op)
  notice_by (OpImm op rd rs1 imm) o = N.Quiet
  notice_by (OpImm32 op rd rs1 imm) o = N.Quiet
  notice_by (Op op rd rs1 rs2) o = N.Quiet
  notice_by (Op32 op rd rs1 rs2) o = N.Quiet
  notice_by (Amo i) o = atomic_notice h x base mem i.op i o

-- The events that a notice comes from, in words.
abbrev pub ComesFrom : ℕ → Machine → Event → Notice → Type 0
ComesFrom base m e N.Quiet = Silent base m e
ComesFrom base m e (N.LoadReserved g a w) = RetiredLr base m e g a w
ComesFrom base m e (N.ScStored g b n) = StoredSc base m e g b n
ComesFrom base m e (N.ScFailed g) = FailedSc base m e g
ComesFrom base m e (N.Write g b n) = PlainWrite base m e g b n
ComesFrom base m e (N.DeviceWrite b n) = DeviceWrites base m e b n
ComesFrom base m e (N.Yield g) = Yields base m e g
