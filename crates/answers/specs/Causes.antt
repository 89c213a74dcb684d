-- The table of traps (01, "Traps", with 02 [2] and [11]), row by row and without tests.
-- RULES 3.1, 3.2.
use Rattle.std.specs.Prelude.{ℕ, ◌%◌, ◌<◌, ◌≡◌, cond, List, length, get_or}
use Rattle.reserve.specs.Range.{Inside}
use Rattle.isa.specs.Width.{bytes_of, pair_bytes}
use Rattle.isa.specs.Narrow.{decode_at}
use Rattle.isa.specs.declared.AtomicOp.{AtomicOp}
use Rattle.isa.specs.declared.AtomicOp.TheVariants.{Lr, Sc, Cas, CasPair, Rmw}
use Rattle.isa.specs.declared.Width.{Width}
use Rattle.isa.specs.declared.Instr.{Instr}
use Rattle.isa.specs.declared.Instr.TheVariants.{Illegal, Lui, Auipc, Jal, Jalr, Branch, Load, Store, OpImm, OpImm32, Op, Op32, Fence, Ecall, Ebreak, Amo}
use Rattle.settings.specs.Settings.{xlen_of, LrCause, AmoCause}
use Rattle.machine.specs.declared.State.{State}
use Rattle.events.specs.declared.Event.{Event}
use Rattle.events.specs.declared.Event.TheVariants.{Step, Device, Yield}
use Rattle.effect.specs.Effect.{offset}
use Rattle.effect.specs.Integer.{clear_bit0, holds_of}
use Rattle.effect.specs.Memory.{value_at, load_bytes, store_bytes}
use Rattle.effect.specs.Execute.{reg_at}

-- whether an access is a plain load or store or an atomic instruction's: 02 [11] speaks of "a misaligned LR, SC or AMO" alone
pub data Manner : Type 0 where
  plain : Manner
  atomic : Manner

-- the addresses that the table asks about
pub data Reach : Type 0 where
  nowhere : Reach
  jumps : ℕ → Reach  -- "JAL, JALR or a taken branch": its target
  reads : Manner → ℕ → ℕ → Reach  -- "load or LR": its address and width in bytes
  writes : Manner → ℕ → ℕ → Reach  -- "store, SC, AMO"; AMOCAS too, "the address is checked as for a write"

abbrev pub atomic_reach : AtomicOp → Width → ℕ → Reach
atomic_reach Lr w a = reads atomic a (bytes_of w)
atomic_reach Sc w a = writes atomic a (bytes_of w)
atomic_reach Cas w a = writes atomic a (bytes_of w)
atomic_reach CasPair w a = writes atomic a (pair_bytes w)
atomic_reach (Rmw op) w a = writes atomic a (bytes_of w)

-- registers, the pc and addresses have xlen bits
module _ (xlen : ℕ) where
  -- x gives the hart's registers; holds_of says whether a branch is taken, and clear_bit0 clears the lowest bit of JALR's target
  abbrev pub reach_of : Instr → (ℕ → ℕ) → ℕ → Reach
  reach_of (Jal rd imm) x pc = jumps (offset xlen pc imm)
  reach_of (Jalr rd rs1 imm) x pc = jumps (clear_bit0 (offset xlen (x rs1) imm))
  reach_of (Branch op rs1 rs2 imm) x pc = cond (holds_of xlen op (x rs1) (x rs2)) (jumps (offset xlen pc imm)) nowhere
  reach_of (Load op rd rs1 imm) x pc = reads plain (offset xlen (x rs1) imm) (load_bytes op)
  reach_of (Store op rs1 rs2 imm) x pc = writes plain (offset xlen (x rs1) imm) (store_bytes op)
  reach_of (Amo m) x pc = atomic_reach m.op m.width (x m.rs1)
  reach_of Illegal x pc = nowhere
  reach_of Ecall x pc = nowhere
  reach_of Ebreak x pc = nowhere
  reach_of (Fence rd rs1 imm) x pc = nowhere
  reach_of (Lui rd imm) x pc = nowhere
  reach_of (Auipc rd imm) x pc = nowhere
  reach_of (OpImm op rd rs1 imm) x pc = nowhere
  reach_of (OpImm32 op rd rs1 imm) x pc = nowhere
  reach_of (Op op rd rs1 rs2) x pc = nowhere
  reach_of (Op32 op rd rs1 rs2) x pc = nowhere

-- The row at this place of the table applies and gives this cause and value. word is the word at pc, i what it decodes to; misaligned is the setting.
module _ (xlen misaligned : ℕ) (i : Instr) (word : ℕ) (x : ℕ → ℕ) (pc base : ℕ) (mem : List ℕ) where
  pub data TrapRow (place cause value : ℕ) : Type 0 where
    -- "1 | the word at pc isn't wholly in memory | pc"
    unfetched : place ≡ 1 → cause ≡ 1 → value ≡ pc → (Inside base (length mem) pc 4 → ⊥) → TrapRow place cause value
    -- "2 | the word is none of the words below | the word"
    unknown : place ≡ 2 → cause ≡ 2 → value ≡ word → i ≡ Illegal → TrapRow place cause value
    -- "8, 3 | ECALL (0x00000073), EBREAK (0x00100073) | 0"
    called : place ≡ 3 → cause ≡ 8 → value ≡ 0 → i ≡ Ecall → TrapRow place cause value
    halted : place ≡ 3 → cause ≡ 3 → value ≡ 0 → i ≡ Ebreak → TrapRow place cause value
    -- "0 | JAL, JALR or a taken branch to a target that isn't a multiple of 4 | target"
    misaligned_target : place ≡ 4 → cause ≡ 0 → reach_of xlen i x pc ≡ jumps value → (value % 4 ≡ 0 → ⊥) → TrapRow place cause value
    -- "4, 6 | address not aligned to its width: load .. 4; store, .. 6 | address": those of plain loads and stores
    misaligned_read : place ≡ 5 → cause ≡ 4 → (n : ℕ) → reach_of xlen i x pc ≡ reads plain value n → (value % n ≡ 0 → ⊥) → TrapRow place cause value
    misaligned_write : place ≡ 5 → cause ≡ 6 → (n : ℕ) → reach_of xlen i x pc ≡ writes plain value n → (value % n ≡ 0 → ⊥) → TrapRow place cause value
    -- and those of LR, SC and AMO by 02 [11]: "0 where a misaligned LR, SC or AMO gives 4 and 6, 1 where it gives, as 000 permits, 5 and 7"
    misaligned_lr : place ≡ 5 → LrCause misaligned cause → (n : ℕ) → reach_of xlen i x pc ≡ reads atomic value n → (value % n ≡ 0 → ⊥)
        → TrapRow place cause value
    misaligned_amo : place ≡ 5 → AmoCause misaligned cause → (n : ℕ) → reach_of xlen i x pc ≡ writes atomic value n → (value % n ≡ 0 → ⊥)
        → TrapRow place cause value
    -- "5, 7 | bytes not wholly in memory: load or LR 5; store, AMO 7 | address"; 02 [2]: "an SC whose bytes aren't wholly in memory is now cause 7"
    outside_read : place ≡ 6 → cause ≡ 5 → (t : Manner) (n : ℕ) → reach_of xlen i x pc ≡ reads t value n → (Inside base (length mem) value n → ⊥)
        → TrapRow place cause value
    outside_write : place ≡ 6 → cause ≡ 7 → (t : Manner) (n : ℕ) → reach_of xlen i x pc ≡ writes t value n → (Inside base (length mem) value n → ⊥)
        → TrapRow place cause value

-- the rows for a hart with these registers, of xlen bits, and this pc
abbrev pub StepRow : ℕ → ℕ → (ℕ → ℕ) → ℕ → ℕ → List ℕ → ℕ → ℕ → ℕ → Type 0
StepRow xlen misaligned x pc base mem = TrapRow xlen misaligned (decode_at xlen (value_at base mem pc 4)) (value_at base mem pc 4) x pc base mem

-- the rows for an event: only a step has any
abbrev pub EventRow : ℕ → List ℕ → State → Event → ℕ → ℕ → ℕ → Type 0
EventRow base mem s (Step h) place cause value =
    StepRow (xlen_of s.settings) s.settings.misaligned (reg_at s.x h) (get_or s.pc h 0) base mem place cause value
EventRow base mem s (Device a n v) place cause value = ⊥
EventRow base mem s (Yield h) place cause value = ⊥

-- "The first that applies, in this order": a row applies with this cause and value, and no earlier one does
pub record FirstTrap (R : ℕ → ℕ → ℕ → Type 0) (cause value : ℕ) : Type 0 where
  pub place : ℕ
  pub applies : R place cause value
  pub first : (k c v : ℕ) → k < place → R k c v → ⊥

-- no row applies
abbrev pub Untrapped : (ℕ → ℕ → ℕ → Type 0) → Type 0
Untrapped R = (place cause value : ℕ) → R place cause value → ⊥
