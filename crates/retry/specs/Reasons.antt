-- The six reasons of 01, "Retry loops", one by one and without tests, and what they decide. "LR", "SC" and "word of RV64I" are meant of legal words.
-- 02 [7]: by the version of A that the settings have; [10]: "loop words are read as RV32I" where registers have 32 bits.
-- RULES 6.1.
use Rattle.std.specs.Prelude.{◌≡◌, ℕ, ◌+◌, ◌*◌, ◌%◌, ◌^◌, ◌<◌, ◌≤◌, ◌≢◌, ◌⊎◌, ◌↔◌, List, length, slice_index, Option, Some}
use Rattle.settings.specs.Settings.{xlen_of, ReadingRules, JalrPermitted}
use Rattle.settings.specs.declared.Settings.{Settings}
use Rattle.isa.specs.Decode.{class_of}
use Rattle.isa.specs.declared.class.Class.{Class}
use Rattle.isa.specs.declared.class.Class.TheVariants as C
use Rattle.isa.specs.Narrow.{decode_at}
use Rattle.isa.specs.declared.BranchOp.{BranchOp}
use Rattle.isa.specs.declared.Atomic.{Atomic}
use Rattle.isa.specs.declared.AtomicOp.TheVariants as A
use Rattle.isa.specs.declared.Instr.{Instr}
use Rattle.isa.specs.declared.Instr.TheVariants as I
use Rattle.retry.specs.declared.LoopAnswer.TheVariants.{Accepted, Rejected, Refused}
use Rattle.retry.specs.Loop.{loop_refusal, check_of}

-- the word at a place of the block decodes to this instruction at a register width of xlen bits
pub record Stands (xlen : ℕ) (ws : List ℕ) (place : ℕ) (i : Instr) : Type 0 where
  pub in_block : place < length ws
  pub decodes : decode_at xlen (slice_index ws place) ≡ i

abbrev pub LrAt : ℕ → List ℕ → ℕ → Atomic → Type 0
LrAt xlen ws place a = Stands xlen ws place (I.Amo a) × (a.op ≡ A.Lr)

abbrev pub ScAt : ℕ → List ℕ → ℕ → Atomic → Type 0
ScAt xlen ws place a = Stands xlen ws place (I.Amo a) × (a.op ≡ A.Sc)

abbrev pub AnSc : ℕ → List ℕ → ℕ → Type 0
AnSc xlen ws place = (a : Atomic) × ScAt xlen ws place a

-- ---- the first SC

abbrev pub FirstSc : ℕ → List ℕ → ℕ → Type 0
FirstSc xlen ws place = AnSc xlen ws place × ((k : ℕ) → k < place → AnSc xlen ws k → ⊥)

-- "Places before the first SC include all places if there is none."
abbrev pub BeforeSc : ℕ → List ℕ → ℕ → Type 0
BeforeSc xlen ws place = (first : ℕ) → FirstSc xlen ws first → place < first

abbrev pub AfterSc : ℕ → List ℕ → ℕ → Type 0
AfterSc xlen ws place = (first : ℕ) × FirstSc xlen ws first × (first < place)

-- ---- the reasons

-- 1. "Place 0 isn't an LR."
abbrev pub NotLr : ℕ → List ℕ → ℕ → Type 0
NotLr xlen ws place = (place ≡ 0) × ((a : Atomic) → LrAt xlen ws 0 a → ⊥)

-- 2. "A later word, other than the first SC, isn't LUI, AUIPC, JAL, a branch, or an OP, OP-IMM, OP-32, OP-IMM-32 word of RV64I."
-- 02 [7]: under 2.0 "the loop rules also allow JALR as any later word, reason 4 still applying, because 004 doesn't exclude it"
pub data PermittedClass (settings : Settings) (c : Option Class) : Type 0 where
  is_lui : c ≡ Some C.Lui → PermittedClass settings c
  is_auipc : c ≡ Some C.Auipc → PermittedClass settings c
  is_jal : c ≡ Some C.Jal → PermittedClass settings c
  is_branch : c ≡ Some C.Branch → PermittedClass settings c
  is_op : c ≡ Some C.Op → PermittedClass settings c
  is_op_imm : c ≡ Some C.OpImm → PermittedClass settings c
  is_op32 : c ≡ Some C.Op32 → PermittedClass settings c
  is_op_imm32 : c ≡ Some C.OpImm32 → PermittedClass settings c
  is_jalr : JalrPermitted settings → c ≡ Some C.Jalr → PermittedClass settings c

-- where registers have 32 bits, no word of OP-32 or OP-IMM-32 is legal
abbrev pub Permitted : Settings → ℕ → Type 0
Permitted settings w = PermittedClass settings (class_of w) × (decode_at (xlen_of settings) w ≢ I.Illegal)

abbrev pub NotPermitted : Settings → List ℕ → ℕ → Type 0
NotPermitted settings ws place =
    (0 < place) × (place < length ws) × (FirstSc (xlen_of settings) ws place → ⊥) × (Permitted settings (slice_index ws place) → ⊥)

-- 3. "A JAL or branch whose offset isn't a multiple of 4; or isn't above 0, unless it stands after the first SC and its target is place 0." The offset is
-- a number modulo 2 ^ 64.
abbrev pub LeadsBy : ℕ → List ℕ → ℕ → ℕ → Type 0
LeadsBy xlen ws place offset =
    ((rd : ℕ) × Stands xlen ws place (I.Jal rd offset))
    ⊎ ((op : BranchOp) × (rs1 : ℕ) × (rs2 : ℕ) × Stands xlen ws place (I.Branch op rs1 rs2 offset))

abbrev pub Above : ℕ → Type 0
Above offset = (0 < offset) × (offset < 2 ^ 63)

abbrev pub ToStart : ℕ → ℕ → Type 0
ToStart place offset = (4 * place + offset) % 2 ^ 64 ≡ 0

abbrev pub BadOffset : ℕ → List ℕ → ℕ → Type 0
BadOffset xlen ws place =
    (offset : ℕ) × LeadsBy xlen ws place offset
    × ((offset % 4 ≢ 0) ⊎ ((Above offset → ⊥) × (AfterSc xlen ws place × ToStart place offset → ⊥)))

-- 4. "The LR or a word before the first SC has rd equal to the LR's rs1, which isn't x0."
abbrev pub HasRd : Instr → ℕ → Type 0
HasRd I.Illegal n = ⊥
HasRd (I.Lui rd imm) n = rd ≡ n
HasRd (I.Auipc rd imm) n = rd ≡ n
HasRd (I.Jal rd imm) n = rd ≡ n
HasRd (I.Jalr rd rs1 imm) n = rd ≡ n
HasRd (I.Branch op rs1 rs2 imm) n = ⊥
HasRd (I.Load op rd rs1 imm) n = rd ≡ n
HasRd (I.Store op rs1 rs2 imm) n = ⊥
HasRd (I.OpImm op rd rs1 imm) n = rd ≡ n
HasRd (I.OpImm32 op rd rs1 imm) n = rd ≡ n
HasRd (I.Op op rd rs1 rs2) n = rd ≡ n
HasRd (I.Op32 op rd rs1 rs2) n = rd ≡ n
HasRd (I.Fence rd rs1 imm) n = rd ≡ n
HasRd I.Ecall n = ⊥
HasRd I.Ebreak n = ⊥
HasRd (I.Amo a) n = a.rd ≡ n

abbrev pub Overwrites : ℕ → List ℕ → ℕ → Type 0
Overwrites xlen ws place =
    (lr : Atomic) × (i : Instr) × LrAt xlen ws 0 lr × ((place ≡ 0) ⊎ BeforeSc xlen ws place) × Stands xlen ws place i
    × HasRd i lr.rs1 × (lr.rs1 ≢ 0)

-- 5. "The first SC has another width or another rs1 than the LR."
abbrev pub OtherSc : ℕ → List ℕ → ℕ → Type 0
OtherSc xlen ws place =
    (lr : Atomic) × (sc : Atomic) × LrAt xlen ws 0 lr × FirstSc xlen ws place × ScAt xlen ws place sc
    × ((sc.width ≢ lr.width) ⊎ (sc.rs1 ≢ lr.rs1))

-- 6. "No SC (given at the place after the last word)."
abbrev pub NoSc : ℕ → List ℕ → ℕ → Type 0
NoSc xlen ws place = (place ≡ length ws) × ((k : ℕ) → AnSc xlen ws k → ⊥)

-- the reason applies at the place
pub data Reason (settings : Settings) (ws : List ℕ) (place reason : ℕ) : Type 0 where
  one : reason ≡ 1 → NotLr (xlen_of settings) ws place → Reason settings ws place reason
  two : reason ≡ 2 → NotPermitted settings ws place → Reason settings ws place reason
  three : reason ≡ 3 → BadOffset (xlen_of settings) ws place → Reason settings ws place reason
  four : reason ≡ 4 → Overwrites (xlen_of settings) ws place → Reason settings ws place reason
  five : reason ≡ 5 → OtherSc (xlen_of settings) ws place → Reason settings ws place reason
  six : reason ≡ 6 → NoSc (xlen_of settings) ws place → Reason settings ws place reason

-- ---- the answer

abbrev pub Unreasoned : Settings → List ℕ → Type 0
Unreasoned settings ws = (place reason : ℕ) → Reason settings ws place reason → ⊥

-- "the lowest place with a reason, and at that place the lowest reason"
pub record Lowest (settings : Settings) (ws : List ℕ) (place reason : ℕ) : Type 0 where
  pub applies : Reason settings ws place reason
  pub lowest_place : (p r : ℕ) → p < place → Reason settings ws p r → ⊥
  pub lowest_reason : (r : ℕ) → r < reason → Reason settings ws place r → ⊥

-- not refused by 6
abbrev pub Sized : List ℕ → Type 0
Sized ws = (2 ≤ length ws) × (length ws ≤ 16)

-- 02 [7]: "Refusals: any other version is 2", and so is a kind that is neither of [10]'s; 01, refusal 6: "loop block of fewer than 2 or more than 16 words"; the lower number first
pub data RefusedBy (settings : Settings) (ws : List ℕ) (number : ℕ) : Type 0 where
  by_setting : number ≡ 2 → (ReadingRules settings → ⊥) → RefusedBy settings ws number
  by_length : number ≡ 6 → ReadingRules settings → (length ws < 2) ⊎ (16 < length ws) → RefusedBy settings ws number

-- 01: "It is accepted exactly if no reason below applies; otherwise the answer is the lowest place with a reason, and at that place the lowest reason."
pub record Exactly (settings : Settings) (ws : List ℕ) : Type 0 where
  pub accepts : (check_of settings ws ≡ Accepted) ↔ (ReadingRules settings × Sized ws × Unreasoned settings ws)
  pub rejects : (place reason : ℕ)
      → (check_of settings ws ≡ Rejected place reason) ↔ (ReadingRules settings × Sized ws × Lowest settings ws place reason)
  pub refuses : (number : ℕ) → (check_of settings ws ≡ Refused number) ↔ RefusedBy settings ws number
  pub number : (n : ℕ) → ((0 < n) × (loop_refusal (check_of settings ws) ≡ n)) ↔ RefusedBy settings ws n
