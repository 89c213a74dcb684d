-- Which words a 32-bit core has, class by class, in the manual's order of opcodes: the columns funct7, funct3 and opcode of its table "RV32I base instruction
-- set", of "RV32A" and, for AMOCAS, of 001. A word that no line has is cause 2; so OP-IMM-32 and OP-32 have none.
-- RULES 4.1.6.
use Rattle.std.specs.Prelude.{◌≡◌, ◌⊎◌, Some, List, [], ◌∷◌, ℕ, ◌%◌}
use Rattle.isa.specs.Fields.{rd_of, rs2_of, funct3_of, funct5_of, funct7_of}
use Rattle.isa.specs.Decode.{class_of}
use Rattle.isa.specs.declared.class.Class.TheVariants as C

-- the number is one of these
infix 40 ◌one_of◌
abbrev pub ◌one_of◌ : ℕ → List ℕ → Type 0
n one_of [] = ⊥
n one_of (m ∷ ms) = (n ≡ m) ⊎ (n one_of ms)

pub data Legal32 (w : ℕ) : Type 0 where
  -- LB, LH, LW, LBU, LHU
  is_load : class_of w ≡ Some C.Load → funct3_of w one_of (0 ∷ 1 ∷ 2 ∷ 4 ∷ 5 ∷ []) → Legal32 w
  -- 01: "MISC-MEM with funct3 0 is FENCE, whatever its other fields"
  is_fence : class_of w ≡ Some C.MiscMem → funct3_of w ≡ 0 → Legal32 w
  -- ADDI, SLTI, SLTIU, XORI, ORI, ANDI: every immediate
  is_op_imm : class_of w ≡ Some C.OpImm → funct3_of w one_of (0 ∷ 2 ∷ 3 ∷ 4 ∷ 6 ∷ 7 ∷ []) → Legal32 w
  -- SLLI; SRLI and SRAI. funct7 stands above an amount of 5 bits, so that an amount of 32 or more is no word of RV32I
  is_shift_left : class_of w ≡ Some C.OpImm → funct3_of w ≡ 1 → funct7_of w ≡ 0 → Legal32 w
  is_shift_right : class_of w ≡ Some C.OpImm → funct3_of w ≡ 5 → funct7_of w one_of (0 ∷ 0x20 ∷ []) → Legal32 w
  is_auipc : class_of w ≡ Some C.Auipc → Legal32 w
  -- SB, SH, SW
  is_store : class_of w ≡ Some C.Store → funct3_of w one_of (0 ∷ 1 ∷ 2 ∷ []) → Legal32 w
  -- 02 [10]: "LR.W and SC.W, the W AMOs, AMOCAS.W": funct5 is add, swap, SC, xor, CAS, or, and, min, max, minu, maxu; LR's rs2 field is 0
  is_atomic : class_of w ≡ Some C.Amo → funct3_of w ≡ 2 → funct5_of w one_of (0 ∷ 1 ∷ 3 ∷ 4 ∷ 5 ∷ 8 ∷ 12 ∷ 16 ∷ 20 ∷ 24 ∷ 28 ∷ []) → Legal32 w
  is_lr : class_of w ≡ Some C.Amo → funct3_of w ≡ 2 → funct5_of w ≡ 2 → rs2_of w ≡ 0 → Legal32 w
  -- 02 [10]: "and AMOCAS.D on even pairs by 001's rules"
  is_pair : class_of w ≡ Some C.Amo → funct3_of w ≡ 3 → funct5_of w ≡ 5 → rd_of w % 2 ≡ 0 → rs2_of w % 2 ≡ 0 → Legal32 w
  -- ADD, SLL, SLT, SLTU, XOR, SRL, OR, AND; SUB and SRA
  is_op : class_of w ≡ Some C.Op → funct7_of w ≡ 0 → Legal32 w
  is_sub_or_sra : class_of w ≡ Some C.Op → funct7_of w ≡ 0x20 → funct3_of w one_of (0 ∷ 5 ∷ []) → Legal32 w
  is_lui : class_of w ≡ Some C.Lui → Legal32 w
  -- BEQ, BNE, BLT, BGE, BLTU, BGEU
  is_branch : class_of w ≡ Some C.Branch → funct3_of w one_of (0 ∷ 1 ∷ 4 ∷ 5 ∷ 6 ∷ 7 ∷ []) → Legal32 w
  is_jalr : class_of w ≡ Some C.Jalr → funct3_of w ≡ 0 → Legal32 w
  is_jal : class_of w ≡ Some C.Jal → Legal32 w
  -- 01: "ECALL (0x00000073), EBREAK (0x00100073)"
  is_system : w one_of (0x00000073 ∷ 0x00100073 ∷ []) → Legal32 w
