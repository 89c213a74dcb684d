-- What a word is: a table for each opcode, as in the manual's "RV32/64G instruction set listings", and Zacas for AMOCAS. A word that no
-- table has is Illegal.
-- RULES: `classes` 4.1.1; loads and stores 4.2; jumps and branches 4.3; integer words 4.1.4; FENCE, ECALL, EBREAK 4.1.5; atomics 4.4; which words are
-- legal 4.1.3.
use Rattle.std.specs.Prelude.{ℕ, ◌+◌, ◌*◌, ◌%◌, Bool, cond, ◌&&◌, List, [], ◌∷◌, Option, Some, None, eqb}
use Rattle.word.specs.Choose.{Row, ◌⇒◌, select}
use Rattle.isa.specs.Fields.{bits, rd_of, rs1_of, rs2_of, funct3_of, funct5_of, funct6_of, funct7_of, imm_i, imm_s, imm_b, imm_u, imm_j}
use Rattle.isa.specs.declared.class.Class.{Class}
use Rattle.isa.specs.declared.class.Class.TheVariants as C
use Rattle.isa.specs.declared.LoadOp.{LoadOp}
use Rattle.isa.specs.declared.LoadOp.TheVariants.{Lb, Lh, Lw, Ld, Lbu, Lhu, Lwu}
use Rattle.isa.specs.declared.StoreOp.{StoreOp}
use Rattle.isa.specs.declared.StoreOp.TheVariants.{Sb, Sh, Sw, Sd}
use Rattle.isa.specs.declared.BranchOp.{BranchOp}
use Rattle.isa.specs.declared.BranchOp.TheVariants.{Eq, Ne, Lt, Ge, Ltu, Geu}
use Rattle.isa.specs.declared.AluOp.{AluOp}
use Rattle.isa.specs.declared.AluOp.TheVariants.{Add, Sub, Sll, Slt, Sltu, Xor, Srl, Sra, Or, And}
use Rattle.isa.specs.declared.AmoOp.TheVariants as A
use Rattle.isa.specs.declared.AtomicOp.{AtomicOp}
use Rattle.isa.specs.declared.AtomicOp.TheVariants.{Lr, Sc, Cas, CasPair, Rmw}
use Rattle.isa.specs.declared.Width.{Width}
use Rattle.isa.specs.declared.Width.TheVariants.{Word, Double}
use Rattle.isa.specs.declared.Instr.{Instr}
use Rattle.isa.specs.declared.Instr.TheVariants.{Illegal, Lui, Auipc, Jal, Jalr, Branch, Load, Store}
use Rattle.isa.specs.declared.Instr.TheVariants.{OpImm, OpImm32, Op, Op32, Fence, Ecall, Ebreak, Amo}

-- the opcode map: the class of each value of bits 6 to 2, by the names of the manual's "RISC-V base opcode map"
abbrev pub classes : List (Row Class)
classes =
    0 ⇒ C.Load ∷
    3 ⇒ C.MiscMem ∷
    4 ⇒ C.OpImm ∷
    5 ⇒ C.Auipc ∷
    6 ⇒ C.OpImm32 ∷
    8 ⇒ C.Store ∷
    11 ⇒ C.Amo ∷
    12 ⇒ C.Op ∷
    13 ⇒ C.Lui ∷
    14 ⇒ C.Op32 ∷
    24 ⇒ C.Branch ∷
    25 ⇒ C.Jalr ∷
    27 ⇒ C.Jal ∷
    28 ⇒ C.System ∷
    []

-- of a table whose rows are the answers
abbrev pub same : {A : Type 0} → A → A
same a = a

abbrev pub class_at : ℕ → Option Class
class_at n = select n classes Some None

-- 01: "The classes of the 32 values of bits 6 to 2 are one table; bits 1 and 0 are both 1"
unfoldable pub class_of : ℕ → Option Class
class_of w = cond (eqb (bits 1 0 w) 3) (class_at (bits 6 2 w)) None

-- the classes numbered in the map's order, from 1; 0 is no class
abbrev pub class_number : Option Class → ℕ
class_number None = 0
class_number (Some C.Load) = 1
class_number (Some C.MiscMem) = 2
class_number (Some C.OpImm) = 3
class_number (Some C.Auipc) = 4
class_number (Some C.OpImm32) = 5
class_number (Some C.Store) = 6
class_number (Some C.Amo) = 7
class_number (Some C.Op) = 8
class_number (Some C.Lui) = 9
class_number (Some C.Op32) = 10
class_number (Some C.Branch) = 11
class_number (Some C.Jalr) = 12
class_number (Some C.Jal) = 13
class_number (Some C.System) = 14

-- LUI, AUIPC, JAL
abbrev pub lui_of : ℕ → Instr
lui_of w = Lui (rd_of w) (imm_u w)

abbrev pub auipc_of : ℕ → Instr
auipc_of w = Auipc (rd_of w) (imm_u w)

abbrev pub jal_of : ℕ → Instr
jal_of w = Jal (rd_of w) (imm_j w)

-- JALR: funct3 0
unfoldable pub jalr_of : ℕ → Instr
jalr_of w = cond (eqb (funct3_of w) 0) (Jalr (rd_of w) (rs1_of w) (imm_i w)) Illegal

-- BRANCH: by funct3
abbrev pub branches : List (Row BranchOp)
branches = 0 ⇒ Eq ∷ 1 ⇒ Ne ∷ 4 ⇒ Lt ∷ 5 ⇒ Ge ∷ 6 ⇒ Ltu ∷ 7 ⇒ Geu ∷ []

abbrev pub branch_as : ℕ → BranchOp → Instr
branch_as w op = Branch op (rs1_of w) (rs2_of w) (imm_b w)

unfoldable pub branch_of : ℕ → Instr
branch_of w = select (funct3_of w) branches (branch_as w) Illegal

-- LOAD: by funct3
abbrev pub loads : List (Row LoadOp)
loads = 0 ⇒ Lb ∷ 1 ⇒ Lh ∷ 2 ⇒ Lw ∷ 3 ⇒ Ld ∷ 4 ⇒ Lbu ∷ 5 ⇒ Lhu ∷ 6 ⇒ Lwu ∷ []

abbrev pub load_as : ℕ → LoadOp → Instr
load_as w op = Load op (rd_of w) (rs1_of w) (imm_i w)

unfoldable pub load_of : ℕ → Instr
load_of w = select (funct3_of w) loads (load_as w) Illegal

-- STORE: by funct3
abbrev pub stores : List (Row StoreOp)
stores = 0 ⇒ Sb ∷ 1 ⇒ Sh ∷ 2 ⇒ Sw ∷ 3 ⇒ Sd ∷ []

abbrev pub store_as : ℕ → StoreOp → Instr
store_as w op = Store op (rs1_of w) (rs2_of w) (imm_s w)

unfoldable pub store_of : ℕ → Instr
store_of w = select (funct3_of w) stores (store_as w) Illegal

-- a table's number for funct7 or funct6 and, below it, the 3 bits of funct3
abbrev pub key : ℕ → ℕ → ℕ
key funct f3 = funct * 8 + f3

-- the shifts by an immediate of 6 bits: by funct6 and funct3
abbrev pub shifts : List (Row AluOp)
shifts = key 0 1 ⇒ Sll ∷ key 0 5 ⇒ Srl ∷ key 0x10 5 ⇒ Sra ∷ []

abbrev pub shift_as : ℕ → AluOp → Instr
shift_as w op = OpImm op (rd_of w) (rs1_of w) (bits 25 20 w)

unfoldable pub shift_of : ℕ → Instr
shift_of w = select (key (funct6_of w) (funct3_of w)) shifts (shift_as w) Illegal

abbrev pub op_imm_as : AluOp → ℕ → Instr
op_imm_as op w = OpImm op (rd_of w) (rs1_of w) (imm_i w)

-- OP-IMM: by funct3
abbrev pub op_imms : List (Row (ℕ → Instr))
op_imms =
    0 ⇒ op_imm_as Add ∷
    1 ⇒ shift_of ∷
    2 ⇒ op_imm_as Slt ∷
    3 ⇒ op_imm_as Sltu ∷
    4 ⇒ op_imm_as Xor ∷
    5 ⇒ shift_of ∷
    6 ⇒ op_imm_as Or ∷
    7 ⇒ op_imm_as And ∷
    []

-- a row's definition, of w
abbrev pub of : ℕ → (ℕ → Instr) → Instr
of w f = f w

unfoldable pub op_imm_of : ℕ → Instr
op_imm_of w = select (funct3_of w) op_imms (of w) Illegal

-- the shifts by an immediate of 5 bits: by funct7 and funct3
abbrev pub shifts32 : List (Row AluOp)
shifts32 = key 0 1 ⇒ Sll ∷ key 0 5 ⇒ Srl ∷ key 0x20 5 ⇒ Sra ∷ []

abbrev pub shift32_as : ℕ → AluOp → Instr
shift32_as w op = OpImm32 op (rd_of w) (rs1_of w) (bits 24 20 w)

unfoldable pub shift32_of : ℕ → Instr
shift32_of w = select (key (funct7_of w) (funct3_of w)) shifts32 (shift32_as w) Illegal

-- OP-IMM-32: funct3 0 is ADDIW, all else a shift
unfoldable pub op_imm32_of : ℕ → Instr
op_imm32_of w = cond (eqb (funct3_of w) 0) (OpImm32 Add (rd_of w) (rs1_of w) (imm_i w)) (shift32_of w)

-- OP: by funct7 and funct3
abbrev pub ops : List (Row AluOp)
ops =
    key 0 0 ⇒ Add ∷
    key 0 1 ⇒ Sll ∷
    key 0 2 ⇒ Slt ∷
    key 0 3 ⇒ Sltu ∷
    key 0 4 ⇒ Xor ∷
    key 0 5 ⇒ Srl ∷
    key 0 6 ⇒ Or ∷
    key 0 7 ⇒ And ∷
    key 0x20 0 ⇒ Sub ∷
    key 0x20 5 ⇒ Sra ∷
    []

abbrev pub op_as : ℕ → AluOp → Instr
op_as w op = Op op (rd_of w) (rs1_of w) (rs2_of w)

unfoldable pub op_of : ℕ → Instr
op_of w = select (key (funct7_of w) (funct3_of w)) ops (op_as w) Illegal

-- OP-32: by funct7 and funct3
abbrev pub ops32 : List (Row AluOp)
ops32 =
    key 0 0 ⇒ Add ∷
    key 0 1 ⇒ Sll ∷
    key 0 5 ⇒ Srl ∷
    key 0x20 0 ⇒ Sub ∷
    key 0x20 5 ⇒ Sra ∷
    []

abbrev pub op32_as : ℕ → AluOp → Instr
op32_as w op = Op32 op (rd_of w) (rs1_of w) (rs2_of w)

unfoldable pub op32_of : ℕ → Instr
op32_of w = select (key (funct7_of w) (funct3_of w)) ops32 (op32_as w) Illegal

-- 01: "MISC-MEM with funct3 0 is FENCE, whatever its other fields"; funct3 1 is FENCE.I, which 01 leaves out
unfoldable pub misc_mem_of : ℕ → Instr
misc_mem_of w = cond (eqb (funct3_of w) 0) (Fence (rd_of w) (rs1_of w) (bits 31 20 w)) Illegal

-- SYSTEM: two whole words, 01: "ECALL (0x00000073), EBREAK (0x00100073)"; the CSR instructions, which 01 leaves out, are the rest
abbrev pub systems : List (Row Instr)
systems = 0x00000073 ⇒ Ecall ∷ 0x00100073 ⇒ Ebreak ∷ []

unfoldable pub system_of : ℕ → Instr
system_of w = select w systems same Illegal

-- AMO: 01: "an atomic one carries its own operation with width and both ordering bits". aq is bit 26 and rl bit 25; every combination is
-- legal.
abbrev pub atomic_as : ℕ → AtomicOp → Width → Instr
atomic_as w op width =
    Amo (record { op = op; width = width; aq = eqb (bits 26 26 w) 1; rl = eqb (bits 25 25 w) 1; rd = rd_of w; rs1 = rs1_of w; rs2 = rs2_of w })

-- 01: "funct3 2 (W), 3 (D)"
abbrev pub widths : List (Row Width)
widths = 2 ⇒ Word ∷ 3 ⇒ Double ∷ []

-- an operation that has both widths
unfoldable pub sized_of : AtomicOp → ℕ → Instr
sized_of op w = select (funct3_of w) widths (atomic_as w op) Illegal

-- 01: "LR with rs2 not 0 and AMOCAS.Q with an odd rd or rs2 are cause 2"
unfoldable pub lr_of : ℕ → Instr
lr_of w = cond (eqb (rs2_of w) 0) (sized_of Lr w) Illegal

abbrev pub is_even : ℕ → Bool
is_even n = eqb (n % 2) 0

unfoldable pub cas_pair_of : ℕ → Instr
cas_pair_of w = cond (is_even (rd_of w) && is_even (rs2_of w)) (atomic_as w CasPair Double) Illegal

-- 01: "4 (Q, AMOCAS only)"
unfoldable pub cas_of : ℕ → Instr
cas_of w = cond (eqb (funct3_of w) 4) (cas_pair_of w) (sized_of Cas w)

-- 01: "funct5: 0 add, 1 swap, 2 LR, 3 SC, 4 xor, 5 CAS, 8 or, 12 and, 16 min, 20 max, 24 minu, 28 maxu"
abbrev pub atomics : List (Row (ℕ → Instr))
atomics =
    0 ⇒ sized_of (Rmw A.Add) ∷
    1 ⇒ sized_of (Rmw A.Swap) ∷
    2 ⇒ lr_of ∷
    3 ⇒ sized_of Sc ∷
    4 ⇒ sized_of (Rmw A.Xor) ∷
    5 ⇒ cas_of ∷
    8 ⇒ sized_of (Rmw A.Or) ∷
    12 ⇒ sized_of (Rmw A.And) ∷
    16 ⇒ sized_of (Rmw A.Min) ∷
    20 ⇒ sized_of (Rmw A.Max) ∷
    24 ⇒ sized_of (Rmw A.Minu) ∷
    28 ⇒ sized_of (Rmw A.Maxu) ∷
    []

unfoldable pub atomic_of : ℕ → Instr
atomic_of w = select (funct5_of w) atomics (of w) Illegal

-- The word by its class.
abbrev pub in_class : Option Class → ℕ → Instr
in_class None w = Illegal
in_class (Some C.Load) w = load_of w
in_class (Some C.MiscMem) w = misc_mem_of w
in_class (Some C.OpImm) w = op_imm_of w
in_class (Some C.Auipc) w = auipc_of w
in_class (Some C.OpImm32) w = op_imm32_of w
in_class (Some C.Store) w = store_of w
in_class (Some C.Amo) w = atomic_of w
in_class (Some C.Op) w = op_of w
in_class (Some C.Lui) w = lui_of w
in_class (Some C.Op32) w = op32_of w
in_class (Some C.Branch) w = branch_of w
in_class (Some C.Jalr) w = jalr_of w
in_class (Some C.Jal) w = jal_of w
in_class (Some C.System) w = system_of w

unfoldable pub decode_of : ℕ → Instr
decode_of w = in_class (class_of w) w
