-- The decoder's two tables of 256 entries, and what is decided behind them. Nothing here need be believed: `decode` promises `decode_of`. A place in a
-- table is bits 6 to 2, or funct5, and funct3.
-- 02 [9]: "Replace the decision over bits 6 to 2, funct3 and funct5 by two tables of 256 entries each: one over bits 6 to 2 with funct3, one
-- over funct5 with funct3."
use Rattle.std.specs.Prelude.{ℕ, ◌*◌, Bool, false, cond, ◌&&◌, not, List, [], ◌∷◌, Option, Some, None, eqb}
use Rattle.word.specs.Choose.{Row, ◌⇒◌, select}
use Rattle.isa.specs.Fields.{bits, rd_of, rs1_of, rs2_of, funct3_of, funct5_of, funct6_of, funct7_of, imm_i}
use Rattle.isa.specs.Decode.{class_at, same, loads, load_as, stores, store_as, branches, branch_as, op_as, op32_as, op_imm_as, shift_as, shift32_as}
use Rattle.isa.specs.Decode.{lui_of, auipc_of, jal_of, system_of, widths, atomic_as, is_even}
use Rattle.isa.specs.declared.class.Class.{Class}
use Rattle.isa.specs.declared.class.Class.TheVariants as C
use Rattle.isa.specs.declared.tables.Entry.{Entry}
use Rattle.isa.specs.declared.tables.Entry.TheVariants as E
use Rattle.isa.specs.declared.AluOp.{AluOp}
use Rattle.isa.specs.declared.AluOp.TheVariants.{Add, Sub, Sll, Slt, Sltu, Xor, Srl, Sra, Or, And}
use Rattle.isa.specs.declared.AmoOp.TheVariants as A
use Rattle.isa.specs.declared.AtomicOp.{AtomicOp}
use Rattle.isa.specs.declared.AtomicOp.TheVariants.{Lr, Sc, Cas, CasPair, Rmw}
use Rattle.isa.specs.declared.Width.{Width}
use Rattle.isa.specs.declared.Width.TheVariants.{Double}
use Rattle.isa.specs.declared.Instr.{Instr}
use Rattle.isa.specs.declared.Instr.TheVariants.{Illegal, Jalr, OpImm32, Fence}

-- ---- the first table: over bits 6 to 2 with funct3

-- an entry with an operation for funct7 0 and one for 0x20, or with the first alone
abbrev pub one : (AluOp → Option AluOp → Entry) → AluOp → Entry
one make op = make op None

abbrev pub two : (AluOp → Option AluOp → Entry) → AluOp → AluOp → Entry
two make op other = make op (Some other)

abbrev pub op_imm_entries : List (Row Entry)
op_imm_entries =
    0 ⇒ E.OpImm Add ∷
    1 ⇒ one E.Shift Sll ∷
    2 ⇒ E.OpImm Slt ∷
    3 ⇒ E.OpImm Sltu ∷
    4 ⇒ E.OpImm Xor ∷
    5 ⇒ two E.Shift Srl Sra ∷
    6 ⇒ E.OpImm Or ∷
    7 ⇒ E.OpImm And ∷
    []

abbrev pub op_imm32_entries : List (Row Entry)
op_imm32_entries = 0 ⇒ E.AddImm32 ∷ 1 ⇒ one E.Shift32 Sll ∷ 5 ⇒ two E.Shift32 Srl Sra ∷ []

abbrev pub op_entries : List (Row Entry)
op_entries =
    0 ⇒ two E.Op Add Sub ∷
    1 ⇒ one E.Op Sll ∷
    2 ⇒ one E.Op Slt ∷
    3 ⇒ one E.Op Sltu ∷
    4 ⇒ one E.Op Xor ∷
    5 ⇒ two E.Op Srl Sra ∷
    6 ⇒ one E.Op Or ∷
    7 ⇒ one E.Op And ∷
    []

abbrev pub op32_entries : List (Row Entry)
op32_entries = 0 ⇒ two E.Op32 Add Sub ∷ 1 ⇒ one E.Op32 Sll ∷ 5 ⇒ two E.Op32 Srl Sra ∷ []

-- the entry of a class at a funct3
abbrev pub entry : Option Class → ℕ → Entry
entry None f = E.Illegal
entry (Some C.Load) f = select f loads E.Load E.Illegal
entry (Some C.MiscMem) f = cond (eqb f 0) E.Fence E.Illegal
entry (Some C.OpImm) f = select f op_imm_entries same E.Illegal
entry (Some C.Auipc) f = E.Auipc
entry (Some C.OpImm32) f = select f op_imm32_entries same E.Illegal
entry (Some C.Store) f = select f stores E.Store E.Illegal
entry (Some C.Amo) f = E.Amo
entry (Some C.Op) f = select f op_entries same E.Illegal
entry (Some C.Lui) f = E.Lui
entry (Some C.Op32) f = select f op32_entries same E.Illegal
entry (Some C.Branch) f = select f branches E.Branch E.Illegal
entry (Some C.Jalr) f = cond (eqb f 0) E.Jalr E.Illegal
entry (Some C.Jal) f = E.Jal
entry (Some C.System) f = E.System

-- the rule of the first table: the entry at c, which is bits 6 to 2, and funct3
unfoldable pub opcode_at : ℕ → ℕ → Entry
opcode_at c f = entry (class_at c) f

-- an entry's class
abbrev pub class_in : Entry → Option Class
class_in E.Illegal = None
class_in (E.Load op) = Some C.Load
class_in E.Fence = Some C.MiscMem
class_in (E.OpImm op) = Some C.OpImm
class_in (E.Shift op other) = Some C.OpImm
class_in E.Auipc = Some C.Auipc
class_in E.AddImm32 = Some C.OpImm32
class_in (E.Shift32 op other) = Some C.OpImm32
class_in (E.Store op) = Some C.Store
class_in E.Amo = Some C.Amo
class_in (E.Op op other) = Some C.Op
class_in E.Lui = Some C.Lui
class_in (E.Op32 op other) = Some C.Op32
class_in (E.Branch op) = Some C.Branch
class_in E.Jalr = Some C.Jalr
class_in E.Jal = Some C.Jal
class_in E.System = Some C.System

-- ---- the second table: over funct5 with funct3

abbrev pub sized_entry : AtomicOp → ℕ → Option (AtomicOp × Width)
sized_entry op f = select f widths (λ width. Some (op, width)) None

abbrev pub cas_entry : ℕ → Option (AtomicOp × Width)
cas_entry f = cond (eqb f 4) (Some (CasPair, Double)) (sized_entry Cas f)

abbrev pub atomic_entries : List (Row (ℕ → Option (AtomicOp × Width)))
atomic_entries =
    0 ⇒ sized_entry (Rmw A.Add) ∷
    1 ⇒ sized_entry (Rmw A.Swap) ∷
    2 ⇒ sized_entry Lr ∷
    3 ⇒ sized_entry Sc ∷
    4 ⇒ sized_entry (Rmw A.Xor) ∷
    5 ⇒ cas_entry ∷
    8 ⇒ sized_entry (Rmw A.Or) ∷
    12 ⇒ sized_entry (Rmw A.And) ∷
    16 ⇒ sized_entry (Rmw A.Min) ∷
    20 ⇒ sized_entry (Rmw A.Max) ∷
    24 ⇒ sized_entry (Rmw A.Minu) ∷
    28 ⇒ sized_entry (Rmw A.Maxu) ∷
    []

-- the rule of the second table: the entry at c, which is funct5, and funct3
unfoldable pub atomic_at : ℕ → ℕ → Option (AtomicOp × Width)
atomic_at c f = select c atomic_entries (λ g. g f) None

-- ---- what is decided behind an entry

-- funct7: 0 is the entry's first operation, 0x20 its second
abbrev pub by_funct7 : AluOp → Option AluOp → ℕ → Option AluOp
by_funct7 first second f7 = cond (eqb f7 0) (Some first) (cond (eqb f7 0x20) second None)

-- the instruction of an operation, if there is one
abbrev pub if_some : Option AluOp → (AluOp → Instr) → Instr
if_some None make = Illegal
if_some (Some op) make = make op

-- an LR with rs2 not 0, or an AMOCAS.Q with an odd rd or rs2
abbrev pub refuses : AtomicOp → ℕ → Bool
refuses Lr w = not (eqb (rs2_of w) 0)
refuses Sc w = false
refuses Cas w = false
refuses CasPair w = not (is_even (rd_of w) && is_even (rs2_of w))
refuses (Rmw op) w = false

abbrev pub atomic_by : Option (AtomicOp × Width) → ℕ → Instr
atomic_by None w = Illegal
atomic_by (Some (op, width)) w = cond (refuses op w) Illegal (atomic_as w op width)

abbrev pub atomic_in : ℕ → Instr
atomic_in w = atomic_by (atomic_at (funct5_of w) (funct3_of w)) w

-- a word by its entry of the first table; funct6 with a bit 0 behind it is funct7 where the shift amount has 6 bits
unfoldable pub decide_of : Entry → ℕ → Instr
decide_of E.Illegal w = Illegal
decide_of (E.Load op) w = load_as w op
decide_of E.Fence w = Fence (rd_of w) (rs1_of w) (bits 31 20 w)
decide_of (E.OpImm op) w = op_imm_as op w
decide_of (E.Shift op other) w = if_some (by_funct7 op other (funct6_of w * 2)) (shift_as w)
decide_of E.Auipc w = auipc_of w
decide_of E.AddImm32 w = OpImm32 Add (rd_of w) (rs1_of w) (imm_i w)
decide_of (E.Shift32 op other) w = if_some (by_funct7 op other (funct7_of w)) (shift32_as w)
decide_of (E.Store op) w = store_as w op
decide_of E.Amo w = atomic_in w
decide_of (E.Op op other) w = if_some (by_funct7 op other (funct7_of w)) (op_as w)
decide_of E.Lui w = lui_of w
decide_of (E.Op32 op other) w = if_some (by_funct7 op other (funct7_of w)) (op32_as w)
decide_of (E.Branch op) w = branch_as w op
decide_of E.Jalr w = Jalr (rd_of w) (rs1_of w) (imm_i w)
decide_of E.Jal w = jal_of w
decide_of E.System w = system_of w

-- a word by both tables
unfoldable pub by_tables : ℕ → Instr
by_tables w = cond (eqb (bits 1 0 w) 3) (decide_of (opcode_at (bits 6 2 w) (funct3_of w)) w) Illegal
