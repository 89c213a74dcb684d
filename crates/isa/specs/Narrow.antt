-- What a word is where registers have xlen bits: at 64 what `decode_of` says; at 32 what RV32I, A and Zacas have of it. The formats of RV32I are those of
-- RV64I, so that its tables are told by what they lack of `decode_of`'s.
-- RULES 4.1.6.
use Rattle.std.specs.Prelude.{ℕ, Bool, true, false, cond, not, ◌&&◌, eqb, leb}
use Rattle.isa.specs.Decode.{is_even, decode_of}
use Rattle.isa.specs.declared.LoadOp.{LoadOp}
use Rattle.isa.specs.declared.LoadOp.TheVariants.{Lb, Lh, Lw, Ld, Lbu, Lhu, Lwu}
use Rattle.isa.specs.declared.StoreOp.{StoreOp}
use Rattle.isa.specs.declared.StoreOp.TheVariants.{Sb, Sh, Sw, Sd}
use Rattle.isa.specs.declared.AluOp.{AluOp}
use Rattle.isa.specs.declared.AluOp.TheVariants.{Add, Sub, Sll, Slt, Sltu, Xor, Srl, Sra, Or, And}
use Rattle.isa.specs.declared.AtomicOp.{AtomicOp}
use Rattle.isa.specs.declared.AtomicOp.TheVariants.{Lr, Sc, Cas, CasPair, Rmw}
use Rattle.isa.specs.declared.Width.{Width}
use Rattle.isa.specs.declared.Width.TheVariants.{Word, Double}
use Rattle.isa.specs.declared.Atomic.{Atomic}
use Rattle.isa.specs.declared.Instr.{Instr}
use Rattle.isa.specs.declared.Instr.TheVariants.{Illegal, Lui, Auipc, Jal, Jalr, Branch, Load, Store}
use Rattle.isa.specs.declared.Instr.TheVariants.{OpImm, OpImm32, Op, Op32, Fence, Ecall, Ebreak, Amo}

-- i, if RV32I has it
abbrev pub if_kept : Bool → Instr → Instr
if_kept kept i = cond kept i Illegal

-- RV32I has LB, LH, LW, LBU, LHU, SB, SH and SW; LD, LWU and SD are RV64I's
abbrev pub kept_load : LoadOp → Bool
kept_load Lb = true
kept_load Lh = true
kept_load Lw = true
kept_load Ld = false
kept_load Lbu = true
kept_load Lhu = true
kept_load Lwu = false

abbrev pub kept_store : StoreOp → Bool
kept_store Sb = true
kept_store Sh = true
kept_store Sw = true
kept_store Sd = false

-- by imm: RV32I's shift amounts have 5 bits, and where RV64I has the sixth, its funct7 has a 0. Other operations take any immediate
abbrev pub kept_imm : AluOp → ℕ → Bool
kept_imm Add imm = true
kept_imm Sub imm = true
kept_imm Sll imm = leb imm 31
kept_imm Slt imm = true
kept_imm Sltu imm = true
kept_imm Xor imm = true
kept_imm Srl imm = leb imm 31
kept_imm Sra imm = leb imm 31
kept_imm Or imm = true
kept_imm And imm = true

-- 02 [10]: "AMOCAS.D on even pairs by 001's rules": a pair of words. 001: an odd rd or rs2 is reserved
abbrev pub even_pairs : Atomic → Bool
even_pairs a = is_even a.rd && is_even a.rs2

-- the same registers and ordering bits with another operation and width
abbrev pub with_op : AtomicOp → Width → Atomic → Atomic
with_op op width a = record { op = op; width = width; aq = a.aq; rl = a.rl; rd = a.rd; rs1 = a.rs1; rs2 = a.rs2 }

abbrev pub pair_of_words : Atomic → Instr
pair_of_words a = if_kept (even_pairs a) (Amo (with_op CasPair Word a))

-- of width D: "LR.D, SC.D, D AMOs and all Q are cause 2"
abbrev pub narrowed_double : AtomicOp → Atomic → Instr
narrowed_double Lr a = Illegal
narrowed_double Sc a = Illegal
narrowed_double Cas a = pair_of_words a
narrowed_double CasPair a = Illegal
narrowed_double (Rmw op) a = Illegal

-- 02 [10]: "LR.W and SC.W, the W AMOs, AMOCAS.W" are as they were
abbrev pub narrowed_atomic : Width → Atomic → Instr
narrowed_atomic Word a = Amo a
narrowed_atomic Double a = narrowed_double a.op a

-- what RV32I, A and Zacas have of an instruction: OP-32 and OP-IMM-32 are RV64I's
unfoldable pub narrowed : Instr → Instr
narrowed Illegal = Illegal
narrowed (Lui rd imm) = Lui rd imm
narrowed (Auipc rd imm) = Auipc rd imm
narrowed (Jal rd imm) = Jal rd imm
narrowed (Jalr rd rs1 imm) = Jalr rd rs1 imm
narrowed (Branch op rs1 rs2 imm) = Branch op rs1 rs2 imm
narrowed (Load op rd rs1 imm) = if_kept (kept_load op) (Load op rd rs1 imm)
narrowed (Store op rs1 rs2 imm) = if_kept (kept_store op) (Store op rs1 rs2 imm)
narrowed (OpImm op rd rs1 imm) = if_kept (kept_imm op imm) (OpImm op rd rs1 imm)
narrowed (OpImm32 op rd rs1 imm) = Illegal
narrowed (Op op rd rs1 rs2) = Op op rd rs1 rs2
narrowed (Op32 op rd rs1 rs2) = Illegal
narrowed (Fence rd rs1 imm) = Fence rd rs1 imm
narrowed Ecall = Ecall
narrowed Ebreak = Ebreak
narrowed (Amo a) = narrowed_atomic a.width a

-- what an instruction, and a word, is at a register width of xlen bits
abbrev pub narrowed_at : ℕ → Instr → Instr
narrowed_at xlen i = cond (eqb xlen 32) (narrowed i) i

unfoldable pub decode_at : ℕ → ℕ → Instr
decode_at xlen w = narrowed_at xlen (decode_of w)

-- ---- the same as tests, by which the code narrows

abbrev pub is_double : Width → Bool
is_double Word = false
is_double Double = true

abbrev pub is_cas : AtomicOp → Bool
is_cas Lr = false
is_cas Sc = false
is_cas Cas = true
is_cas CasPair = false
is_cas (Rmw op) = false

-- an atomic instruction becomes a pair of words
abbrev pub pairs : Atomic → Bool
pairs a = is_double a.width && (is_cas a.op && even_pairs a)

-- an instruction isn't kept
abbrev pub lacks : Instr → Bool
lacks Illegal = false
lacks (Lui rd imm) = false
lacks (Auipc rd imm) = false
lacks (Jal rd imm) = false
lacks (Jalr rd rs1 imm) = false
lacks (Branch op rs1 rs2 imm) = false
lacks (Load op rd rs1 imm) = not (kept_load op)
lacks (Store op rs1 rs2 imm) = not (kept_store op)
lacks (OpImm op rd rs1 imm) = not (kept_imm op imm)
lacks (OpImm32 op rd rs1 imm) = true
lacks (Op op rd rs1 rs2) = false
lacks (Op32 op rd rs1 rs2) = true
lacks (Fence rd rs1 imm) = false
lacks Ecall = false
lacks Ebreak = false
lacks (Amo a) = is_double a.width && not (pairs a)

-- what an atomic instruction is, by whether it becomes a pair of words; and what an instruction is that isn't lacked, by whether registers have 32 bits
abbrev pub paired_if : Bool → Atomic → Atomic
paired_if paired a = with_op (cond paired CasPair a.op) (cond paired Word a.width) a

abbrev pub paired_by : Bool → Instr → Instr
paired_by narrow Illegal = Illegal
paired_by narrow (Lui rd imm) = Lui rd imm
paired_by narrow (Auipc rd imm) = Auipc rd imm
paired_by narrow (Jal rd imm) = Jal rd imm
paired_by narrow (Jalr rd rs1 imm) = Jalr rd rs1 imm
paired_by narrow (Branch op rs1 rs2 imm) = Branch op rs1 rs2 imm
paired_by narrow (Load op rd rs1 imm) = Load op rd rs1 imm
paired_by narrow (Store op rs1 rs2 imm) = Store op rs1 rs2 imm
paired_by narrow (OpImm op rd rs1 imm) = OpImm op rd rs1 imm
paired_by narrow (OpImm32 op rd rs1 imm) = OpImm32 op rd rs1 imm
paired_by narrow (Op op rd rs1 rs2) = Op op rd rs1 rs2
paired_by narrow (Op32 op rd rs1 rs2) = Op32 op rd rs1 rs2
paired_by narrow (Fence rd rs1 imm) = Fence rd rs1 imm
paired_by narrow Ecall = Ecall
paired_by narrow Ebreak = Ebreak
paired_by narrow (Amo a) = Amo (paired_if (narrow && pairs a) a)

abbrev pub paired_at : ℕ → Instr → Instr
paired_at xlen i = paired_by (eqb xlen 32) i
