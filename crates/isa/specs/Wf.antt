-- What holds of every decoded word.
use Rattle.std.specs.Prelude.{◌≡◌, ℕ, ◌%◌, ◌^◌, ◌<◌}
use Rattle.isa.specs.declared.AtomicOp.{AtomicOp}
use Rattle.isa.specs.declared.AtomicOp.TheVariants.{Lr, Sc, Cas, CasPair, Rmw}
use Rattle.isa.specs.declared.Width.{Width}
use Rattle.isa.specs.declared.Width.TheVariants.{Double}
use Rattle.isa.specs.declared.Instr.{Instr}
use Rattle.isa.specs.declared.Instr.TheVariants.{Illegal, Lui, Auipc, Jal, Jalr, Branch, Load, Store}
use Rattle.isa.specs.declared.Instr.TheVariants.{OpImm, OpImm32, Op, Op32, Fence, Ecall, Ebreak, Amo}

-- its register numbers are below 32
abbrev pub Regs : Instr → Type 0
Regs Illegal = Unit {0}
Regs (Lui rd imm) = rd < 32
Regs (Auipc rd imm) = rd < 32
Regs (Jal rd imm) = rd < 32
Regs (Jalr rd rs1 imm) = (rd < 32) × (rs1 < 32)
Regs (Branch op rs1 rs2 imm) = (rs1 < 32) × (rs2 < 32)
Regs (Load op rd rs1 imm) = (rd < 32) × (rs1 < 32)
Regs (Store op rs1 rs2 imm) = (rs1 < 32) × (rs2 < 32)
Regs (OpImm op rd rs1 imm) = (rd < 32) × (rs1 < 32)
Regs (OpImm32 op rd rs1 imm) = (rd < 32) × (rs1 < 32)
Regs (Op op rd rs1 rs2) = (rd < 32) × (rs1 < 32) × (rs2 < 32)
Regs (Op32 op rd rs1 rs2) = (rd < 32) × (rs1 < 32) × (rs2 < 32)
Regs (Fence rd rs1 imm) = (rd < 32) × (rs1 < 32)
Regs Ecall = Unit {0}
Regs Ebreak = Unit {0}
Regs (Amo a) = (a.rd < 32) × (a.rs1 < 32) × (a.rs2 < 32)

-- its immediate is a number of 64 bits, and that of a jump or a branch even
abbrev pub Imms : Instr → Type 0
Imms Illegal = Unit {0}
Imms (Lui rd imm) = imm < 2 ^ 64
Imms (Auipc rd imm) = imm < 2 ^ 64
Imms (Jal rd imm) = (imm < 2 ^ 64) × (imm % 2 ≡ 0)
Imms (Jalr rd rs1 imm) = imm < 2 ^ 64
Imms (Branch op rs1 rs2 imm) = (imm < 2 ^ 64) × (imm % 2 ≡ 0)
Imms (Load op rd rs1 imm) = imm < 2 ^ 64
Imms (Store op rs1 rs2 imm) = imm < 2 ^ 64
Imms (OpImm op rd rs1 imm) = imm < 2 ^ 64
Imms (OpImm32 op rd rs1 imm) = imm < 2 ^ 64
Imms (Op op rd rs1 rs2) = Unit {0}
Imms (Op32 op rd rs1 rs2) = Unit {0}
Imms (Fence rd rs1 imm) = imm < 2 ^ 64
Imms Ecall = Unit {0}
Imms Ebreak = Unit {0}
Imms (Amo a) = Unit {0}

-- an AMOCAS.Q moves doublewords and names two even registers; said of what decode_of gives, the 64-bit core's instructions
abbrev pub Pair : AtomicOp → Width → ℕ → ℕ → Type 0
Pair Lr width rd rs2 = Unit {0}
Pair Sc width rd rs2 = Unit {0}
Pair Cas width rd rs2 = Unit {0}
Pair CasPair width rd rs2 = (width ≡ Double) × (rd % 2 ≡ 0) × (rs2 % 2 ≡ 0)
Pair (Rmw op) width rd rs2 = Unit {0}

abbrev pub Pairs : Instr → Type 0
Pairs Illegal = Unit {0}
Pairs (Lui rd imm) = Unit {0}
Pairs (Auipc rd imm) = Unit {0}
Pairs (Jal rd imm) = Unit {0}
Pairs (Jalr rd rs1 imm) = Unit {0}
Pairs (Branch op rs1 rs2 imm) = Unit {0}
Pairs (Load op rd rs1 imm) = Unit {0}
Pairs (Store op rs1 rs2 imm) = Unit {0}
Pairs (OpImm op rd rs1 imm) = Unit {0}
Pairs (OpImm32 op rd rs1 imm) = Unit {0}
Pairs (Op op rd rs1 rs2) = Unit {0}
Pairs (Op32 op rd rs1 rs2) = Unit {0}
Pairs (Fence rd rs1 imm) = Unit {0}
Pairs Ecall = Unit {0}
Pairs Ebreak = Unit {0}
Pairs (Amo a) = Pair a.op a.width a.rd a.rs2
