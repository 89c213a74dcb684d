-- The register that a row shows (02 [1]: "rd (two decimal digits), the value in rd afterwards").
use Rattle.std.specs.Prelude.{◌≡◌, ℕ, ◌+◌, ◌<◌}
use Rattle.isa.specs.declared.Instr.{Instr}
use Rattle.isa.specs.declared.Instr.TheVariants.{Illegal, Lui, Auipc, Jal, Jalr, Branch, Load, Store, OpImm, OpImm32, Op, Op32, Fence, Ecall, Ebreak, Amo}
use Rattle.effect.specs.Effect.{Writes, none, one, pair}

-- 02 [1]: "rd is 00 and its value zero where the word has no rd, as FENCE." Branches and stores have none either, nor has what always traps.
-- "The second register of a pair isn't in the row": of a pair it is the first
unfoldable pub shown_rd : Instr → ℕ
shown_rd (Lui rd imm) = rd
shown_rd (Auipc rd imm) = rd
shown_rd (Jal rd imm) = rd
shown_rd (Jalr rd rs1 imm) = rd
shown_rd (Load op rd rs1 imm) = rd
shown_rd (OpImm op rd rs1 imm) = rd
shown_rd (OpImm32 op rd rs1 imm) = rd
shown_rd (Op op rd rs1 rs2) = rd
shown_rd (Op32 op rd rs1 rs2) = rd
shown_rd (Amo m) = m.rd
shown_rd (Fence rd rs1 imm) = 0
shown_rd (Branch op rs1 rs2 imm) = 0
shown_rd (Store op rs1 rs2 imm) = 0
shown_rd Illegal = 0
shown_rd Ecall = 0
shown_rd Ebreak = 0

-- The same in terms of what a step does: d is the register that it sets, of a pair the first (the second is the next one); 0 where it sets none.
-- reach/proofs/ReachLaws: reaches says that the register shown is this one, for every instruction.
abbrev pub SetsRd : ℕ → Writes → Type 0
SetsRd d none = d ≡ 0
SetsRd d (one r v) = r ≡ d
SetsRd d (pair r v r2 v2) = (r ≡ d) × (r < 32) × (r2 ≡ r + 1)
