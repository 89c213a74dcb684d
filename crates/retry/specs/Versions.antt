-- What tells the loops of A 2.0 from those of A 2.1 (02 [7]).
-- RULES 6.1, 6.2.
use Rattle.std.specs.Prelude.{◌≡◌, ℕ, ◌<◌, List}
use Rattle.isa.specs.declared.Instr.TheVariants.{Jalr}
use Rattle.retry.specs.Reasons.{Stands}

-- "loops with no JALR"
abbrev pub NoJalr : ℕ → List ℕ → Type 0
NoJalr xlen ws = (place rd rs1 imm : ℕ) → Stands xlen ws place (Jalr rd rs1 imm) → ⊥

-- reason 2 at a JALR that isn't the first word: what 2.1 has against a block and 2.0 hasn't
abbrev pub LaterJalr : ℕ → List ℕ → ℕ → ℕ → Type 0
LaterJalr xlen ws place reason = (reason ≡ 2) × (0 < place) × (rd : ℕ) × (rs1 : ℕ) × (imm : ℕ) × Stands xlen ws place (Jalr rd rs1 imm)
