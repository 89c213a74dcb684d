-- Integer operations, jumps and branches, at a register width of xlen bits.
-- RULES: `computed` 4.1.4; `exec_jump`, `clear_bit0`, `holds_by`, `holds_of`, `exec_branch` 4.3.
use Rattle.std.specs.Prelude.{ℕ, ◌*◌, ◌/◌, ◌%◌, Bool, cond, not, eqb, ltb}
use Rattle.std.specs.Int.Signed.{lt_z}
use Rattle.word.specs.Word.{low, to_int, sign_extend}
use Rattle.alu.specs.Alu.{alu_of}
use Rattle.isa.specs.declared.AluOp.{AluOp}
use Rattle.isa.specs.declared.BranchOp.{BranchOp}
use Rattle.isa.specs.declared.BranchOp.TheVariants.{Eq, Ne, Lt, Ge, Ltu, Geu}
use Rattle.effect.specs.Effect.{Exec, trap, effect, none, one, nothing, next_pc}

module _ (xlen : ℕ) where
  -- the operation at k bits, sign-extended: OP and OP-IMM at xlen, OP-32 and OP-IMM-32 at 32
  unfoldable pub computed : ℕ → AluOp → ℕ → ℕ → ℕ
  computed k op a b = sign_extend xlen k (alu_of op k (low k a) (low k b))

  -- JAL and JALR. 01: cause 0, "JAL, JALR or a taken branch to a target that isn't a multiple of 4", value "target"
  unfoldable pub exec_jump : ℕ → ℕ → ℕ → Exec
  exec_jump rd to pc = cond (eqb (to % 4) 0) (effect (one rd (next_pc xlen pc)) to nothing) (trap 0 to)

  -- the branch is taken, by two numbers of xlen bits
  abbrev pub holds_by : BranchOp → ℕ → ℕ → Bool
  holds_by Eq a b = eqb a b
  holds_by Ne a b = not (eqb a b)
  holds_by Lt a b = lt_z (to_int xlen a) (to_int xlen b)
  holds_by Ge a b = not (lt_z (to_int xlen a) (to_int xlen b))
  holds_by Ltu a b = ltb a b
  holds_by Geu a b = not (ltb a b)

  -- the same by the values of two registers
  unfoldable pub holds_of : BranchOp → ℕ → ℕ → Bool
  holds_of op a b = holds_by op (low xlen a) (low xlen b)

  unfoldable pub exec_branch : Bool → ℕ → ℕ → Exec
  exec_branch taken to pc =
      cond taken (cond (eqb (to % 4) 0) (effect none to nothing) (trap 0 to)) (effect none (next_pc xlen pc) nothing)

-- JALR's target: the manual clears its lowest bit
abbrev pub clear_bit0 : ℕ → ℕ
clear_bit0 to = to / 2 * 2
