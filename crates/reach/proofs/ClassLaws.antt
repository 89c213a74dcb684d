-- What the code takes from a word's class is what its instruction has, unless the word always traps. Assumes nothing.
use mathlib.Core.Path.{◌≡◌, refl, ap}
use mathlib.Core.Bool.{◌&&◌}
use Prim.Native.Nat.{ℕ}
use lib.Dec.{eqb}
use Rattle.std.specs.Prelude.{Option, Some, None}
use Rattle.word.proofs.ChooseLaws.{cond_all, select_rows, select_all, ◌also◌}
use Rattle.isa.specs.Fields.{bits, rd_of, rs1_of, rs2_of, funct3_of, funct5_of, funct6_of, funct7_of, imm_i}
use Rattle.isa.specs.Decode as D
use Rattle.isa.specs.declared.class.Class.{Class}
use Rattle.isa.specs.declared.class.Class.TheVariants as C
use Rattle.isa.specs.Narrow.{decode_at}
use Rattle.isa.proofs.NarrowLaws.{at_width}
use Rattle.isa.specs.declared.AluOp.TheVariants.{Add}
use Rattle.isa.specs.declared.AtomicOp.{AtomicOp}
use Rattle.isa.specs.declared.AtomicOp.TheVariants.{Lr, Sc, Cas, CasPair}
use Rattle.isa.specs.declared.Width.TheVariants.{Double}
use Rattle.isa.specs.declared.Instr.{Instr}
use Rattle.isa.specs.declared.Instr.TheVariants.{Illegal, Lui, Auipc, Jal, Jalr, Branch, Load, Store, OpImm, OpImm32, Op, Op32, Fence, Ecall, Ebreak, Amo}
use Rattle.reach.specs.Rd.{shown_rd}
use Rattle.reach.specs.Reach.{writes_at, reach_by, reach_in}
use Rattle.reach.specs.declared.Reach.{Reach}

-- what c says of an instruction where registers have xlen bits; nothing is asked of what always traps
abbrev pub Shows : ℕ → Reach → (ℕ → ℕ) → Instr → Type 0
Shows xlen c x Illegal = Unit {0}
Shows xlen c x Ecall = Unit {0}
Shows xlen c x Ebreak = Unit {0}
Shows xlen c x (Lui rd imm) = c ≡ record { rd = shown_rd (Lui rd imm); at = writes_at xlen (Lui rd imm) x }
Shows xlen c x (Auipc rd imm) = c ≡ record { rd = shown_rd (Auipc rd imm); at = writes_at xlen (Auipc rd imm) x }
Shows xlen c x (Jal rd imm) = c ≡ record { rd = shown_rd (Jal rd imm); at = writes_at xlen (Jal rd imm) x }
Shows xlen c x (Jalr rd rs1 imm) = c ≡ record { rd = shown_rd (Jalr rd rs1 imm); at = writes_at xlen (Jalr rd rs1 imm) x }
Shows xlen c x (Branch op rs1 rs2 imm) = c ≡ record { rd = shown_rd (Branch op rs1 rs2 imm); at = writes_at xlen (Branch op rs1 rs2 imm) x }
Shows xlen c x (Load op rd rs1 imm) = c ≡ record { rd = shown_rd (Load op rd rs1 imm); at = writes_at xlen (Load op rd rs1 imm) x }
Shows xlen c x (Store op rs1 rs2 imm) = c ≡ record { rd = shown_rd (Store op rs1 rs2 imm); at = writes_at xlen (Store op rs1 rs2 imm) x }
Shows xlen c x (OpImm op rd rs1 imm) = c ≡ record { rd = shown_rd (OpImm op rd rs1 imm); at = writes_at xlen (OpImm op rd rs1 imm) x }
Shows xlen c x (OpImm32 op rd rs1 imm) = c ≡ record { rd = shown_rd (OpImm32 op rd rs1 imm); at = writes_at xlen (OpImm32 op rd rs1 imm) x }
Shows xlen c x (Op op rd rs1 rs2) = c ≡ record { rd = shown_rd (Op op rd rs1 rs2); at = writes_at xlen (Op op rd rs1 rs2) x }
Shows xlen c x (Op32 op rd rs1 rs2) = c ≡ record { rd = shown_rd (Op32 op rd rs1 rs2); at = writes_at xlen (Op32 op rd rs1 rs2) x }
Shows xlen c x (Fence rd rs1 imm) = c ≡ record { rd = shown_rd (Fence rd rs1 imm); at = writes_at xlen (Fence rd rs1 imm) x }
Shows xlen c x (Amo m) = c ≡ record { rd = shown_rd (Amo m); at = writes_at xlen (Amo m) x }

module _ (xlen w : ℕ) (x : ℕ → ℕ) where
  abbrev c : Reach
  c = reach_in xlen w x

  abbrev P : Instr → Type 0
  P = Shows xlen c x

  -- what the code has for a class
  at_class : (k : Option Class) → D.class_of w ≡ k → c ≡ reach_by xlen k w x
  unfolding reach_in
  at_class k e = ap (λ (q : Option Class). reach_by xlen q w x) e

  -- most instructions: their rd, and no memory
  abbrev Plain : Type 0
  Plain = c ≡ record { rd = rd_of w; at = 0 }

  abbrev Atomic : Type 0
  Atomic = c ≡ record { rd = rd_of w; at = x (rs1_of w) }

  loads : Plain → P (D.load_of w)
  unfolding D.load_of shown_rd writes_at
  loads e = select_all P (funct3_of w) D.loads (D.load_as w) Illegal (λ op. e) tt

  shifts : Plain → P (D.shift_of w)
  unfolding D.shift_of shown_rd writes_at
  shifts e = select_all P (D.key (funct6_of w) (funct3_of w)) D.shifts (D.shift_as w) Illegal (λ op. e) tt

  op_imms_lem : Plain → P (D.op_imm_of w)
  unfolding D.op_imm_of shown_rd writes_at
  op_imms_lem e =
      select_rows P (funct3_of w) D.op_imms (D.of w) Illegal
      (e also shifts e also e also e also e also shifts e also e also e also tt) tt

  shifts_32 : Plain → P (D.shift32_of w)
  unfolding D.shift32_of shown_rd writes_at
  shifts_32 e = select_all P (D.key (funct7_of w) (funct3_of w)) D.shifts32 (D.shift32_as w) Illegal (λ op. e) tt

  op_imms_32 : Plain → P (D.op_imm32_of w)
  unfolding D.op_imm32_of shown_rd writes_at
  op_imms_32 e = cond_all P (eqb (funct3_of w) 0) (OpImm32 Add (rd_of w) (rs1_of w) (imm_i w)) (D.shift32_of w) e (shifts_32 e)

  ops : Plain → P (D.op_of w)
  unfolding D.op_of shown_rd writes_at
  ops e = select_all P (D.key (funct7_of w) (funct3_of w)) D.ops (D.op_as w) Illegal (λ op. e) tt

  ops_32 : Plain → P (D.op32_of w)
  unfolding D.op32_of shown_rd writes_at
  ops_32 e = select_all P (D.key (funct7_of w) (funct3_of w)) D.ops32 (D.op32_as w) Illegal (λ op. e) tt

  jalrs : Plain → P (D.jalr_of w)
  unfolding D.jalr_of shown_rd writes_at
  jalrs e = cond_all P (eqb (funct3_of w) 0) (Jalr (rd_of w) (rs1_of w) (imm_i w)) Illegal e tt

  stores : D.class_of w ≡ Some C.Store → P (D.store_of w)
  unfolding D.store_of shown_rd writes_at
  stores e = select_all P (funct3_of w) D.stores (D.store_as w) Illegal (λ op. at_class _ e) tt

  branches : D.class_of w ≡ Some C.Branch → P (D.branch_of w)
  unfolding D.branch_of shown_rd writes_at
  branches e = select_all P (funct3_of w) D.branches (D.branch_as w) Illegal (λ op. at_class _ e) tt

  fences : D.class_of w ≡ Some C.MiscMem → P (D.misc_mem_of w)
  unfolding D.misc_mem_of shown_rd writes_at
  fences e = cond_all P (eqb (funct3_of w) 0) (Fence (rd_of w) (rs1_of w) (bits 31 20 w)) Illegal (at_class _ e) tt

  systems : P (D.system_of w)
  unfolding D.system_of
  systems = select_rows P w D.systems D.same Illegal (tt also tt also tt) tt

  sized : Atomic → (a : AtomicOp) → P (D.sized_of a w)
  unfolding D.sized_of shown_rd writes_at
  sized e a = select_all P (funct3_of w) D.widths (D.atomic_as w a) Illegal (λ width. e) tt

  lrs : Atomic → P (D.lr_of w)
  unfolding D.lr_of
  lrs e = cond_all P (eqb (rs2_of w) 0) (D.sized_of Lr w) Illegal (sized e Lr) tt

  cas_pairs : Atomic → P (D.cas_pair_of w)
  unfolding D.cas_pair_of shown_rd writes_at
  cas_pairs e = cond_all P (D.is_even (rd_of w) && D.is_even (rs2_of w)) (D.atomic_as w CasPair Double) Illegal e tt

  cases : Atomic → P (D.cas_of w)
  unfolding D.cas_of
  cases e = cond_all P (eqb (funct3_of w) 4) (D.cas_pair_of w) (D.sized_of Cas w) (cas_pairs e) (sized e Cas)

  atomics : Atomic → P (D.atomic_of w)
  unfolding D.atomic_of
  atomics e =
      select_rows P (funct5_of w) D.atomics (D.of w) Illegal
      (sized e _ also sized e _ also lrs e also sized e Sc also sized e _ also cases e also sized e _
      also sized e _ also sized e _ also sized e _ also sized e _ also sized e _ also tt)
      tt

  by_class : (k : Option Class) → D.class_of w ≡ k → P (D.in_class k w)
  unfolding shown_rd writes_at
  by_class None e = tt
  by_class (Some C.Load) e = loads (at_class _ e)
  by_class (Some C.MiscMem) e = fences e
  by_class (Some C.OpImm) e = op_imms_lem (at_class _ e)
  by_class (Some C.Auipc) e = at_class _ e
  by_class (Some C.OpImm32) e = op_imms_32 (at_class _ e)
  by_class (Some C.Store) e = stores e
  by_class (Some C.Amo) e = atomics (at_class _ e)
  by_class (Some C.Op) e = ops (at_class _ e)
  by_class (Some C.Lui) e = at_class _ e
  by_class (Some C.Op32) e = ops_32 (at_class _ e)
  by_class (Some C.Branch) e = branches e
  by_class (Some C.Jalr) e = jalrs (at_class _ e)
  by_class (Some C.Jal) e = at_class _ e
  by_class (Some C.System) e = systems

  shows_64 : P (D.decode_of w)
  unfolding D.decode_of
  shows_64 = by_class (D.class_of w) refl

  -- narrowed, it has the same rd and address, or it traps
  pub shows : Shows xlen (reach_in xlen w x) x (decode_at xlen w)
  unfolding shown_rd writes_at
  shows = at_width P tt (λ a e. e) xlen w shows_64
