-- The class of a word and the kind of its instruction agree, so what the checker sees by the table of classes is what the definition sees. Assumes
-- nothing.
use Rattle.std.proofs.Common.{◌≡◌, ℕ, Bool, true, false, cond, ◌&&◌, eqb, Option, Some, None, sym, refl, ap, ◌∙◌}
use Rattle.word.proofs.TestLaws.{bool_cases}
use Rattle.word.proofs.ChooseLaws.{cond_all, select_rows, select_all}
use Rattle.settings.specs.Settings.{jalr_permitted}
use Rattle.settings.specs.declared.Settings.{Settings}
use Rattle.isa.specs.Fields.{bits, rd_of, rs1_of, rs2_of, funct3_of, funct5_of, funct6_of, funct7_of, imm_i}
use Rattle.isa.specs.Decode as D
use Rattle.isa.specs.declared.class.Class.{Class}
use Rattle.isa.specs.declared.class.Class.TheVariants as C
use Rattle.isa.specs.Narrow.{decode_at}
use Rattle.isa.specs.declared.AluOp.TheVariants.{Add}
use Rattle.isa.specs.declared.AtomicOp.{AtomicOp}
use Rattle.isa.specs.declared.AtomicOp.TheVariants as A
use Rattle.isa.specs.declared.Width.TheVariants.{Double}
use Rattle.isa.specs.declared.Instr.{Instr}
use Rattle.isa.specs.declared.Instr.TheVariants as I
use Rattle.isa.proofs.NarrowLaws.{at_width}
use Rattle.retry.specs.Loop.{view_of, fields_of, looked_at}
use Rattle.retry.specs.declared.View.TheVariants.{Other}

-- words of class c decode to this instruction, or to none
abbrev pub InClass : Option Class → Instr → Type 0
InClass c I.Illegal = Unit {0}
InClass c (I.Lui rd imm) = c ≡ Some C.Lui
InClass c (I.Auipc rd imm) = c ≡ Some C.Auipc
InClass c (I.Jal rd imm) = c ≡ Some C.Jal
InClass c (I.Jalr rd rs1 imm) = c ≡ Some C.Jalr
InClass c (I.Branch op rs1 rs2 imm) = c ≡ Some C.Branch
InClass c (I.Load op rd rs1 imm) = c ≡ Some C.Load
InClass c (I.Store op rs1 rs2 imm) = c ≡ Some C.Store
InClass c (I.OpImm op rd rs1 imm) = c ≡ Some C.OpImm
InClass c (I.OpImm32 op rd rs1 imm) = c ≡ Some C.OpImm32
InClass c (I.Op op rd rs1 rs2) = c ≡ Some C.Op
InClass c (I.Op32 op rd rs1 rs2) = c ≡ Some C.Op32
InClass c (I.Fence rd rs1 imm) = c ≡ Some C.MiscMem
InClass c I.Ecall = c ≡ Some C.System
InClass c I.Ebreak = c ≡ Some C.System
InClass c (I.Amo a) = c ≡ Some C.Amo

module _ (c : Option Class) (w : ℕ) where
  from_load : c ≡ Some C.Load → InClass c (D.load_of w)
  unfolding D.load_of
  from_load e = select_all (InClass c) (funct3_of w) D.loads (D.load_as w) I.Illegal (λ op. e) tt

  from_misc_mem : c ≡ Some C.MiscMem → InClass c (D.misc_mem_of w)
  unfolding D.misc_mem_of
  from_misc_mem e = cond_all (InClass c) (eqb (funct3_of w) 0) (I.Fence (rd_of w) (rs1_of w) (bits 31 20 w)) I.Illegal e tt

  from_shift : c ≡ Some C.OpImm → InClass c (D.shift_of w)
  unfolding D.shift_of
  from_shift e = select_all (InClass c) (D.key (funct6_of w) (funct3_of w)) D.shifts (D.shift_as w) I.Illegal (λ op. e) tt

  from_op_imm : c ≡ Some C.OpImm → InClass c (D.op_imm_of w)
  unfolding D.op_imm_of
  from_op_imm e =
      let s = from_shift e in
      select_rows (InClass c) (funct3_of w) D.op_imms (D.of w) I.Illegal (e, (s, (e, (e, (e, (s, (e, (e, tt)))))))) tt

  from_shift_32 : c ≡ Some C.OpImm32 → InClass c (D.shift32_of w)
  unfolding D.shift32_of
  from_shift_32 e = select_all (InClass c) (D.key (funct7_of w) (funct3_of w)) D.shifts32 (D.shift32_as w) I.Illegal (λ op. e) tt

  from_op_imm_32 : c ≡ Some C.OpImm32 → InClass c (D.op_imm32_of w)
  unfolding D.op_imm32_of
  from_op_imm_32 e =
      cond_all (InClass c) (eqb (funct3_of w) 0) (I.OpImm32 Add (rd_of w) (rs1_of w) (imm_i w)) (D.shift32_of w) e (from_shift_32 e)

  from_store : c ≡ Some C.Store → InClass c (D.store_of w)
  unfolding D.store_of
  from_store e = select_all (InClass c) (funct3_of w) D.stores (D.store_as w) I.Illegal (λ op. e) tt

  from_op : c ≡ Some C.Op → InClass c (D.op_of w)
  unfolding D.op_of
  from_op e = select_all (InClass c) (D.key (funct7_of w) (funct3_of w)) D.ops (D.op_as w) I.Illegal (λ op. e) tt

  from_op_32 : c ≡ Some C.Op32 → InClass c (D.op32_of w)
  unfolding D.op32_of
  from_op_32 e = select_all (InClass c) (D.key (funct7_of w) (funct3_of w)) D.ops32 (D.op32_as w) I.Illegal (λ op. e) tt

  from_branch : c ≡ Some C.Branch → InClass c (D.branch_of w)
  unfolding D.branch_of
  from_branch e = select_all (InClass c) (funct3_of w) D.branches (D.branch_as w) I.Illegal (λ op. e) tt

  from_jalr : c ≡ Some C.Jalr → InClass c (D.jalr_of w)
  unfolding D.jalr_of
  from_jalr e = cond_all (InClass c) (eqb (funct3_of w) 0) (I.Jalr (rd_of w) (rs1_of w) (imm_i w)) I.Illegal e tt

  from_system : c ≡ Some C.System → InClass c (D.system_of w)
  unfolding D.system_of
  from_system e = select_rows (InClass c) w D.systems D.same I.Illegal (e, (e, tt)) tt

  from_sized : (op : AtomicOp) → c ≡ Some C.Amo → InClass c (D.sized_of op w)
  unfolding D.sized_of
  from_sized op e = select_all (InClass c) (funct3_of w) D.widths (D.atomic_as w op) I.Illegal (λ width. e) tt

  from_lr : c ≡ Some C.Amo → InClass c (D.lr_of w)
  unfolding D.lr_of
  from_lr e = cond_all (InClass c) (eqb (rs2_of w) 0) (D.sized_of A.Lr w) I.Illegal (from_sized A.Lr e) tt

  from_cas_pair : c ≡ Some C.Amo → InClass c (D.cas_pair_of w)
  unfolding D.cas_pair_of
  from_cas_pair e = cond_all (InClass c) (D.is_even (rd_of w) && D.is_even (rs2_of w)) (D.atomic_as w A.CasPair Double) I.Illegal e tt

  from_cas : c ≡ Some C.Amo → InClass c (D.cas_of w)
  unfolding D.cas_of
  from_cas e = cond_all (InClass c) (eqb (funct3_of w) 4) (D.cas_pair_of w) (D.sized_of A.Cas w) (from_cas_pair e) (from_sized A.Cas e)

  from_atomic : c ≡ Some C.Amo → InClass c (D.atomic_of w)
  unfolding D.atomic_of
  from_atomic e =
      let s : (op : AtomicOp) → InClass c (D.sized_of op w) = λ op. from_sized op e in
      select_rows (InClass c) (funct5_of w) D.atomics (D.of w) I.Illegal
      (s _, (s _, (from_lr e, (s _, (s _, (from_cas e, (s _, (s _, (s _, (s _, (s _, (s _, tt)))))))))))) tt

of_class : (c : Option Class) (w : ℕ) → InClass c (D.in_class c w)
of_class None w = tt
of_class (Some C.Load) w = from_load _ w refl
of_class (Some C.MiscMem) w = from_misc_mem _ w refl
of_class (Some C.OpImm) w = from_op_imm _ w refl
of_class (Some C.Auipc) w = refl
of_class (Some C.OpImm32) w = from_op_imm_32 _ w refl
of_class (Some C.Store) w = from_store _ w refl
of_class (Some C.Amo) w = from_atomic _ w refl
of_class (Some C.Op) w = from_op _ w refl
of_class (Some C.Lui) w = refl
of_class (Some C.Op32) w = from_op_32 _ w refl
of_class (Some C.Branch) w = from_branch _ w refl
of_class (Some C.Jalr) w = from_jalr _ w refl
of_class (Some C.Jal) w = refl
of_class (Some C.System) w = from_system _ w refl

in_class_64 : (w : ℕ) → InClass (D.class_of w) (D.decode_of w)
unfolding D.decode_of
in_class_64 w = of_class (D.class_of w) w

-- a narrowed instruction is Illegal or of the same class
pub in_class : (xlen w : ℕ) → InClass (D.class_of w) (decode_at xlen w)
in_class xlen w = at_width (InClass (D.class_of w)) tt (λ a p. p) xlen w (in_class_64 w)

either : (t : Bool) → cond t Other Other ≡ Other
either true = refl
either false = refl

by_class : (settings : Settings) (c : Option Class) (i : Instr) → InClass c i → cond (looked_at settings c) (fields_of i) Other ≡ view_of settings i
unfolding fields_of view_of
by_class settings c I.Illegal e = either (looked_at settings c)
by_class settings c (I.Lui rd imm) e = rw e
by_class settings c (I.Auipc rd imm) e = rw e
by_class settings c (I.Jal rd imm) e = rw e
by_class settings c (I.Jalr rd rs1 imm) e = bool_cases (jalr_permitted settings) (λ p. rw (e, p)) (λ p. rw (e, p))
by_class settings c (I.Branch op rs1 rs2 imm) e = rw e
by_class settings c (I.Load op rd rs1 imm) e = rw e
by_class settings c (I.Store op rs1 rs2 imm) e = rw e
by_class settings c (I.OpImm op rd rs1 imm) e = rw e
by_class settings c (I.OpImm32 op rd rs1 imm) e = rw e
by_class settings c (I.Op op rd rs1 rs2) e = rw e
by_class settings c (I.Op32 op rd rs1 rs2) e = rw e
by_class settings c (I.Fence rd rs1 imm) e = rw e
by_class settings c I.Ecall e = rw e
by_class settings c I.Ebreak e = rw e
by_class settings c (I.Amo a) e = rw e

-- what the code sees, by the class, is what the definition sees
module _ (settings : Settings) (xlen w : ℕ) where
  pub looked : looked_at settings (D.class_of w) ≡ true → fields_of (decode_at xlen w) ≡ view_of settings (decode_at xlen w)
  looked t =
      ap (λ (b : Bool). cond b (fields_of (decode_at xlen w)) Other) (sym t) ∙ by_class settings (D.class_of w) (decode_at xlen w) (in_class xlen w)

  pub passed_over : looked_at settings (D.class_of w) ≡ false → Other ≡ view_of settings (decode_at xlen w)
  passed_over t =
      ap (λ (b : Bool). cond b (fields_of (decode_at xlen w)) Other) (sym t) ∙ by_class settings (D.class_of w) (decode_at xlen w) (in_class xlen w)
