-- What holds of every decoded word: its register numbers are below 32 (Regs), its immediate is a number of 64 bits (Imms), and an AMOCAS.Q
-- names even registers (Pairs). Assumes nothing.
use mathlib.Core.Path.{◌≡◌, refl, ◌∙◌}
use mathlib.Core.Bool.{Bool, true, false, cond, ◌&&◌}
use Prim.Native.Nat.{ℕ, ◌+◌, ◌*◌, ◌%◌, ◌^◌, ◌<◌, ◌≤◌}
use native.Mathlib.Omega.{arith}
use borrow.Author.Tests.{eqb-true}
use lib.Dec.{eqb}
use Rattle.word.specs.Word.{sign_extend}
use Rattle.word.proofs.WordLaws.{sign_extend_lt}
use Rattle.word.proofs.ChooseLaws.{cond_all, select_rows, select_all, ◌also◌}
use Rattle.isa.specs.Fields.{bits, rd_of, rs1_of, rs2_of, funct3_of, funct5_of, funct6_of, funct7_of, imm_i, imm_s, imm_u, low_b, low_j}
use Rattle.isa.specs.Decode as D
use Rattle.isa.specs.Wf.{Regs, Imms, Pairs}
use Rattle.std.specs.Prelude.{Option, Some, None}
use Rattle.isa.specs.declared.class.Class.{Class}
use Rattle.isa.specs.declared.class.Class.TheVariants as C
use Rattle.isa.specs.declared.LoadOp.{LoadOp}
use Rattle.isa.specs.declared.StoreOp.{StoreOp}
use Rattle.isa.specs.declared.BranchOp.{BranchOp}
use Rattle.isa.specs.declared.AluOp.{AluOp}
use Rattle.isa.specs.declared.AluOp.TheVariants.{Add}
use Rattle.isa.specs.declared.AmoOp.{AmoOp}
use Rattle.isa.specs.declared.AtomicOp.{AtomicOp}
use Rattle.isa.specs.declared.AtomicOp.TheVariants.{Lr, Sc, Cas, CasPair, Rmw}
use Rattle.isa.specs.declared.Width.{Width}
use Rattle.isa.specs.declared.Width.TheVariants.{Double}
use Rattle.isa.specs.declared.Instr.{Instr}
use Rattle.isa.specs.declared.Instr.TheVariants.{Illegal, Jalr, OpImm32, Fence, Ecall, Ebreak}
use Rattle.isa.proofs.OffsetLaws.{lowest}

-- what holds of each instruction that the tables make holds of the decoded word
module _ (P : Instr → Type 0) (w : ℕ)
    (illegal : P Illegal) (ecall : P Ecall) (ebreak : P Ebreak)
    (lui : P (D.lui_of w)) (auipc : P (D.auipc_of w)) (jal : P (D.jal_of w))
    (jalr : P (Jalr (rd_of w) (rs1_of w) (imm_i w)))
    (fence : P (Fence (rd_of w) (rs1_of w) (bits 31 20 w)))
    (branch : (op : BranchOp) → P (D.branch_as w op))
    (load : (op : LoadOp) → P (D.load_as w op))
    (store : (op : StoreOp) → P (D.store_as w op))
    (op-imm : (op : AluOp) → P (D.op_imm_as op w))
    (shift : (op : AluOp) → P (D.shift_as w op))
    (addiw : P (OpImm32 Add (rd_of w) (rs1_of w) (imm_i w)))
    (shift-32 : (op : AluOp) → P (D.shift32_as w op))
    (op : (op : AluOp) → P (D.op_as w op))
    (op-32 : (op : AluOp) → P (D.op32_as w op))
    (lr : (width : Width) → P (D.atomic_as w Lr width))
    (sc : (width : Width) → P (D.atomic_as w Sc width))
    (cas : (width : Width) → P (D.atomic_as w Cas width))
    (cas-pair : rd_of w % 2 ≡ 0 → rs2_of w % 2 ≡ 0 → P (D.atomic_as w CasPair Double))
    (rmw : (op : AmoOp) (width : Width) → P (D.atomic_as w (Rmw op) width)) where
  from_load : P (D.load_of w)
  unfolding D.load_of
  from_load = select_all P (funct3_of w) D.loads (D.load_as w) Illegal load illegal

  from_misc_mem : P (D.misc_mem_of w)
  unfolding D.misc_mem_of
  from_misc_mem = cond_all P (eqb (funct3_of w) 0) (Fence (rd_of w) (rs1_of w) (bits 31 20 w)) Illegal fence illegal

  from_shift : P (D.shift_of w)
  unfolding D.shift_of
  from_shift = select_all P (D.key (funct6_of w) (funct3_of w)) D.shifts (D.shift_as w) Illegal shift illegal

  from_op_imm : P (D.op_imm_of w)
  unfolding D.op_imm_of
  from_op_imm =
      select_rows P (funct3_of w) D.op_imms (D.of w) Illegal
      (op-imm _, (from_shift, (op-imm _, (op-imm _, (op-imm _, (from_shift, (op-imm _, (op-imm _, tt)))))))) illegal

  from_shift_32 : P (D.shift32_of w)
  unfolding D.shift32_of
  from_shift_32 = select_all P (D.key (funct7_of w) (funct3_of w)) D.shifts32 (D.shift32_as w) Illegal shift-32 illegal

  from_op_imm_32 : P (D.op_imm32_of w)
  unfolding D.op_imm32_of
  from_op_imm_32 = cond_all P (eqb (funct3_of w) 0) (OpImm32 Add (rd_of w) (rs1_of w) (imm_i w)) (D.shift32_of w) addiw from_shift_32

  from_store : P (D.store_of w)
  unfolding D.store_of
  from_store = select_all P (funct3_of w) D.stores (D.store_as w) Illegal store illegal

  from_op : P (D.op_of w)
  unfolding D.op_of
  from_op = select_all P (D.key (funct7_of w) (funct3_of w)) D.ops (D.op_as w) Illegal op illegal

  from_op_32 : P (D.op32_of w)
  unfolding D.op32_of
  from_op_32 = select_all P (D.key (funct7_of w) (funct3_of w)) D.ops32 (D.op32_as w) Illegal op-32 illegal

  from_branch : P (D.branch_of w)
  unfolding D.branch_of
  from_branch = select_all P (funct3_of w) D.branches (D.branch_as w) Illegal branch illegal

  from_jalr : P (D.jalr_of w)
  unfolding D.jalr_of
  from_jalr = cond_all P (eqb (funct3_of w) 0) (Jalr (rd_of w) (rs1_of w) (imm_i w)) Illegal jalr illegal

  from_system : P (D.system_of w)
  unfolding D.system_of
  from_system = select_rows P w D.systems D.same Illegal (ecall, (ebreak, tt)) illegal

  from_sized : (a : AtomicOp) → ((width : Width) → P (D.atomic_as w a width)) → P (D.sized_of a w)
  unfolding D.sized_of
  from_sized a h = select_all P (funct3_of w) D.widths (D.atomic_as w a) Illegal h illegal

  from_lr : P (D.lr_of w)
  unfolding D.lr_of
  from_lr = cond_all P (eqb (rs2_of w) 0) (D.sized_of Lr w) Illegal (from_sized Lr lr) illegal

  from_cas_pair : P (D.cas_pair_of w)
  unfolding D.cas_pair_of
  from_cas_pair = go (D.is_even (rd_of w)) (D.is_even (rs2_of w)) refl refl
    where
      go : (d s : Bool) → D.is_even (rd_of w) ≡ d → D.is_even (rs2_of w) ≡ s → P (cond (d && s) (D.atomic_as w CasPair Double) Illegal)
      go true true d s = cas-pair (eqb-true (rd_of w % 2) 0 d) (eqb-true (rs2_of w % 2) 0 s)
      go true false d s = illegal
      go false s d e = illegal

  from_cas : P (D.cas_of w)
  unfolding D.cas_of
  from_cas = cond_all P (eqb (funct3_of w) 4) (D.cas_pair_of w) (D.sized_of Cas w) from_cas_pair (from_sized Cas cas)

  from_rmw : (a : AmoOp) → P (D.sized_of (Rmw a) w)
  from_rmw a = from_sized (Rmw a) (rmw a)

  from_atomic : P (D.atomic_of w)
  unfolding D.atomic_of
  from_atomic =
      select_rows P (funct5_of w) D.atomics (D.of w) Illegal
      (from_rmw _ also from_rmw _ also from_lr also from_sized Sc sc also from_rmw _ also from_cas also from_rmw _
      also from_rmw _ also from_rmw _ also from_rmw _ also from_rmw _ also from_rmw _ also tt)
      illegal

  by_class : (class : Option Class) → P (D.in_class class w)
  by_class None = illegal
  by_class (Some C.Load) = from_load
  by_class (Some C.MiscMem) = from_misc_mem
  by_class (Some C.OpImm) = from_op_imm
  by_class (Some C.Auipc) = auipc
  by_class (Some C.OpImm32) = from_op_imm_32
  by_class (Some C.Store) = from_store
  by_class (Some C.Amo) = from_atomic
  by_class (Some C.Op) = from_op
  by_class (Some C.Lui) = lui
  by_class (Some C.Op32) = from_op_32
  by_class (Some C.Branch) = from_branch
  by_class (Some C.Jalr) = from_jalr
  by_class (Some C.Jal) = jal
  by_class (Some C.System) = from_system

  pub decoded : P (D.decode_of w)
  unfolding D.decode_of
  decoded = by_class (D.class_of w)

pub regs_below : (w : ℕ) → Regs (D.decode_of w)
regs_below w =
    decoded Regs w tt tt tt (omega arith) (omega arith) (omega arith) (omega arith) (omega arith)
    (λ op. omega arith) (λ op. omega arith) (λ op. omega arith) (λ op. omega arith) (λ op. omega arith)
    (omega arith) (λ op. omega arith) (λ op. omega arith) (λ op. omega arith)
    (λ width. omega arith) (λ width. omega arith) (λ width. omega arith) (λ d s. omega arith) (λ op width. omega arith)

extended : (k x : ℕ) → 0 < k → k ≤ 64 → sign_extend 64 k x < 2 ^ 64
extended k x some most = sign_extend_lt 64 k most some x

offset : (k x : ℕ) → 0 < k → k ≤ 64 → x % 2 ≡ 0 → (sign_extend 64 k x < 2 ^ 64) × (sign_extend 64 k x % 2 ≡ 0)
offset k x some most e = (extended k x some most, lowest k x most 1 some some ∙ e)

pub imms_below : (w : ℕ) → Imms (D.decode_of w)
imms_below w =
    let u : imm_u w < 2 ^ 64 = extended 32 (bits 31 12 w * 2 ^ 12) (omega arith) (omega arith) in
    let i : imm_i w < 2 ^ 64 = extended 12 (bits 31 20 w) (omega arith) (omega arith) in
    let s : imm_s w < 2 ^ 64 = extended 12 (bits 31 25 w * 2 ^ 5 + bits 11 7 w) (omega arith) (omega arith) in
    let j = offset 21 (bits 31 31 w * 2 ^ 20 + low_j w) (omega arith) (omega arith) (omega arith) in
    let b = offset 13 (bits 31 31 w * 2 ^ 12 + low_b w) (omega arith) (omega arith) (omega arith) in
    decoded Imms w tt tt tt u u j i (omega arith) (λ op. b) (λ op. i) (λ op. s) (λ op. i) (λ op. omega arith) i (λ op. omega arith)
    (λ op. tt) (λ op. tt) (λ width. tt) (λ width. tt) (λ width. tt) (λ d s. tt) (λ op width. tt)

pub pairs_even : (w : ℕ) → Pairs (D.decode_of w)
pairs_even w =
    decoded Pairs w tt tt tt tt tt tt tt tt (λ op. tt) (λ op. tt) (λ op. tt) (λ op. tt) (λ op. tt) tt (λ op. tt) (λ op. tt) (λ op. tt)
    (λ width. tt) (λ width. tt) (λ width. tt) (λ d s. (refl, d, s)) (λ op width. tt)
