-- What the checker sees of an instruction says what the instruction is. Assumes nothing.
use Rattle.std.proofs.Common.{◌≡◌, ℕ, Option, true, ◌≢◌, refl, ap, ◌∙◌, subst, arith}
use Rattle.word.proofs.TestLaws.{bool_cases, contrary}
use Rattle.word.proofs.ChooseLaws.{cond_all, cond_cases}
use Rattle.settings.specs.Settings.{xlen_of, jalr_permitted}
use Rattle.settings.specs.declared.Settings.{Settings}
use Rattle.settings.proofs.SettingsLaws.{jalr_exact}
use Rattle.isa.specs.Width.{bytes_of}
use Rattle.isa.specs.Decode.{class_of}
use Rattle.isa.specs.declared.class.Class.{Class}
use Rattle.isa.specs.Narrow.{decode_at}
use Rattle.isa.specs.declared.BranchOp.{BranchOp}
use Rattle.isa.specs.declared.Width.{Width}
use Rattle.isa.specs.declared.Width.TheVariants.{Word, Double}
use Rattle.isa.specs.declared.Atomic.{Atomic}
use Rattle.isa.specs.declared.AtomicOp.{AtomicOp}
use Rattle.isa.specs.declared.AtomicOp.TheVariants as A
use Rattle.isa.specs.declared.Instr.{Instr}
use Rattle.isa.specs.declared.Instr.TheVariants as I
use Rattle.retry.specs.declared.View.{View}
use Rattle.retry.specs.declared.View.TheVariants.{Lr, Sc, Plain, Jump, Branch, Other}
use Rattle.retry.specs.Loop.{atomic_view, view_of, permitted_class}
use Rattle.retry.specs.Reasons.{PermittedClass, is_lui, is_auipc, is_jal, is_branch, is_op, is_op_imm, is_op32, is_op_imm32, is_jalr, Permitted, HasRd}
use Rattle.retry.proofs.ClassLaws.{InClass, in_class}

-- ---- the instruction of a view

pub record SeenLr (i : Instr) (rd rs1 width : ℕ) : Type 0 where
  pub of : Atomic
  pub is : i ≡ I.Amo of
  pub kind : of.op ≡ A.Lr
  pub rd_is : of.rd ≡ rd
  pub rs1_is : of.rs1 ≡ rs1
  pub width_is : bytes_of of.width ≡ width

pub record SeenSc (i : Instr) (rs1 width : ℕ) : Type 0 where
  pub of : Atomic
  pub is : i ≡ I.Amo of
  pub kind : of.op ≡ A.Sc
  pub rs1_is : of.rs1 ≡ rs1
  pub width_is : bytes_of of.width ≡ width

abbrev pub Seen : Instr → View → Type 0
Seen i (Lr rd rs1 width) = SeenLr i rd rs1 width
Seen i (Sc rs1 width) = SeenSc i rs1 width
Seen i (Plain rd) = HasRd i rd
Seen i (Jump rd offset) = i ≡ I.Jal rd offset
Seen i (Branch offset) = (op : BranchOp) × (rs1 : ℕ) × (rs2 : ℕ) × (i ≡ I.Branch op rs1 rs2 offset)
Seen i Other = Unit {0}

seen_atomic : (op : AtomicOp) (a : Atomic) → a.op ≡ op → Seen (I.Amo a) (atomic_view op a)
seen_atomic A.Lr a e = record { of = a; is = refl; kind = e; rd_is = refl; rs1_is = refl; width_is = refl }
seen_atomic A.Sc a e = record { of = a; is = refl; kind = e; rs1_is = refl; width_is = refl }
seen_atomic A.Cas a e = tt
seen_atomic A.CasPair a e = tt
seen_atomic (A.Rmw op) a e = tt

pub seen : (settings : Settings) (i : Instr) → Seen i (view_of settings i)
unfolding view_of
seen settings I.Illegal = tt
seen settings (I.Lui rd imm) = refl
seen settings (I.Auipc rd imm) = refl
seen settings (I.Jal rd imm) = refl
seen settings (I.Jalr rd rs1 imm) = cond_all (Seen (I.Jalr rd rs1 imm)) (jalr_permitted settings) (Plain rd) Other refl tt
seen settings (I.Branch op rs1 rs2 imm) = (op, rs1, rs2, refl)
seen settings (I.Load op rd rs1 imm) = tt
seen settings (I.Store op rs1 rs2 imm) = tt
seen settings (I.OpImm op rd rs1 imm) = refl
seen settings (I.OpImm32 op rd rs1 imm) = refl
seen settings (I.Op op rd rs1 rs2) = refl
seen settings (I.Op32 op rd rs1 rs2) = refl
seen settings (I.Fence rd rs1 imm) = tt
seen settings I.Ecall = tt
seen settings I.Ebreak = tt
seen settings (I.Amo a) = seen_atomic a.op a refl

pub lr_view : (settings : Settings) (a : Atomic) → a.op ≡ A.Lr → view_of settings (I.Amo a) ≡ Lr a.rd a.rs1 (bytes_of a.width)
unfolding view_of
lr_view settings a e = ap (λ (op : AtomicOp). atomic_view op a) e

pub sc_view : (settings : Settings) (a : Atomic) → a.op ≡ A.Sc → view_of settings (I.Amo a) ≡ Sc a.rs1 (bytes_of a.width)
unfolding view_of
sc_view settings a e = ap (λ (op : AtomicOp). atomic_view op a) e

-- ---- its rd

abbrev pub RdSeen : View → ℕ → Type 0
RdSeen (Lr rd rs1 width) n = rd ≡ n
RdSeen (Sc rs1 width) n = Unit {0}
RdSeen (Plain rd) n = rd ≡ n
RdSeen (Jump rd offset) n = rd ≡ n
RdSeen (Branch offset) n = ⊥
RdSeen Other n = Unit {0}

rd_atomic : (op : AtomicOp) (a : Atomic) (n : ℕ) → a.rd ≡ n → RdSeen (atomic_view op a) n
rd_atomic A.Lr a n e = e
rd_atomic A.Sc a n e = tt
rd_atomic A.Cas a n e = tt
rd_atomic A.CasPair a n e = tt
rd_atomic (A.Rmw op) a n e = tt

pub rd_seen : (settings : Settings) (i : Instr) (n : ℕ) → HasRd i n → RdSeen (view_of settings i) n
unfolding view_of
rd_seen settings I.Illegal n e = tt
rd_seen settings (I.Lui rd imm) n e = e
rd_seen settings (I.Auipc rd imm) n e = e
rd_seen settings (I.Jal rd imm) n e = e
rd_seen settings (I.Jalr rd rs1 imm) n e = cond_all (λ (v : View). RdSeen v n) (jalr_permitted settings) (Plain rd) Other e tt
rd_seen settings (I.Branch op rs1 rs2 imm) n e = e
rd_seen settings (I.Load op rd rs1 imm) n e = tt
rd_seen settings (I.Store op rs1 rs2 imm) n e = tt
rd_seen settings (I.OpImm op rd rs1 imm) n e = e
rd_seen settings (I.OpImm32 op rd rs1 imm) n e = e
rd_seen settings (I.Op op rd rs1 rs2) n e = e
rd_seen settings (I.Op32 op rd rs1 rs2) n e = e
rd_seen settings (I.Fence rd rs1 imm) n e = tt
rd_seen settings I.Ecall n e = tt
rd_seen settings I.Ebreak n e = tt
rd_seen settings (I.Amo a) n e = rd_atomic a.op a n e

-- ---- the permitted words

abbrev pub Body : View → Type 0
Body (Lr rd rs1 width) = ⊥
Body (Sc rs1 width) = ⊥
Body (Plain rd) = Unit {0}
Body (Jump rd offset) = Unit {0}
Body (Branch offset) = Unit {0}
Body Other = ⊥

tested : (settings : Settings) (c : Option Class) → PermittedClass settings c → permitted_class settings c ≡ true
tested settings c (is_lui e) = rw e
tested settings c (is_auipc e) = rw e
tested settings c (is_jal e) = rw e
tested settings c (is_branch e) = rw e
tested settings c (is_op e) = rw e
tested settings c (is_op_imm e) = rw e
tested settings c (is_op32 e) = rw e
tested settings c (is_op_imm32 e) = rw e
tested settings c (is_jalr p e) = rw (e, (jalr_exact settings).1 p)

body_of : (settings : Settings) (c : Option Class) (i : Instr) → InClass c i → permitted_class settings c ≡ true → i ≢ I.Illegal → Body (view_of settings i)
unfolding view_of
body_of settings c I.Illegal e t h = h refl
body_of settings c (I.Lui rd imm) e t h = tt
body_of settings c (I.Auipc rd imm) e t h = tt
body_of settings c (I.Jal rd imm) e t h = tt
body_of settings c (I.Jalr rd rs1 imm) e t h =
    cond_cases Body (jalr_permitted settings) (Plain rd) Other (λ p. tt) (λ p. contrary t (ap (permitted_class settings) e ∙ p))
body_of settings c (I.Branch op rs1 rs2 imm) e t h = tt
body_of settings c (I.Load op rd rs1 imm) e t h = contrary t (ap (permitted_class settings) e)
body_of settings c (I.Store op rs1 rs2 imm) e t h = contrary t (ap (permitted_class settings) e)
body_of settings c (I.OpImm op rd rs1 imm) e t h = tt
body_of settings c (I.OpImm32 op rd rs1 imm) e t h = tt
body_of settings c (I.Op op rd rs1 rs2) e t h = tt
body_of settings c (I.Op32 op rd rs1 rs2) e t h = tt
body_of settings c (I.Fence rd rs1 imm) e t h = contrary t (ap (permitted_class settings) e)
body_of settings c I.Ecall e t h = contrary t (ap (permitted_class settings) e)
body_of settings c I.Ebreak e t h = contrary t (ap (permitted_class settings) e)
body_of settings c (I.Amo a) e t h = contrary t (ap (permitted_class settings) e)

pub permitted_body : (settings : Settings) (w : ℕ) → Permitted settings w → Body (view_of settings (decode_at (xlen_of settings) w))
permitted_body settings w p =
    let xlen = xlen_of settings in
    body_of settings (class_of w) (decode_at xlen w) (in_class xlen w) (tested settings (class_of w) p.0) p.1

atomic_no_body : (op : AtomicOp) (a : Atomic) → Body (atomic_view op a) → ⊥
atomic_no_body A.Lr a b = b
atomic_no_body A.Sc a b = b
atomic_no_body A.Cas a b = b
atomic_no_body A.CasPair a b = b
atomic_no_body (A.Rmw op) a b = b

class_of_lem : (settings : Settings) (c : Option Class) (i : Instr) → InClass c i → Body (view_of settings i) → PermittedClass settings c
unfolding view_of
class_of_lem settings c I.Illegal e b = absurd b
class_of_lem settings c (I.Lui rd imm) e b = is_lui e
class_of_lem settings c (I.Auipc rd imm) e b = is_auipc e
class_of_lem settings c (I.Jal rd imm) e b = is_jal e
class_of_lem settings c (I.Jalr rd rs1 imm) e b =
    bool_cases (jalr_permitted settings) (λ p. is_jalr ((jalr_exact settings).0 p) e) (λ p. absurd (rw p at b))
class_of_lem settings c (I.Branch op rs1 rs2 imm) e b = is_branch e
class_of_lem settings c (I.Load op rd rs1 imm) e b = absurd b
class_of_lem settings c (I.Store op rs1 rs2 imm) e b = absurd b
class_of_lem settings c (I.OpImm op rd rs1 imm) e b = is_op_imm e
class_of_lem settings c (I.OpImm32 op rd rs1 imm) e b = is_op_imm32 e
class_of_lem settings c (I.Op op rd rs1 rs2) e b = is_op e
class_of_lem settings c (I.Op32 op rd rs1 rs2) e b = is_op32 e
class_of_lem settings c (I.Fence rd rs1 imm) e b = absurd b
class_of_lem settings c I.Ecall e b = absurd b
class_of_lem settings c I.Ebreak e b = absurd b
class_of_lem settings c (I.Amo a) e b = absurd (atomic_no_body a.op a b)

legal : (settings : Settings) (i : Instr) → Body (view_of settings i) → i ≢ I.Illegal
unfolding view_of
legal settings i b e = subst (λ (j : Instr). Body (view_of settings j)) e b

pub body_permitted : (settings : Settings) (w : ℕ) → Body (view_of settings (decode_at (xlen_of settings) w)) → Permitted settings w
body_permitted settings w b =
    let xlen = xlen_of settings in
    (class_of_lem settings (class_of w) (decode_at xlen w) (in_class xlen w) b, legal settings (decode_at xlen w) b)

-- ---- widths

pub widths_same : (v w : Width) → bytes_of v ≡ bytes_of w → v ≡ w
widths_same Word Word e = refl
widths_same Word Double e = absurd (omega arith)
widths_same Double Word e = absurd (omega arith)
widths_same Double Double e = refl
