-- What a step at a word of a loop comes to, by what the loop checker sees of the word. Assumes nothing.
use mathlib.Core.Path.{◌≡◌, refl, ap₂, ◌∙◌}
use mathlib.Core.Logic.{◌⊎◌, inl, inr}
use mathlib.Core.Bool.{Bool, true, false}
use mathlib.Core.List.{List}
use Prim.Native.Nat.{ℕ, ◌+◌, ◌*◌, ◌%◌, ◌≤◌, ◌<◌}
use native.Mathlib.Omega.{arith}
use lib.Dec.{eqb}
use lib.ListN.{length}
use lib.Seq.{get_or-set_other}
use borrow.Author.Tests.{eqb-false}
use Rattle.word.specs.Word.{low, sign_extend}
use Rattle.word.proofs.WordLaws.{low-low}
use Rattle.word.specs.Bytes.{to_le}
use Rattle.word.proofs.TestLaws.{bool_cases}
use Rattle.settings.specs.Settings.{at_version, lr_cause}
use Rattle.settings.proofs.SettingsLaws.{lr_cause_some}
use Rattle.settings.specs.declared.Settings.{Settings}
use Rattle.reserve.specs.Range.{Inside}
use Rattle.isa.specs.Width.{bits_of, bytes_of}
use Rattle.isa.specs.Wf.{Regs}
use Rattle.isa.specs.declared.AtomicOp.{AtomicOp}
use Rattle.isa.specs.declared.AtomicOp.TheVariants as A
use Rattle.isa.specs.declared.Atomic.{Atomic}
use Rattle.isa.specs.declared.Instr.{Instr}
use Rattle.isa.specs.declared.Instr.TheVariants as I
use Rattle.effect.specs.Effect.{Writes, none, one, Access, nothing, reserve, sc_stored, Exec, effect, offset, next_pc}
use Rattle.effect.specs.Integer.{exec_jump, exec_branch, holds_of}
use Rattle.effect.specs.Memory.{value_at}
use Rattle.effect.specs.Atomic.{exec_lr}
use Rattle.effect.specs.Execute.{reg_at, exec_atomic, execute}
use Rattle.effect.proofs.TrapLaws.{access_retires, jump_retires, branch_taken, branch_passed, exec_sc_stored}
use Rattle.model.specs.Act.{set_reg, written}
use Rattle.retry.specs.Loop.{atomic_view, view_of}
use Rattle.retry.specs.declared.View.{View}
use Rattle.retry.specs.declared.View.TheVariants.{Lr, Sc, Plain, Jump, Branch, Other}
use Rattle.retry.proofs.ShapeLaws.{Keeps}

-- it retires, goes to a place with an access, and leaves every register that a write of rd leaves
pub record Moves (e : Exec) (rd to : ℕ) (t : Access) : Type 0 where
  pub ws : Writes
  pub is : e ≡ effect ws to t
  pub kept : (x : List ℕ) (h r : ℕ) → r < 32 → Keeps r rd → reg_at (written h ws x) h r ≡ reg_at x h r

set_kept : (x : List ℕ) (h rd v r : ℕ) → rd < 32 → r < 32 → Keeps r rd → reg_at (set_reg h rd v x) h r ≡ reg_at x h r
unfolding set_reg reg_at
set_kept x h rd v r d l k =
    bool_cases (eqb (rd % 32) 0) (λ t. rw t)
    (λ f.
    rw f (get_or-set_other x (h * 32 + rd % 32) (h * 32 + r % 32) v 0
    (λ e. let s : r ≡ rd = omega arith in let z : r ≡ 0 = k s in eqb-false (rd % 32) 0 f (omega arith))))

by_one : (e : Exec) (rd v to : ℕ) (t : Access) → rd < 32 → e ≡ effect (one rd v) to t → Moves e rd to t
by_one e rd v to t d q = record { ws = one rd v; is = q; kept = λ x h r l k. set_kept x h rd v r d l k }

by_none : (e : Exec) (to : ℕ) (t : Access) → e ≡ effect none to t → Moves e 0 to t
by_none e to t q = record { ws = none; is = q; kept = λ x h r l k. refl }

-- where the pc is pc, and registers have xlen bits
abbrev pub Does : ℕ → View → ℕ → Exec → Type 0
Does xlen (Lr rd s w) pc e = Unit {0}
Does xlen (Sc s w) pc e = Unit {0}
Does xlen (Plain rd) pc e = Moves e rd (offset xlen pc 4) nothing
Does xlen (Jump rd off) pc e = off % 4 ≡ 0 → Moves e rd (offset xlen pc off) nothing
Does xlen (Branch off) pc e = off % 4 ≡ 0 → Moves e 0 (offset xlen pc 4) nothing ⊎ Moves e 0 (offset xlen pc off) nothing
Does xlen Other pc e = Unit {0}

module _ (xlen : ℕ) (enough : 2 ≤ xlen) (pc : ℕ) (aligned : pc % 4 ≡ 0) where
  -- the place at an offset that is a multiple of 4 is aligned
  lands : (off : ℕ) → off % 4 ≡ 0 → offset xlen pc off % 4 ≡ 0
  unfolding low
  lands off o = low-low xlen 2 enough (pc + off) ∙ omega arith

  computes : (rd v : ℕ) → rd < 32 → Moves (effect (one rd v) (next_pc xlen pc) nothing) rd (offset xlen pc 4) nothing
  computes rd v d = by_one _ rd v (offset xlen pc 4) nothing d refl

  jumps : (rd off : ℕ) → rd < 32 → off % 4 ≡ 0 → Moves (exec_jump xlen rd (offset xlen pc off) pc) rd (offset xlen pc off) nothing
  jumps rd off d o = by_one _ rd (next_pc xlen pc) (offset xlen pc off) nothing d (jump_retires xlen pc rd (offset xlen pc off) (lands off o))

  branches : (taken : Bool) (off : ℕ) → off % 4 ≡ 0
      → Moves (exec_branch xlen taken (offset xlen pc off) pc) 0 (offset xlen pc 4) nothing
      ⊎ Moves (exec_branch xlen taken (offset xlen pc off) pc) 0 (offset xlen pc off) nothing
  branches true off o = inr (by_none _ (offset xlen pc off) nothing (branch_taken xlen pc (offset xlen pc off) (lands off o)))
  branches false off o = inl (by_none _ (offset xlen pc 4) nothing (branch_passed xlen pc (offset xlen pc off)))

  module _ (misaligned word : ℕ) (x : ℕ → ℕ) (base : ℕ) (mem : List ℕ) (covered : ℕ → ℕ → Bool) where
    does_atomic : (op : AtomicOp) (a : Atomic) (e : Exec) → Does xlen (atomic_view op a) pc e
    does_atomic A.Lr a e = tt
    does_atomic A.Sc a e = tt
    does_atomic A.Cas a e = tt
    does_atomic A.CasPair a e = tt
    does_atomic (A.Rmw op) a e = tt

    pub does : (settings : Settings) (i : Instr) → Regs i → Does xlen (view_of (at_version 21 settings) i) pc (execute xlen misaligned i word x pc base mem covered)
    unfolding view_of execute
    does settings I.Illegal r = tt
    does settings (I.Lui rd imm) r = computes rd _ r
    does settings (I.Auipc rd imm) r = computes rd (offset xlen pc imm) r
    does settings (I.Jal rd imm) r = jumps rd imm r
    does settings (I.Jalr rd rs1 imm) r = tt
    does settings (I.Branch op rs1 rs2 imm) r = branches (holds_of xlen op (x rs1) (x rs2)) imm
    does settings (I.Load op rd rs1 imm) r = tt
    does settings (I.Store op rs1 rs2 imm) r = tt
    does settings (I.OpImm op rd rs1 imm) r = computes rd _ r.0
    does settings (I.OpImm32 op rd rs1 imm) r = computes rd _ r.0
    does settings (I.Op op rd rs1 rs2) r = computes rd _ r.0
    does settings (I.Op32 op rd rs1 rs2) r = computes rd _ r.0
    does settings (I.Fence rd rs1 imm) r = tt
    does settings I.Ecall r = tt
    does settings I.Ebreak r = tt
    does settings (I.Amo a) r = does_atomic a.op a _

    -- an LR whose bytes are aligned and in memory
    pub does_lr : (a : Atomic) → a.op ≡ A.Lr → Regs (I.Amo a) → x a.rs1 % bytes_of a.width ≡ 0
        → Inside base (length mem) (x a.rs1) (bytes_of a.width)
        → Moves (execute xlen misaligned (I.Amo a) word x pc base mem covered) a.rd (offset xlen pc 4) (reserve (x a.rs1) (bytes_of a.width))
    unfolding execute exec_atomic exec_lr
    does_lr a q r al i =
        let v = sign_extend xlen (bits_of a.width) (value_at base mem (x a.rs1) (bytes_of a.width)) in
        by_one _ a.rd v (offset xlen pc 4) _ r.0
        (rw q (access_retires (lr_cause misaligned) 5 (x a.rs1) (bytes_of a.width) base (length mem) (lr_cause_some misaligned) (omega arith) _ al i))

    -- an SC of n bytes at addr, aligned, in memory and covered
    pub does_sc : (a : Atomic) → a.op ≡ A.Sc → (addr n : ℕ) → x a.rs1 ≡ addr → bytes_of a.width ≡ n → addr % n ≡ 0
        → Inside base (length mem) addr n → covered addr n ≡ true
        → execute xlen misaligned (I.Amo a) word x pc base mem covered ≡ effect (one a.rd 0) (next_pc xlen pc) (sc_stored addr (to_le n (x a.rs2)))
    unfolding execute exec_atomic
    does_sc a q addr n s l al i c =
        rw q (exec_sc_stored xlen pc misaligned a.width a.rd (x a.rs1) (x a.rs2) base mem covered (rw (s, l) al) (rw (s, l) i) (rw (s, l) c)
        ∙ ap₂ (λ (b k : ℕ). effect (one a.rd 0) (next_pc xlen pc) (sc_stored b (to_le k (x a.rs2)))) s l)
