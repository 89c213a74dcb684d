-- Every instruction is sound. Assumes nothing.
use Prim.Native.Nat.{ℕ, ◌+◌, ◌%◌, ◌≤◌, ◌<◌}
use mathlib.Core.Path.{◌≡◌, refl, sym, ◌∙◌, subst}
use mathlib.Core.Logic.{◌⊎◌, inl, inr}
use mathlib.Core.Bool.{Bool, true, false, cond}
use mathlib.Core.List.{List}
use native.Mathlib.Omega.{arith}
use lib.ListN.{length}
use lib.Dec.{eqb}
use borrow.Author.Tests.{eqb-true}
use Rattle.word.specs.Word.{low}
use Rattle.word.specs.Bytes.{to_le}
use Rattle.word.proofs.BytesLaws.{length-to_le}
use Rattle.word.proofs.WordLaws.{low-low}
use Rattle.word.proofs.ChooseLaws.{cond_all, cond_cases}
use Rattle.settings.specs.Settings.{lr_cause, amo_cause}
use Rattle.settings.proofs.SettingsLaws.{lr_cause_some, amo_cause_some}
use Rattle.reserve.specs.Range.{Inside, inside_of}
use Rattle.reserve.proofs.RangeLaws.{inside_of_lem}
use Rattle.isa.specs.Width.{bits_of, bytes_of, pair_bytes}
use Rattle.isa.specs.Narrow.{decode_at}
use Rattle.isa.specs.declared.Width.{Width}
use Rattle.isa.specs.declared.Width.TheVariants.{Word, Double}
use Rattle.isa.specs.declared.LoadOp.{LoadOp}
use Rattle.isa.specs.declared.StoreOp.{StoreOp}
use Rattle.isa.specs.declared.AmoOp.{AmoOp}
use Rattle.isa.specs.declared.AtomicOp.{AtomicOp}
use Rattle.isa.specs.declared.AtomicOp.TheVariants.{Lr, Sc, Cas, CasPair, Rmw}
use Rattle.isa.specs.declared.Atomic.{Atomic}
use Rattle.isa.specs.declared.Instr.{Instr}
use Rattle.isa.specs.declared.Instr.TheVariants.{Illegal, Jal, Jalr, Branch, Load, Store, Ecall, Ebreak, Amo}
use Rattle.effect.specs.Effect.{nothing, store, Exec, trap, offset, next_pc}
use Rattle.effect.specs.Integer.{exec_jump, clear_bit0, holds_of, exec_branch}
use Rattle.effect.specs.Memory.{fault_of, checked, value_at, load_bytes, store_bytes, exec_load, exec_store}
use Rattle.effect.specs.Atomic.{swapped, exec_lr, exec_sc, exec_amo, exec_cas, exec_cas_pair}
use Rattle.effect.specs.Execute.{pair_at, atomic_by, exec_atomic, execute, execute_word}
use Rattle.effect.specs.Sound.{AccessOk, Sound}

-- an access without a fault is aligned and inside memory
pub fault_fine : (unaligned outside a n base len : ℕ) → 0 < unaligned → 0 < outside → fault_of unaligned outside a n base len ≡ 0
    → (a % n ≡ 0) × Inside base len a n
unfolding fault_of
fault_fine unaligned outside a n base len some more e = go (eqb (a % n) 0) refl (inside_of base len a n) refl e
  where
    go : (p : Bool) → eqb (a % n) 0 ≡ p → (q : Bool) → inside_of base len a n ≡ q
        → ◌≡◌ {A = ℕ} (cond p (cond q 0 outside) unaligned) 0 → (a % n ≡ 0) × Inside base len a n
    go true ep true eq e = (eqb-true (a % n) 0 ep, inside_of_lem base len a n eq)
    go true ep false eq e = absurd (omega arith)
    go false ep q eq e = absurd (omega arith)

pub width_is : (w : Width) → (bytes_of w ≡ 4) ⊎ (bytes_of w ≡ 8)
width_is Word = inl refl
width_is Double = inr refl

module _ (base len : ℕ) where
  sound_checked : (unaligned outside a n : ℕ) (e : Exec) → 0 < unaligned → 0 < outside
      → ((a % n ≡ 0) × Inside base len a n → Sound base len e) → Sound base len (checked unaligned outside a n base len e)
  unfolding checked
  sound_checked unaligned outside a n e some more h =
      let cause = fault_of unaligned outside a n base len in
      cond_cases (Sound base len) (eqb cause 0) e (trap cause a)
      (λ t. h (fault_fine unaligned outside a n base len some more (eqb-true cause 0 t))) (λ f. tt)

  bytes_inside : (a n v : ℕ) → Inside base len a n → Inside base len a (length (to_le n v))
  bytes_inside a n v i = subst (λ (k : ℕ). Inside base len a k) (sym (length-to_le n v)) i

  -- a compare and swap
  sound_swap : (a n old want new : ℕ) → Inside base len a n → AccessOk base len (swapped a n old want new)
  sound_swap a n old want new i = go (eqb old want)
    where
      go : (t : Bool) → AccessOk base len (cond t (store a (to_le n new)) nothing)
      go true = bytes_inside a n new i
      go false = tt

-- at a register width of xlen bits and with the setting misaligned, with the pc and memory before the step
module _ (xlen misaligned : ℕ) (enough : 2 ≤ xlen) (pc : ℕ) (aligned : pc % 4 ≡ 0) (base : ℕ) (mem : List ℕ) where
  next_aligned : next_pc xlen pc % 4 ≡ 0
  unfolding low
  next_aligned = low-low xlen 2 enough (pc + 4) ∙ omega arith

  sound_jump : (rd to : ℕ) → Sound base (length mem) (exec_jump xlen rd to pc)
  unfolding exec_jump
  sound_jump rd to = cond_cases (Sound base (length mem)) (eqb (to % 4) 0) _ _ (λ t. (eqb-true (to % 4) 0 t, tt)) (λ f. tt)

  sound_branch : (taken : Bool) (to : ℕ) → Sound base (length mem) (exec_branch xlen taken to pc)
  unfolding exec_branch
  sound_branch true to = cond_cases (Sound base (length mem)) (eqb (to % 4) 0) _ _ (λ t. (eqb-true (to % 4) 0 t, tt)) (λ f. tt)
  sound_branch false to = (next_aligned, tt)

  sound_load : (op : LoadOp) (rd a : ℕ) → Sound base (length mem) (exec_load xlen op rd a pc base mem)
  unfolding exec_load
  sound_load op rd a =
      sound_checked base (length mem) 4 5 a (load_bytes op) _ (omega arith) (omega arith) (λ i. (next_aligned, tt))

  sound_store : (op : StoreOp) (a v : ℕ) → Sound base (length mem) (exec_store xlen op a v pc base mem)
  unfolding exec_store
  sound_store op a v =
      sound_checked base (length mem) 6 7 a (store_bytes op) _ (omega arith) (omega arith)
      (λ i. (next_aligned, bytes_inside base (length mem) a (store_bytes op) v i.1))

  sound_lr : (w : Width) (rd a : ℕ) → Sound base (length mem) (exec_lr xlen misaligned w rd a pc base mem)
  unfolding exec_lr
  sound_lr w rd a =
      sound_checked base (length mem) (lr_cause misaligned) 5 a (bytes_of w) _ (lr_cause_some misaligned) (omega arith) (λ i. (next_aligned, (width_is w, i)))

  sound_amo : (op : AmoOp) (w : Width) (rd a v : ℕ) → Sound base (length mem) (exec_amo xlen misaligned op w rd a v pc base mem)
  unfolding exec_amo
  sound_amo op w rd a v =
      sound_checked base (length mem) (amo_cause misaligned) 7 a (bytes_of w) _ (amo_cause_some misaligned) (omega arith)
      (λ i. (next_aligned, bytes_inside base (length mem) a (bytes_of w) _ i.1))

  sound_cas : (w : Width) (rd a want new : ℕ) → Sound base (length mem) (exec_cas xlen misaligned w rd a want new pc base mem)
  unfolding exec_cas
  sound_cas w rd a want new =
      sound_checked base (length mem) (amo_cause misaligned) 7 a (bytes_of w) _ (amo_cause_some misaligned) (omega arith)
      (λ i. (next_aligned, sound_swap base (length mem) a (bytes_of w) (value_at base mem a (bytes_of w)) (low (bits_of w) want) new i.1))

  sound_cas_pair : (w : Width) (rd a want new : ℕ) → Sound base (length mem) (exec_cas_pair xlen misaligned w rd a want new pc base mem)
  unfolding exec_cas_pair
  sound_cas_pair w rd a want new =
      sound_checked base (length mem) (amo_cause misaligned) 7 a (pair_bytes w) _ (amo_cause_some misaligned) (omega arith)
      (λ i. (next_aligned, sound_swap base (length mem) a (pair_bytes w) (value_at base mem a (pair_bytes w)) want new i.1))

  module _ (covered : ℕ → ℕ → Bool) where
    sound_sc : (w : Width) (rd a v : ℕ) → Sound base (length mem) (exec_sc xlen misaligned w rd a v pc base mem covered)
    unfolding exec_sc
    sound_sc w rd a v =
        sound_checked base (length mem) (amo_cause misaligned) 7 a (bytes_of w) _ (amo_cause_some misaligned) (omega arith)
        (λ i. cond_all (Sound base (length mem)) (covered a (bytes_of w)) _ _
        (next_aligned, bytes_inside base (length mem) a (bytes_of w) v i.1) (next_aligned, tt))

    sound_atomic : (op : AtomicOp) (m : Atomic) (x : ℕ → ℕ) → Sound base (length mem) (atomic_by xlen misaligned op m x pc base mem covered)
    sound_atomic Lr m x = sound_lr m.width m.rd (x m.rs1)
    sound_atomic Sc m x = sound_sc m.width m.rd (x m.rs1) (x m.rs2)
    sound_atomic Cas m x = sound_cas m.width m.rd (x m.rs1) (x m.rd) (x m.rs2)
    sound_atomic CasPair m x = sound_cas_pair m.width m.rd (x m.rs1) (pair_at m.width x m.rd) (pair_at m.width x m.rs2)
    sound_atomic (Rmw op) m x = sound_amo op m.width m.rd (x m.rs1) _

    pub sound_execute : (i : Instr) (word : ℕ) (x : ℕ → ℕ) → Sound base (length mem) (execute xlen misaligned i word x pc base mem covered)
    unfolding execute exec_atomic
    sound_execute Illegal word x = tt
    sound_execute Ecall word x = tt
    sound_execute Ebreak word x = tt
    sound_execute (Jal rd imm) word x = sound_jump rd (offset xlen pc imm)
    sound_execute (Jalr rd rs1 imm) word x = sound_jump rd (clear_bit0 (offset xlen (x rs1) imm))
    sound_execute (Branch op rs1 rs2 imm) word x = sound_branch (holds_of xlen op (x rs1) (x rs2)) (offset xlen pc imm)
    sound_execute (Load op rd rs1 imm) word x = sound_load op rd (offset xlen (x rs1) imm)
    sound_execute (Store op rs1 rs2 imm) word x = sound_store op (offset xlen (x rs1) imm) (x rs2)
    sound_execute (Amo m) word x = sound_atomic m.op m x
    sound_execute _ word x = (next_aligned, tt)

-- Whatever the word, the registers, the reservation and the setting, a step from an aligned pc goes to an aligned pc, and reserves and stores inside memory only.
pub sound : (xlen misaligned word : ℕ) (x : ℕ → ℕ) (pc base : ℕ) (mem : List ℕ) (covered : ℕ → ℕ → Bool) → 2 ≤ xlen → pc % 4 ≡ 0
    → Sound base (length mem) (execute_word xlen misaligned word x pc base mem covered)
unfolding execute_word
sound xlen misaligned word x pc base mem covered enough aligned = sound_execute xlen misaligned enough pc aligned base mem covered (decode_at xlen word) word x
