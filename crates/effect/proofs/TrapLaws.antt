-- The table of traps (01, "Traps"), read without tests: which cause and value, and when none. Cause 1 is of the fetch. Assumes nothing.
use Prim.Native.Nat.{ℕ, ◌%◌, ◌<◌}
use mathlib.Core.Path.{◌≡◌, refl, ◌∙◌}
use mathlib.Core.Bool.{Bool, true, false}
use mathlib.Core.List.{List}
use native.Mathlib.Omega.{arith}
use lib.ListN.{length}
use borrow.Author.Tests.{eq-eqb, ne_eqb}
use Rattle.word.proofs.TestLaws.{bool_cases}
use Rattle.settings.specs.Settings.{amo_cause}
use Rattle.settings.proofs.SettingsLaws.{amo_cause_some}
use Rattle.reserve.specs.Range.{Inside, inside_of}
use Rattle.reserve.proofs.RangeLaws.{inside_of_lem, of_inside}
use Rattle.isa.specs.Width.{bytes_of}
use Rattle.isa.specs.declared.Width.{Width}
use Rattle.effect.specs.Effect.{Exec, trap, effect, none, one, nothing, sc_failed, sc_stored, next_pc}
use Rattle.effect.specs.Integer.{exec_jump, exec_branch}
use Rattle.effect.specs.Memory.{fault_of, checked}
use Rattle.effect.specs.Atomic.{exec_sc}
use Rattle.word.specs.Bytes.{to_le}

-- causes 4 to 7: an access of n bytes at a, in a memory of len bytes at base. A load has causes 4 and 5, a store 6 and 7; LR, SC and AMO have the first by
-- their setting
module _ (unaligned outside a n base len : ℕ) (some : 0 < unaligned) (more : 0 < outside) (e : Exec) where
  caused : (cause : ℕ) → fault_of unaligned outside a n base len ≡ cause → 0 < cause
      → checked unaligned outside a n base len e ≡ trap cause a
  unfolding checked
  caused cause f pos = rw (f, ne_eqb cause 0 (λ z. omega arith))

  pub misaligned_traps : (a % n ≡ 0 → ⊥) → checked unaligned outside a n base len e ≡ trap unaligned a
  unfolding fault_of
  misaligned_traps d = caused unaligned (rw (ne_eqb (a % n) 0 d)) some

  not_inside : (Inside base len a n → ⊥) → inside_of base len a n ≡ false
  not_inside d = bool_cases (inside_of base len a n) (λ t. absurd (d (inside_of_lem base len a n t))) (λ f. f)

  pub outside_traps : a % n ≡ 0 → (Inside base len a n → ⊥) → checked unaligned outside a n base len e ≡ trap outside a
  unfolding fault_of
  outside_traps al d = caused outside (rw (eq-eqb (a % n) 0 al, not_inside d)) more

  pub access_retires : a % n ≡ 0 → Inside base len a n → checked unaligned outside a n base len e ≡ e
  unfolding checked fault_of
  access_retires al i = rw (eq-eqb (a % n) 0 al, of_inside base len a n i)

module _ (xlen pc : ℕ) where
  -- cause 0: JAL and JALR, and a taken branch
  pub jump_traps : (rd to : ℕ) → (to % 4 ≡ 0 → ⊥) → exec_jump xlen rd to pc ≡ trap 0 to
  unfolding exec_jump
  jump_traps rd to d = rw (ne_eqb (to % 4) 0 d)

  pub jump_retires : (rd to : ℕ) → to % 4 ≡ 0 → exec_jump xlen rd to pc ≡ effect (one rd (next_pc xlen pc)) to nothing
  unfolding exec_jump
  jump_retires rd to al = rw (eq-eqb (to % 4) 0 al)

  pub branch_traps : (to : ℕ) → (to % 4 ≡ 0 → ⊥) → exec_branch xlen true to pc ≡ trap 0 to
  unfolding exec_branch
  branch_traps to d = rw (ne_eqb (to % 4) 0 d)

  pub branch_taken : (to : ℕ) → to % 4 ≡ 0 → exec_branch xlen true to pc ≡ effect none to nothing
  unfolding exec_branch
  branch_taken to al = rw (eq-eqb (to % 4) 0 al)

  pub branch_passed : (to : ℕ) → exec_branch xlen false to pc ≡ effect none (next_pc xlen pc) nothing
  unfolding exec_branch
  branch_passed to = refl

  -- an SC: its causes whatever the reservation, which decides where neither is given
  module _ (misaligned : ℕ) (w : Width) (rd a v base : ℕ) (mem : List ℕ) (covered : ℕ → ℕ → Bool) where
    pub exec_sc_misaligned : (a % bytes_of w ≡ 0 → ⊥) → exec_sc xlen misaligned w rd a v pc base mem covered ≡ trap (amo_cause misaligned) a
    unfolding exec_sc
    exec_sc_misaligned d = misaligned_traps (amo_cause misaligned) 7 a (bytes_of w) base (length mem) (amo_cause_some misaligned) (omega arith) _ d

    pub exec_sc_outside : a % bytes_of w ≡ 0 → (Inside base (length mem) a (bytes_of w) → ⊥) → exec_sc xlen misaligned w rd a v pc base mem covered ≡ trap 7 a
    unfolding exec_sc
    exec_sc_outside al d = outside_traps (amo_cause misaligned) 7 a (bytes_of w) base (length mem) (amo_cause_some misaligned) (omega arith) _ al d

    module _ (al : a % bytes_of w ≡ 0) (i : Inside base (length mem) a (bytes_of w)) where
      pub exec_sc_stored : covered a (bytes_of w) ≡ true
          → exec_sc xlen misaligned w rd a v pc base mem covered ≡ effect (one rd 0) (next_pc xlen pc) (sc_stored a (to_le (bytes_of w) v))
      unfolding exec_sc
      exec_sc_stored c = access_retires (amo_cause misaligned) 7 a (bytes_of w) base (length mem) (amo_cause_some misaligned) (omega arith) _ al i ∙ rw c

      pub exec_sc_failed : covered a (bytes_of w) ≡ false
          → exec_sc xlen misaligned w rd a v pc base mem covered ≡ effect (one rd 1) (next_pc xlen pc) sc_failed
      unfolding exec_sc
      exec_sc_failed c = access_retires (amo_cause misaligned) 7 a (bytes_of w) base (length mem) (amo_cause_some misaligned) (omega arith) _ al i ∙ rw c
