-- Instructions that leave memory as it was, each law over the register width. Assumes nothing.
use mathlib.Core.Path.{◌≡◌, refl}
use mathlib.Core.Bool.{Bool, true, false}
use mathlib.Core.List.{List}
use Prim.Native.Nat.{ℕ, ◌%◌}
use lib.Dec.{eqb}
use lib.ListN.{length}
use Rattle.word.proofs.ChooseLaws.{cond_all}
use Rattle.isa.specs.Width.{bytes_of}
use Rattle.isa.specs.declared.LoadOp.{LoadOp}
use Rattle.isa.specs.declared.Width.{Width}
use Rattle.effect.specs.Effect.{Exec, trap, memory_by}
use Rattle.effect.specs.Integer.{exec_jump, exec_branch}
use Rattle.effect.specs.Memory.{fault_of, checked, load_bytes, exec_load}
use Rattle.settings.specs.Settings.{lr_cause}
use Rattle.effect.specs.Atomic.{exec_lr}

module _ (base : ℕ) (mem : List ℕ) where
  -- memory is as it was
  Leaves : Exec → Type 0
  Leaves e = memory_by base mem e ≡ mem

  pub memory_by-checked : (unaligned outside a n len : ℕ) (e : Exec) → memory_by base mem e ≡ mem
      → memory_by base mem (checked unaligned outside a n base len e) ≡ mem
  unfolding checked Leaves
  memory_by-checked unaligned outside a n len e l =
      cond_all Leaves (eqb (fault_of unaligned outside a n base len) 0) e (trap (fault_of unaligned outside a n base len) a) l refl

  module _ (xlen : ℕ) where
    pub memory_by_jump : (rd to pc : ℕ) → memory_by base mem (exec_jump xlen rd to pc) ≡ mem
    unfolding exec_jump Leaves
    memory_by_jump rd to pc = cond_all Leaves (eqb (to % 4) 0) _ _ refl refl

    pub memory_by_branch : (taken : Bool) (to pc : ℕ) → memory_by base mem (exec_branch xlen taken to pc) ≡ mem
    unfolding exec_branch Leaves
    memory_by_branch true to pc = cond_all Leaves (eqb (to % 4) 0) _ _ refl refl
    memory_by_branch false to pc = refl

    pub memory_by_load : (op : LoadOp) (rd a pc : ℕ) → memory_by base mem (exec_load xlen op rd a pc base mem) ≡ mem
    unfolding exec_load
    memory_by_load op rd a pc = memory_by-checked 4 5 a (load_bytes op) (length mem) _ refl

    pub memory_by_lr : (misaligned : ℕ) (w : Width) (rd a pc : ℕ) → memory_by base mem (exec_lr xlen misaligned w rd a pc base mem) ≡ mem
    unfolding exec_lr
    memory_by_lr misaligned w rd a pc = memory_by-checked (lr_cause misaligned) 5 a (bytes_of w) (length mem) _ refl
