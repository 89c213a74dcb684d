-- What a word is at a register width, by the one test that the code makes of it. Assumes nothing.
use Rattle.std.proofs.Common.{Result}
use mathlib.Core.Path.{◌≡◌, sym, ap, ◌∙◌, subst}
use mathlib.Core.Bool.{Bool, true, false, ◌&&◌}
use mathlib.Core.List.{List}
use Prim.Native.Nat.{ℕ}
use lib.Dec.{eqb}
use Rattle.word.specs.Word.{Xlen}
use Rattle.isa.specs.Decode.{decode_of}
use Rattle.isa.specs.Narrow.{narrowed_at, lacks, paired_at, decode_at}
use Rattle.isa.proofs.NarrowLaws.{narrowed_by}
use Rattle.isa.specs.declared.Instr.{Instr}
use Rattle.isa.specs.declared.Instr.TheVariants.{Illegal}
use Rattle.effect.specs.Effect.{Exec, Meets}
use Rattle.effect.specs.Sound.{Fitting}
use Rattle.effect.specs.Execute.{execute, execute_word}
use Rattle.effect.specs.declared.Effect.{Effect}
use Rattle.effect.specs.declared.Trap.{Trap}
use Rattle.effect.proofs.Fitting.{fitting_at}

-- an answer of one effect is one of any that it equals
pub met_as : {h base : ℕ} {e f : Exec} {mem after : List ℕ} {r : Result Effect Trap} → f ≡ e → Meets h f base mem r after → Meets h e base mem r after
met_as {h} {base} {e} {f} {mem} {after} {r} q m = subst (λ (x : Exec). Meets h x base mem r after) q m

-- of an instruction i that a word decodes to at 64 bits
module _ (xlen word : ℕ) (i : Instr) (is : i ≡ decode_of word) where
  -- it is lacked
  pub lacked_word : (eqb xlen 32 && lacks i) ≡ true → (misaligned : ℕ) (x : ℕ → ℕ) (pc base : ℕ) (mem : List ℕ) (covered : ℕ → ℕ → Bool)
      → execute xlen misaligned Illegal word x pc base mem covered ≡ execute_word xlen misaligned word x pc base mem covered
  unfolding execute_word decode_at
  lacked_word t misaligned x pc base mem covered =
      ap (λ (j : Instr). execute xlen misaligned j word x pc base mem covered) (sym (narrowed_by xlen i ∙ rw t) ∙ ap (narrowed_at xlen) is)

  -- it isn't, and is what it is at that width
  module _ (has : (eqb xlen 32 && lacks i) ≡ false) where
    had : narrowed_at xlen i ≡ paired_at xlen i
    had = narrowed_by xlen i ∙ rw has

    pub had_word : (misaligned : ℕ) (x : ℕ → ℕ) (pc base : ℕ) (mem : List ℕ) (covered : ℕ → ℕ → Bool)
        → execute xlen misaligned (paired_at xlen i) word x pc base mem covered ≡ execute_word xlen misaligned word x pc base mem covered
    unfolding execute_word decode_at
    had_word misaligned x pc base mem covered =
        ap (λ (j : Instr). execute xlen misaligned j word x pc base mem covered) (sym had ∙ ap (narrowed_at xlen) is)

    pub had_fits : Xlen xlen → Fitting xlen (paired_at xlen i)
    had_fits width = subst (Fitting xlen) had (fitting_at xlen width i)
