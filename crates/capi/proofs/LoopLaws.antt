-- The checker's answers are small numbers: a place is at most 16, a reason at most 6. Assumes nothing.
use mathlib.Core.Path.{◌≡◌, refl}
use mathlib.Core.Bool.{Bool, true, false, cond}
use mathlib.Core.List.{List}
use Prim.Native.Nat.{ℕ, zero, suc, ◌+◌, ◌≤◌}
use native.Mathlib.Omega.{arith}
use lib.Dec.{ltb}
use lib.ListN.{length}
use borrow.Author.Tests.{ltb-false}
use Rattle.word.proofs.ChooseLaws.{cond_all}
use Rattle.settings.specs.Settings.{reading_ok}
use Rattle.settings.specs.declared.Settings.{Settings}
use Rattle.retry.specs.Loop.{view_at, past_sc, reason2, reason3, reason4, reason5, lowest_of, or_else, scan_of, start_of, check_of}
use Rattle.retry.specs.declared.View.{View}
use Rattle.retry.specs.declared.View.TheVariants.{Lr, Sc, Plain, Jump, Branch, Other}
use Rattle.retry.specs.declared.LoopAnswer.{LoopAnswer}
use Rattle.retry.specs.declared.LoopAnswer.TheVariants.{Accepted, Rejected, Refused}

abbrev pub Small : LoopAnswer → Type 0
Small Accepted = Unit {0}
Small (Rejected place reason) = (place ≤ 16) × (reason ≤ 6)
Small (Refused number) = Unit {0}

either : (t : Bool) (a b : ℕ) → a ≤ 6 → b ≤ 6 → cond t a b ≤ 6
either t a b = cond_all (λ (k : ℕ). k ≤ 6) t a b

small_lowest : (rs1 width : ℕ) (past : Bool) (place : ℕ) (v : View) → lowest_of rs1 width past place v ≤ 6
unfolding lowest_of
small_lowest rs1 width past place v =
    either (reason2 past place v) 2 _ (omega arith)
    (either (reason3 past place v) 3 _ (omega arith)
    (either (reason4 rs1 past v) 4 _ (omega arith) (either (reason5 rs1 width past v) 5 0 (omega arith) (omega arith))))

small_end : (t : Bool) (place : ℕ) → place ≤ 16 → Small (cond t Accepted (Rejected place 6))
small_end t place h = cond_all Small t Accepted (Rejected place 6) tt (h, omega arith)

small_else : (place r : ℕ) (rest : LoopAnswer) → place ≤ 16 → r ≤ 6 → Small rest → Small (or_else place r rest)
small_else place zero rest h k s = s
small_else place (suc r) rest h k s = (h, k)

module _ (settings : Settings) (ws : List ℕ) where
  small_scan : (rs1 width n place : ℕ) → place + n ≤ 16 → Small (scan_of settings rs1 width ws n place)
  unfolding scan_of
  small_scan rs1 width zero place h = small_end (past_sc settings ws place) place (omega arith)
  small_scan rs1 width (suc n) place h =
      small_else place _ _ (omega arith) (small_lowest rs1 width (past_sc settings ws place) place (view_at settings ws place))
      (small_scan rs1 width n (suc place) (omega arith))

  small_start : (v : View) → length ws ≤ 16 → Small (start_of settings v ws)
  unfolding start_of
  small_start (Lr rd rs1 width) h = small_scan rs1 width (length ws) 0 (omega arith)
  small_start (Sc rs1 width) h = (omega arith, omega arith)
  small_start (Plain rd) h = (omega arith, omega arith)
  small_start (Jump rd offset) h = (omega arith, omega arith)
  small_start (Branch offset) h = (omega arith, omega arith)
  small_start Other h = (omega arith, omega arith)

  small_long : (t : Bool) → ltb 16 (length ws) ≡ t → Small (cond t (Refused 6) (start_of settings (view_at settings ws 0) ws))
  small_long true e = tt
  small_long false e = small_start (view_at settings ws 0) (ltb-false 16 (length ws) e)

  pub small_check : Small (check_of settings ws)
  unfolding check_of
  small_check =
      cond_all Small (reading_ok settings) _ (Refused 2) (cond_all Small (ltb (length ws) 2) (Refused 6) _ tt (small_long (ltb 16 (length ws)) refl)) tt
