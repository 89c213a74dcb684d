-- One turn of the scan. Assumes nothing.
use Rattle.std.proofs.Common.{◌≡◌, ℕ, zero, suc, ◌+◌, ◌-◌, ◌<◌, ◌≤◌, Bool, cond, List, length, Some, None, refl, ◌∙◌, sym, add-one, arith}
use Rattle.settings.specs.declared.Settings.{Settings}
use Rattle.retry.specs.Loop.{view_at, past_sc, lowest_of, reason_in, or_else, scan_of}
use Rattle.retry.specs.declared.View.{View}
use Rattle.retry.specs.declared.LoopAnswer.{LoopAnswer}
use Rattle.retry.specs.declared.LoopAnswer.TheVariants.{Accepted, Rejected}

stop : (place n r : ℕ) (rest : LoopAnswer) → reason_in n ≡ Some r → or_else place n rest ≡ Rejected place r
stop place zero r rest h = cc
stop place (suc n) r rest h = cc

on : (place n : ℕ) (rest : LoopAnswer) → reason_in n ≡ None → or_else place n rest ≡ rest
on place zero rest h = refl
on place (suc n) rest h = cc

module _ (settings : Settings) (rs1 width : ℕ) (ws : List ℕ) (place : ℕ) where
  turn : place < length ws
      → scan_of settings rs1 width ws (length ws - place) place
      ≡ or_else place (lowest_of rs1 width (past_sc settings ws place) place (view_at settings ws place))
      (scan_of settings rs1 width ws (length ws - suc place) (suc place))
  unfolding scan_of
  turn h = let e : length ws - place ≡ suc (length ws - suc place) = omega arith in rw e

  pub scan_stop : (past : Bool) (v : View) (r : ℕ) → past ≡ past_sc settings ws place → v ≡ view_at settings ws place → place < length ws
      → reason_in (lowest_of rs1 width past place v) ≡ Some r → scan_of settings rs1 width ws (length ws - place) place ≡ Rejected place r
  scan_stop past v r p e h found = turn h ∙ stop place _ r _ (rw (p, e) at found)

  pub scan_on : (past : Bool) (v : View) → past ≡ past_sc settings ws place → v ≡ view_at settings ws place → place < length ws
      → reason_in (lowest_of rs1 width past place v) ≡ None
      → scan_of settings rs1 width ws (length ws - (place + 1)) (place + 1) ≡ scan_of settings rs1 width ws (length ws - place) place
  scan_on past v p e h none = rw add-one (sym (turn h ∙ on place _ _ (rw (p, e) at none)))

  pub scan_end : length ws ≤ place
      → scan_of settings rs1 width ws (length ws - place) place ≡ cond (past_sc settings ws place) Accepted (Rejected place 6)
  unfolding scan_of
  scan_end h = let e : length ws - place ≡ 0 = omega arith in rw e
