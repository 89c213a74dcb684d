-- What a row shows of a step: the register that the step sets, and what it holds afterwards. Assumes nothing.
use mathlib.Core.Path.{◌≡◌, ap, subst, ◌∙◌}
use Prim.Native.Nat.{ℕ, ◌+◌, ◌*◌, ◌%◌, ◌<◌}
use native.Mathlib.Omega.{arith}
use lib.ListN.{get_or}
use Rattle.word.proofs.TestLaws.{bool_cases}
use Rattle.reserve.proofs.RangeLaws.{inside_of_lem}
use Rattle.isa.specs.Narrow.{decode_at}
use Rattle.effect.specs.Effect.{Writes, Access, trap, effect}
use Rattle.effect.specs.Execute.{reg_at}
use Rattle.events.specs.declared.Event.TheVariants.{Step}
use Rattle.model.specs.Perform.{Machine, xlen, fetch_of, step_of, next_of}
use Rattle.model.specs.Valid.{Valid}
use Rattle.model.proofs.Valid.{valid_next}
use Rattle.model.proofs.Frame.{count_next}
use Rattle.reach.specs.Rd.{SetsRd}
use Rattle.reach.specs.Reach.{writes_at}
use Rattle.reach.proofs.ReachLaws.{Reaches}
use Rattle.rows.specs.Row.{pc_at, word_at, fetchable, rd_at, value_after}
use Rattle.rows.proofs.RowLaws.{exec_reaches}

module _ (base : ℕ) (m : Machine) (v : Valid base m) (h : ℕ) (l : h < m.state.count) where
  -- A step that retires sets the register that its row shows, of a pair the first; where it sets none, the row shows 0.
  pub shows_rd : (ws : Writes) (to : ℕ) (t : Access) → step_of base m.mem m.state h ≡ effect ws to t → SetsRd (rd_at base m h) ws
  unfolding fetch_of
  shows_rd ws to t e =
      bool_cases (fetchable base m h)
      (λ f.
      let a = writes_at (xlen m) (decode_at (xlen m) (word_at base m h)) (reg_at m.state.x h) in
      (subst (Reaches (rd_at base m h) a) e (exec_reaches base m v h l (inside_of_lem _ _ _ _ f))).0)
      (λ f.
      let traps : step_of base m.mem m.state h ≡ trap 1 (pc_at base m h) = rw f in
      absurd cc)

  -- "rd is 00 and its value zero where the word has no rd": where the row shows x0, it shows zero.
  pub shows_zero : rd_at base m h ≡ 0 → value_after base m h ≡ 0
  unfolding reg_at
  shows_zero e =
      let next = next_of base m (Step h) in
      let below : h < next.state.count = rw (count_next base m (Step h)) l in
      let zero : get_or next.state.x (h * 32) 0 ≡ 0 = ((valid_next base m v (Step h)).1.2 h below).0 in
      let at : h * 32 + rd_at base m h % 32 ≡ h * 32 = omega (arith, e) in
      ap (λ (k : ℕ). get_or next.state.x k 0) at ∙ zero
