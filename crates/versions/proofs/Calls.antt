-- Runs and replays under 2.0 and under 2.1. Assumes nothing.
use mathlib.Core.Path.{◌≡◌, refl, ◌∙◌, ap}
use mathlib.Core.Bool.{Bool, true, false, cond}
use mathlib.Core.List.{List, [], ◌∷◌}
use Prim.Native.Nat.{ℕ, suc, ◌/◌, ◌%◌}
use lib.Dec.{eqb}
use lib.ListN.{length, take}
use Rattle.std.specs.Prelude.{Option, None, Some, Ok, Err}
use Rattle.machine.specs.State.{refusal_of}
use Rattle.machine.specs.declared.State.{State}
use Rattle.events.specs.Events.{Checked, checked_of, events_of}
use Rattle.events.specs.declared.Event.TheVariants.{Step}
use Rattle.model.specs.Perform.{Machine}
use Rattle.model.specs.Run.{Result, performed_count, refused_run, performed_run, run_checked, result_of}
use Rattle.steplog.specs.declared.Row.{Row}
use Rattle.rows.specs.Row.{Told, told_by_word, told_by_pc, told_of, stepped}
use Rattle.rows.specs.Replay.{readings, End, end_by, end_of, ended, refused_replay, replay_of}
use Rattle.rows.specs.Replay as Replay
use Rattle.versions.specs.Versions.{state_under, under, DevicesSpare, SameVerdict, ran_under, replayed_under}
use Rattle.versions.proofs.Versions.{width_same, refusal_same, same_answer, next_same, new_stays, same_run}

-- two choices by one test
both : {A : Type 0} (R : A → A → Type 0) (t : Bool) (a b c d : A) → (t ≡ true → R a c) → (t ≡ false → R b d) → R (cond t a b) (cond t c d)
both R true a b c d p q = p refl
both R false a b c d p q = q refl

-- ---- runs

module _ (base : ℕ) (m : Machine) (body : List ℕ) (budget : ℕ) where
  abbrev mem : List ℕ
  mem = m.mem

  abbrev old : State
  old = state_under 20 m.state

  abbrev new : State
  new = state_under 21 m.state

  -- the body is looked at by the count and the memory alone
  abbrev body_checked : Checked
  body_checked = checked_of m.state.count base (length mem) body

  abbrev number : ℕ
  number = refusal_of base (length mem) new

  -- refusals 1 and 2 don't ask which of the two it is
  run_by : (R : Result → Result → Type 0)
      → (eqb number 0 ≡ true → R (run_checked body_checked base mem old body budget) (run_checked body_checked base mem new body budget))
      → R (refused_run number 0 old mem) (refused_run number 0 new mem)
      → R (result_of base mem old body budget) (result_of base mem new body budget)
  unfolding result_of
  run_by R f g = rw (refusal_same base m) (both R (eqb number 0) _ _ _ _ f (λ t. g))

  abbrev SameRan : Result → Result → Type 0
  SameRan a b = (a.ran.verdict ≡ b.ran.verdict) × (a.ran.performed ≡ b.ran.performed)

  checked_verdict : (c : Checked) → SameRan (run_checked c base mem old body budget) (run_checked c base mem new body budget)
  checked_verdict (Ok x) = (refl, refl)
  checked_verdict (Err place) = (refl, refl)

  pub same_verdict : SameVerdict base m body budget
  same_verdict =
      let r = run_by SameRan (λ t. checked_verdict body_checked) (refl, refl) in
      record { verdict = r.0; performed = r.1 }

  performed_new : eqb number 0 ≡ true → body_checked ≡ Ok tt → (result_of base mem new body budget).ran.verdict ≡ Ok tt
  unfolding result_of
  performed_new t g = rw (t, g)

  -- Where no device write among the events that the run performs breaks a reservation under 2.1, all of the answer is the same but for the version; so of
  -- every run that is refused.
  pub same_result : ((result_of base mem new body budget).ran.verdict ≡ Ok tt
      → DevicesSpare base (under 21 m) (take (performed_count body budget) (events_of body)))
      → result_of base mem old body budget ≡ ran_under 20 (result_of base mem new body budget)
  same_result spare = run_by (λ a b. a ≡ ran_under 20 b) (λ t. checked t body_checked refl) refl
    where
      checked : eqb number 0 ≡ true → (c : Checked) → body_checked ≡ c
          → run_checked c base mem old body budget ≡ ran_under 20 (run_checked c base mem new body budget)
      checked t (Ok x) g =
          ap (performed_run (performed_count body budget))
          (same_run base (take (performed_count body budget) (events_of body)) m (spare (performed_new t g)))
      checked t (Err place) g = refl

-- ---- replays

-- a row is told the same
told_same : (base : ℕ) (m : Machine) (r : Option Row) → told_of base (under 20 m) r ≡ told_of base (under 21 m) r
unfolding told_of told_by_pc told_by_word
told_same base m None = refl
told_same base m (Some r) = let a = same_answer base m (Step r.hart) in rw (width_same base m, a.outcome, a.registers)

-- and its step leads to the same machine but for the version
stepped_same : (base : ℕ) (m : Machine) (r : Option Row) → stepped base (under 20 m) r ≡ under 20 (stepped base (under 21 m) r)
unfolding stepped
stepped_same base m None = refl
stepped_same base m (Some r) = next_same base m (Step r.hart) (λ d. absurd d)

stepped_stays : (base : ℕ) (m : Machine) (r : Option Row) → under 21 (stepped base (under 21 m) r) ≡ stepped base (under 21 m) r
unfolding stepped
stepped_stays base m None = refl
stepped_stays base m (Some r) = new_stays base m (Step r.hart)

abbrev end_under : ℕ → End → End
end_under version e = record { stop = e.stop; rows = e.rows; machine = under version e.machine }

by_told : (t : Told) (m : Machine) (a b : End) → a ≡ end_under 20 b → end_by t (under 20 m) a ≡ end_under 20 (end_by t (under 21 m) b)
by_told (Ok x) m a b e = ap (λ (rest : End). record { stop = rest.stop; rows = suc rest.rows; machine = rest.machine }) e
by_told (Err s) m a b e = refl

same_end : (base : ℕ) (rs : List (Option Row)) (m : Machine) → end_of base (under 20 m) rs ≡ end_under 20 (end_of base (under 21 m) rs)
unfolding end_of
same_end base [] m = refl
same_end base (r ∷ rs) m =
    let next = stepped base (under 21 m) r in
    let rest : end_of base (stepped base (under 20 m) r) rs ≡ end_under 20 (end_of base next rs) =
    ap (λ (n : Machine). end_of base n rs) (stepped_same base m r)
    ∙ same_end base rs next
    ∙ ap (λ (n : Machine). end_under 20 (end_of base n rs)) (stepped_stays base m r) in
    ap (λ (t : Told). end_by t (under 20 m) (end_of base (stepped base (under 20 m) r) rs)) (told_same base m r)
    ∙ by_told (told_of base (under 21 m) r) m (end_of base (stepped base (under 20 m) r) rs) (end_of base next rs) rest

-- A log holds steps alone, so that nothing in a replay's answer but the version depends on the version: it is refused by the same number, or stops for the
-- same reason with the same values after as many rows, or all rows agree; and it leaves the same registers, pcs, reservations and memory.
pub same_replay : (base : ℕ) (m : Machine) (log : List ℕ)
    → replay_of base m.mem (state_under 20 m.state) log ≡ replayed_under 20 (replay_of base m.mem (state_under 21 m.state) log)
unfolding replay_of
same_replay base m log =
    let number = refusal_of base (length m.mem) (state_under 21 m.state) in
    let Same : Replay.Result → Replay.Result → Type 0 = λ a b. a ≡ replayed_under 20 b in
    rw (refusal_same base m)
    (both Same (eqb number 0) _ _ _ _
    (λ t. both Same (eqb (length log % 48) 0) _ _ _ _
    (λ u. both Same (eqb (length log) 0) _ _ _ _ (λ v. refl) (λ v. ap ended (same_end base (readings m.state.count (length log / 48) log) m)))
    (λ u. refl))
    (λ t. refl))
