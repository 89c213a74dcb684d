-- A run is refused exactly by the rows of 01, the first that applies, at the lowest place where it does. Assumes nothing.
use Prim.Native.Nat.{ℕ, ◌≤◌, ◌<◌}
use Rattle.std.specs.Prelude as Std
use Rattle.std.specs.Prelude.{Ok, Err}
use mathlib.Core.Path.{◌≡◌, refl, ap, subst}
use mathlib.Core.Logic.{◌↔◌}
use mathlib.Core.List.{List}
use native.Mathlib.Omega.{arith}
use lib.ListN.{length, take}
use borrow.Author.Tests.{ne_eqb}
use Rattle.word.proofs.TestLaws.{bool_cases, contrary, never}
use Rattle.machine.specs.State.{memory_ok, state_ok, refusal_of}
use Rattle.machine.specs.Rules.{MemoryRules, StateRules}
use Rattle.machine.specs.declared.State.{State}
use Rattle.machine.proofs.StateLaws.{memory_exact, wrong_exact, state_exact, refusal_0, refusal_1, refusal_2}
use Rattle.events.specs.Events.{Checked, checked_of, events_of}
use Rattle.events.specs.Rules.{WrongEvents, NoneWrong}
use Rattle.events.proofs.RuleLaws as E
use Rattle.events.proofs.RowLaws as R
use Rattle.model.specs.Perform.{run_of}
use Rattle.model.specs.Run.{Result, refused_run, performed_run, performed_count, result_of}
use Rattle.refusal.specs.declared.Refusal.{Refusal}
use Rattle.answers.specs.Runs.{RunRow, wrong_memory, wrong_state, wrong_body, RunRefused, RunUnrefused}

-- ---- the verdicts apart

abbrev Verdict : Type 0
Verdict = Std.Result (Unit {0}) Refusal

abbrev refusals : Verdict → ℕ
refusals (Ok x) = 0
refusals (Err r) = 1

abbrev number_in : Verdict → ℕ
number_in (Ok x) = 0
number_in (Err r) = r.number

abbrev place_in : Verdict → ℕ
place_in (Ok x) = 0
place_in (Err r) = r.place

abbrev verdict_in : Result → Verdict
verdict_in r = r.ran.verdict

-- ---- the rows decide

module _ (base : ℕ) (mem : List ℕ) (s : State) (body : List ℕ) where
  -- a row of 11 is one of the body
  of_body : (p : ℕ) → RunRow base mem s body 11 p → WrongEvents s.count base (length mem) body p
  of_body p (wrong_memory q z r) = absurd (omega arith)
  of_body p (wrong_state q z r) = absurd (omega arith)
  of_body p (wrong_body q r) = r

  none_below : (n : ℕ) → (1 < n → MemoryRules s.settings base (length mem)) → (2 < n → StateRules base (length mem) s)
      → (11 < n → NoneWrong s.count base (length mem) body) → (k p : ℕ) → k < n → RunRow base mem s body k p → ⊥
  none_below n a b c k p l (wrong_memory q z r) = (wrong_exact s.settings base (length mem)).0 r (a (omega arith))
  none_below n a b c k p l (wrong_state q z r) = r (b (omega arith))
  none_below n a b c k p l (wrong_body q r) = c (omega arith) p r

  most : (k p : ℕ) → RunRow base mem s body k p → k ≤ 11
  most k p (wrong_memory q z r) = omega arith
  most k p (wrong_state q z r) = omega arith
  most k p (wrong_body q r) = omega arith

  -- one number and one place
  pub run_refused_one : (m p n q : ℕ) → RunRefused base mem s body m p → RunRefused base mem s body n q → (m ≡ n) × (p ≡ q)
  run_refused_one = R.one_row (RunRow base mem s body)

  module _ (budget : ℕ) where
    -- what a run gives that is performed, and one that is refused
    abbrev pub performs : Result
    performs =
        performed_run (performed_count body budget) (run_of base (record { state = s; mem = mem }) (take (performed_count body budget) (events_of body)))

    abbrev refused : ℕ → ℕ → Result
    refused number place = refused_run number place s mem

    -- refused by the first row that applies, at the lowest place, or performed
    abbrev Decided : Type 0
    Decided = R.Decided (RunRow base mem s body) (result_of base mem s body budget) refused performs

    early : (n : ℕ) → 0 < n → refusal_of base (length mem) s ≡ n → result_of base mem s body budget ≡ refused_run n 0 s mem
    unfolding result_of
    early n l q = rw (q, ne_eqb n 0 (λ z. omega arith))

    by_body : MemoryRules s.settings base (length mem) → StateRules base (length mem) s → (c : Checked)
        → checked_of s.count base (length mem) body ≡ c → Decided
    unfolding result_of
    by_body m r (Err p) e =
        let w = (E.bad_exact s.count base (length mem) body p).0 e in
        R.refuses 11 p (rw ((refusal_0 base (length mem) s).1 (m, r), e))
        (record {
          applies = wrong_body refl w.wrong;
          first = none_below 11 (λ l. m) (λ l. r) (never refl);
          lowest = λ q l v. w.lowest q l (of_body q v);
        })
    by_body m r (Ok x) e =
        let w = (E.good_exact s.count base (length mem) body).0 e in
        R.accepts (rw ((refusal_0 base (length mem) s).1 (m, r), e))
        (λ k p v. none_below 12 (λ l. m) (λ l. r) (λ l. w) k p (omega (arith, most k p v)) v)

    decided : Decided
    decided =
        bool_cases (memory_ok s.settings base (length mem))
        (λ t.
        let m = (memory_exact s.settings base (length mem)).0 t in
        bool_cases (state_ok base (length mem) s)
        (λ u. by_body m ((state_exact base (length mem) s).0 u) (checked_of s.count base (length mem) body) refl)
        (λ u.
        let bad : StateRules base (length mem) s → ⊥ = λ r. contrary ((state_exact base (length mem) s).1 r) u in
        R.refuses 2 0 (early 2 (omega arith) ((refusal_2 base (length mem) s).1 (m, bad)))
        (record {
          applies = wrong_state refl refl bad;
          first = none_below 2 (λ l. m) (never refl) (never refl);
          lowest = λ q l v. omega arith;
        })))
        (λ t.
        let bad = (wrong_exact s.settings base (length mem)).1 (λ r. contrary ((memory_exact s.settings base (length mem)).1 r) t) in
        R.refuses 1 0 (early 1 (omega arith) ((refusal_1 base (length mem) s).1 bad))
        (record {
          applies = wrong_memory refl refl bad;
          first = none_below 1 (never refl) (never refl) (never refl);
          lowest = λ q l v. omega arith;
        }))

    -- ---- both ways

    -- 01: "a refused run reports 0 performed"; the state and the memory are as given
    pub run_refused_keeps : (number place : ℕ) → RunRefused base mem s body number place
        → result_of base mem s body budget ≡ refused_run number place s mem
    run_refused_keeps = R.refused_by (RunRow base mem s body) (result_of base mem s body budget) refused performs decided

    -- 01: "the smaller of the budget and the number of events; the state is the one after exactly that many"
    pub run_performed_gives : RunUnrefused base mem s body → result_of base mem s body budget ≡ performs
    run_performed_gives = R.accepted_by (RunRow base mem s body) (result_of base mem s body budget) refused performs decided

    row_of : refusals (verdict_in (result_of base mem s body budget)) ≡ 1
        → RunRefused base mem s body (number_in (verdict_in (result_of base mem s body budget))) (place_in (verdict_in (result_of base mem s body budget)))
    row_of =
        R.row_of (RunRow base mem s body) (result_of base mem s body budget) refused performs (λ (r : Result). refusals (verdict_in r))
        (λ (r : Result). number_in (verdict_in r)) (λ (r : Result). place_in (verdict_in r)) (λ n p. refl) refl (λ n p. refl) (λ n p. refl) decided

    no_row_of : refusals (verdict_in (result_of base mem s body budget)) ≡ 0 → RunUnrefused base mem s body
    no_row_of =
        R.no_row_of (RunRow base mem s body) (result_of base mem s body budget) refused performs (λ (r : Result). refusals (verdict_in r))
        (λ (r : Result). number_in (verdict_in r)) (λ (r : Result). place_in (verdict_in r)) (λ n p. refl) refl (λ n p. refl) (λ n p. refl) decided

    -- 01: a run is refused by this number at this place exactly if its row is the first that applies, and this the lowest place where it does
    pub run_refused_exact : (number place : ℕ)
        → ((result_of base mem s body budget).ran.verdict ≡ Err (record { number = number; place = place })) ↔ RunRefused base mem s body number place
    run_refused_exact n p = (
      λ o.
          subst (RunRefused base mem s body n) (ap place_in o)
          (subst (λ (k : ℕ). RunRefused base mem s body k (place_in (verdict_in (result_of base mem s body budget)))) (ap number_in o) (row_of (ap refusals o))),
      λ r. ap verdict_in (run_refused_keeps n p r),
    )

    -- and is performed exactly if none applies
    pub run_performed_exact : ((result_of base mem s body budget).ran.verdict ≡ Ok tt) ↔ RunUnrefused base mem s body
    run_performed_exact = (λ o. no_row_of (ap refusals o), λ u. ap verdict_in (run_performed_gives u))
