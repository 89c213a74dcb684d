-- Unused harts' fields aren't looked at: states that agree on the used harts get the same answers, leave the same memory and agree afterwards, for one
-- event, for every list of events and for every run of an events body. Assumes nothing; the states are of the right shape, as values of their type are.
use mathlib.Core.Path.{◌≡◌, refl, sym, ap, ap₂, ◌∙◌, subst, fun_ext}
use mathlib.Core.List.{List, [], ◌∷◌}
use Prim.Native.Nat.{ℕ, zero, suc, ◌+◌, ◌*◌, ◌%◌, ◌≤◌, ◌<◌}
use native.Mathlib.Nat.{add-zero, mod-eq_of_lt}
use native.Mathlib.Omega.{arith}
use lib.Dec.{eqb, ltb}
use lib.ListN.{length, get_or, set, take}
use borrow.Author.Tests.{ltb-true}
use Rattle.std.specs.Prelude.{None, Ok, Err}
use Rattle.word.specs.Each.{each}
use Rattle.word.proofs.TestLaws.{bool_cases, contrary}
use Rattle.settings.specs.Settings.{ReadingRules, MisalignedRules, xlen_of}
use Rattle.settings.specs.declared.Settings.{Settings}
use Rattle.reserve.specs.Reserve.{observe_slot, broken_of, observe_all_of}
use Rattle.reserve.specs.declared.Notice.{Notice}
use Rattle.reserve.specs.declared.Notice.TheVariants.{DeviceWrite, Yield}
use Rattle.machine.specs.Rules.{Shaped, StateRules, UpperZero}
use Rattle.machine.specs.State.{state_ok, refusal_of}
use Rattle.machine.specs.declared.State.{State}
use Rattle.machine.proofs.StateLaws.{state_exact}
use Rattle.effect.specs.Effect.{Writes, none, one, pair, notice_of}
use Rattle.effect.specs.Execute.{reg_at}
use Rattle.events.specs.Events.{Checked, checked_of, events_of}
use Rattle.events.specs.declared.Event.{Event}
use Rattle.events.specs.declared.Event.TheVariants.{Step, Device, Yield as YieldOf}
use Rattle.model.specs.Act.{Act, refuse, fault, change, put, release, outcome_of, set_reg, written, broken_after, apply, leaves}
use Rattle.model.specs.Perform.{Machine, step_of, of_exec, act_on, act_of, answer_of, memory_of, reply_at, next_of, run_of}
use Rattle.model.specs.Run.{performed_count, run_checked, result_of}
use Rattle.model.specs.Agree.{Agree, Alike, AlikeRuns, replies_of}
use Rattle.model.specs.declared.Outcome.{Outcome}
use Rattle.model.proofs.Frame.{length-set_reg, shaped_next}

-- ---- lists of one length, the same at a place

module _ {A : Type 0} (d : A) where
  set_same : (x y : List A) (i k : ℕ) (v : A) → length x ≡ length y → get_or x k d ≡ get_or y k d → get_or (set x i v) k d ≡ get_or (set y i v) k d
  set_same [] [] i k v l e = e
  set_same [] (b ∷ y) i k v l e = absurd (omega arith)
  set_same (a ∷ x) [] i k v l e = absurd (omega arith)
  set_same (a ∷ x) (b ∷ y) zero zero v l e = refl
  set_same (a ∷ x) (b ∷ y) zero (suc k) v l e = e
  set_same (a ∷ x) (b ∷ y) (suc i) zero v l e = e
  set_same (a ∷ x) (b ∷ y) (suc i) (suc k) v l e = set_same x y i k v (omega arith) e

  each_same : (f : ℕ → A → A) (n k : ℕ) (x y : List A) → length x ≡ length y → get_or x k d ≡ get_or y k d → get_or (each f n x) k d ≡ get_or (each f n y) k d
  each_same f zero k x y l e = e
  each_same f (suc n) k [] [] l e = e
  each_same f (suc n) k [] (b ∷ y) l e = absurd (omega arith)
  each_same f (suc n) k (a ∷ x) [] l e = absurd (omega arith)
  each_same f (suc n) zero (a ∷ x) (b ∷ y) l e = ap (f 0) e
  each_same f (suc n) (suc k) (a ∷ x) (b ∷ y) l e = each_same (λ j. f (suc j)) n k x y (omega arith) e

-- ---- an act

reg_set_same : (h r v k q : ℕ) (x y : List ℕ) → length x ≡ length y → reg_at x k q ≡ reg_at y k q → reg_at (set_reg h r v x) k q ≡ reg_at (set_reg h r v y) k q
unfolding set_reg reg_at
reg_set_same h r v k q x y l e =
    bool_cases (eqb (r % 32) 0) (λ t. rw t e) (λ f. rw f (set_same 0 x y (h * 32 + r % 32) (k * 32 + q % 32) v l e))

reg_written_same : (h : ℕ) (ws : Writes) (k q : ℕ) (x y : List ℕ) → length x ≡ length y → reg_at x k q ≡ reg_at y k q
    → reg_at (written h ws x) k q ≡ reg_at (written h ws y) k q
reg_written_same h none k q x y l e = e
reg_written_same h (one r v) k q x y l e = reg_set_same h r v k q x y l e
reg_written_same h (pair r v r2 v2) k q x y l e =
    reg_set_same h r2 v2 k q (set_reg h r v x) (set_reg h r v y) (length-set_reg h r v x ∙ l ∙ sym (length-set_reg h r v y)) (reg_set_same h r v k q x y l e)

module _ (s t : State) (a : Agree s t) where
  agree_sym : Agree t s
  agree_sym =
      record {
        counts = sym a.counts;
        settings = sym a.settings;
        registers = λ k u r. sym (a.registers k (rw a.counts u) r);
        pcs = λ k u. sym (a.pcs k (rw a.counts u));
        reservations = λ k u. sym (a.reservations k (rw a.counts u));
      }

  broken_same : (settings : Settings) (n : Notice) (k : ℕ) → k ≤ s.count → broken_of settings n k s.res ≡ broken_of settings n k t.res
  unfolding broken_of
  broken_same settings n zero u = refl
  broken_same settings n (suc k) u = rw (broken_same settings n k (omega arith), a.reservations k (omega arith))

  broken_all : (settings : Settings) (n : Notice) → (observe_all_of settings s.count n s.res).broken ≡ (observe_all_of settings t.count n t.res).broken
  unfolding observe_all_of
  broken_all settings n = rw (← a.counts) (broken_same settings n s.count (omega arith))

  agree_broken : (act : Act) → broken_after s.settings s.count act s.res ≡ broken_after t.settings t.count act t.res
  agree_broken (refuse number) = refl
  agree_broken (fault cause value) = refl
  agree_broken (change h ws to x) = rw (← a.settings) (broken_all s.settings (notice_of h x))
  agree_broken (put b bs) = rw (← a.settings) (broken_all s.settings (DeviceWrite b (length bs)))
  agree_broken (release h) = rw (← a.settings) (broken_all s.settings (Yield h))

  module _ (p : Shaped s) (q : Shaped t) where
    slots_same : (settings : Settings) (n : Notice) (k : ℕ) → k < s.count
        → (get_or (observe_all_of settings s.count n s.res).slots k None)
        ≡ (get_or (observe_all_of settings t.count n t.res).slots k None)
    unfolding observe_all_of
    slots_same settings n k u =
        rw (← a.counts)
        (each_same None (observe_slot settings n) s.count k s.res t.res (p.reservations ∙ sym q.reservations) (a.reservations k u))

    agree_apply : (act : Act) → Agree (apply s act) (apply t act)
    unfolding apply
    agree_apply (refuse number) = a
    agree_apply (fault cause value) = a
    agree_apply (change h ws to x) =
        record {
          counts = a.counts;
          settings = a.settings;
          registers = λ k u r. reg_written_same h ws k r s.x t.x (p.registers ∙ sym q.registers) (a.registers k u r);
          pcs = λ k u. set_same 0 s.pc t.pc h k to (p.pcs ∙ sym q.pcs) (a.pcs k u);
          reservations = rw (← a.settings) (slots_same s.settings (notice_of h x));
        }
    agree_apply (put b bs) =
        record {
          counts = a.counts;
          settings = a.settings;
          registers = a.registers;
          pcs = a.pcs;
          reservations = rw (← a.settings) (slots_same s.settings (DeviceWrite b (length bs)));
        }
    agree_apply (release h) =
        record {
          counts = a.counts;
          settings = a.settings;
          registers = a.registers;
          pcs = a.pcs;
          reservations = rw (← a.settings) (slots_same s.settings (Yield h));
        }

-- ---- refusals 1 and 2

upper_agree : (s t : State) → Agree s t → (k : ℕ) → k < s.count → UpperZero s k → UpperZero t k
unfolding reg_at
upper_agree s t a k l u =
    (λ r small. rw (rw (mod-eq_of_lt small) at (a.registers k l r)) at (u.0 r small), rw (a.pcs k l) at u.1)

module _ (base len : ℕ) where
  rules_agree : (s t : State) → Agree s t → StateRules base len s → StateRules base len t
  unfolding reg_at
  rules_agree s t a r = (
    (rw a.counts at r).0,
    (rw a.counts at r).1,
    λ k u.
        let l : k < s.count = rw a.counts u in
        let h = r.2 k l in
        let x0 = a.registers k l 0 in (
          sym (rw add-zero at x0) ∙ h.0,
          (rw (a.pcs k l) at h).1,
          (rw (a.reservations k l, a.settings) at h).2,
          λ e. upper_agree s t a k l (h.3 (ap xlen_of a.settings ∙ e)),
        ),
    subst ReadingRules a.settings r.3,
    subst MisalignedRules a.settings r.4,
  )

  pub refusal_agree : (s t : State) → Agree s t → refusal_of base len s ≡ refusal_of base len t
  unfolding refusal_of
  refusal_agree s t a =
      let ok : state_ok base len s ≡ state_ok base len t =
      bool_cases (state_ok base len s)
      (λ y. y ∙ sym ((state_exact base len t).1 (rules_agree s t a ((state_exact base len s).0 y))))
      (λ z.
      bool_cases (state_ok base len t)
      (λ y. contrary ((state_exact base len s).1 (rules_agree t s (agree_sym s t a) ((state_exact base len t).0 y))) z)
      (λ y. z ∙ sym y)) in
      rw (ok, a.settings)

-- ---- one event

module _ (base : ℕ) (mem : List ℕ) (s t : State) (a : Agree s t) where
  step_agree : (h : ℕ) → h < s.count → step_of base mem s h ≡ step_of base mem t h
  step_agree h u = rw (fun_ext (a.registers h u), a.pcs h u, a.reservations h u, a.settings)

  on_agree : (e : Event) → act_on base mem s e ≡ act_on base mem t e
  unfolding act_on
  on_agree (Step h) =
      rw (← a.counts)
      (bool_cases (ltb h s.count) (λ y. rw y (ap (of_exec h) (step_agree h (ltb-true h s.count y)))) (λ z. rw z))
  on_agree (Device b n v) = refl
  on_agree (YieldOf h) = rw a.counts

  act_agree : (e : Event) → act_of base mem s e ≡ act_of base mem t e
  unfolding act_of
  act_agree e = rw (refusal_agree base (length mem) s t a, on_agree e)

  -- 01: "unused harts' fields aren't looked at": one event gets the same outcome, breaks the same reservations, leaves the same memory, and the states
  -- agree afterwards
  pub agree_event : Shaped s → Shaped t → (e : Event)
      → ((answer_of base mem s e).outcome ≡ (answer_of base mem t e).outcome)
      × ((answer_of base mem s e).broke ≡ (answer_of base mem t e).broke)
      × (memory_of base mem s e ≡ memory_of base mem t e)
      × Agree (answer_of base mem s e).state (answer_of base mem t e).state
  unfolding answer_of memory_of
  agree_event p q e = (
    ap outcome_of (act_agree e),
    rw (← act_agree e) (agree_broken s t a (act_of base mem s e)),
    ap (leaves base mem) (act_agree e),
    rw (← act_agree e) (agree_apply s t a p q (act_of base mem s e)),
  )

-- ---- events one after another

module _ (base : ℕ) where
  pub alike_next : (m n : Machine) → Shaped m.state → Shaped n.state → Alike m n → (e : Event)
      → (reply_at base m e ≡ reply_at base n e) × Alike (next_of base m e) (next_of base n e)
  unfolding next_of
  alike_next m n p q a e =
      let one = agree_event base m.mem m.state n.state a.states p q e in (
        ap₂ (λ (o : Outcome) (k : ℕ). record { outcome = o; broke = k }) one.0 one.1
            ∙ ap (λ (mem : List ℕ). reply_at base (record { state = n.state; mem = mem }) e) a.memory,
        record {
          memory = one.2 ∙ ap (λ (mem : List ℕ). memory_of base mem n.state e) a.memory;
          states = rw (← a.memory) one.3;
        },
      )

  -- every list of events: the outcomes and the reservations broken, one by one, the memory, and the used harts
  pub agree_run : (m n : Machine) → Shaped m.state → Shaped n.state → Alike m n → (es : List Event)
      → (replies_of base m es ≡ replies_of base n es) × Alike (run_of base m es) (run_of base n es)
  unfolding replies_of run_of
  agree_run m n p q a [] = (refl, a)
  agree_run m n p q a (e ∷ es) =
      let one = alike_next m n p q a e in
      let rest = agree_run (next_of base m e) (next_of base n e) (shaped_next base m e p) (shaped_next base n e q) one.1 es in
      (ap₂ ◌∷◌ one.0 rest.0, rest.1)

-- ---- a run of an events body

module _ (base : ℕ) (mem : List ℕ) (s t : State) (a : Agree s t) (p : Shaped s) (q : Shaped t) (body : List ℕ) (budget : ℕ) where
  checked_alike : (c : Checked) → AlikeRuns (run_checked c base mem s body budget) (run_checked c base mem t body budget)
  checked_alike (Ok x) =
      let m : Machine = record { state = s; mem = mem } in
      let n : Machine = record { state = t; mem = mem } in
      let end = (agree_run base m n p q (record { memory = refl; states = a }) (take (performed_count body budget) (events_of body))).1 in
      record { verdict = refl; performed = refl; memory = end.memory; states = end.states }
  checked_alike (Err place) = record { verdict = refl; performed = refl; memory = refl; states = a }

  -- the same verdict, count and memory, and states that agree
  pub agree_result : AlikeRuns (result_of base mem s body budget) (result_of base mem t body budget)
  unfolding result_of
  agree_result =
      let checked = ap (λ (c : ℕ). checked_of c base (length mem) body) a.counts in
      rw (← refusal_agree base (length mem) s t a, ← checked)
      (bool_cases (eqb (refusal_of base (length mem) s) 0)
      (λ y. rw y (checked_alike (checked_of s.count base (length mem) body)))
      (λ z. rw z (record { verdict = refl; performed = refl; memory = refl; states = a })))
