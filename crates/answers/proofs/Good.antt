-- An events body that 11 doesn't refuse has no event that 3, 4 or 5 refuses, and a run of it refuses none on the way. And the
-- other way, of whole and well formed events. Assumes nothing.
use Prim.Native.Nat.{ℕ, zero, suc, ◌+◌, ◌*◌, ◌/◌, ◌%◌, ◌≤◌, ◌<◌}
use mathlib.Core.Path.{◌≡◌, refl, sym, subst}
use mathlib.Core.Logic.{inl, inr, ⊎_elim, ◌↔◌}
use mathlib.Core.List.{List, [], ◌∷◌}
use native.Mathlib.Omega.{arith}
use lib.Dec.{ltb, leb}
use lib.ListN.{length, take, drop}
use lib.Seq.{drop-drop}
use borrow.Author.Tests.{ltb-true, ltb-false, leb-true, leb-false, eq-eqb, ne_eqb}
use Rattle.word.specs.Memory.{part}
use Rattle.word.proofs.TestLaws.{bool_cases, contrary}
use Rattle.reserve.specs.Range.{inside_of}
use Rattle.reserve.proofs.RangeLaws.{inside_of_lem, of_inside}
use Rattle.events.specs.Events.{kind_of, hart_of, size_of, address_of, data_of, checked_of, event_of, first_events, events_of}
use Rattle.events.specs.Rules.{WellFormed, EventRules, EachEvent}
use Rattle.events.specs.declared.Event.{Event}
use Rattle.events.specs.declared.Event.TheVariants.{Step, Device, Yield}
use Rattle.std.specs.Prelude.{Ok}
use Rattle.events.proofs.RuleLaws.{good_exact, none_wrong_exact}
use Rattle.machine.proofs.StateLaws.{wrong_exact}
use Rattle.model.specs.Perform.{Machine, next_of, outcome_at}
use Rattle.model.specs.Retired.{Refuses}
use Rattle.model.specs.Valid.{Valid}
use Rattle.model.proofs.Valid.{length_next, valid_next}
use Rattle.model.proofs.Frame.{count_next}
use Rattle.answers.specs.Refusals.{RefusalRow, bad_memory, bad_state, no_hart, bad_size, beyond, Unrefused}
use Rattle.answers.specs.Good.{EventFits, AllFit, NoneRefused}
use Rattle.answers.proofs.Refused.{Decided, refuses, passes, decided, refused_exact}

-- ---- one event

module _ (base : ℕ) (m : Machine) (v : Valid base m) where
  fits_row : (e : Event) → EventFits m.state.count base (length m.mem) e → (k : ℕ) → RefusalRow base m.mem m.state e k → ⊥
  fits_row e f k (bad_memory q r) = (wrong_exact m.state.settings base (length m.mem)).0 r v.0
  fits_row e f k (bad_state q r) = r v.1
  fits_row (Step h) f k (no_hart q r) = r f
  fits_row (Device a n w) f k (no_hart q r) = r
  fits_row (Yield h) f k (no_hart q r) = r f
  fits_row (Step h) f k (bad_size q r) = r
  fits_row (Device a n w) f k (bad_size q r) = ⊎_elim (λ (z : n ≡ 0). omega (arith, f.0)) (λ (z : 8 < n). omega (arith, f.1)) r
  fits_row (Yield h) f k (bad_size q r) = r
  fits_row (Step h) f k (beyond q r) = r
  fits_row (Device a n w) f k (beyond q r) = r f.2
  fits_row (Yield h) f k (beyond q r) = r

  below : (h : ℕ) → ((h < m.state.count → ⊥) → ⊥) → h < m.state.count
  below h u =
      bool_cases (ltb h m.state.count) (ltb-true h m.state.count)
      (λ f. absurd (u (λ l. omega (arith, ltb-false h m.state.count f, l))))

  unrefused_fits : (e : Event) → Unrefused base m.mem m.state e → EventFits m.state.count base (length m.mem) e
  unrefused_fits (Step h) u = below h (λ z. u 3 (no_hart refl z))
  unrefused_fits (Device a n w) u = (
    bool_cases (leb 1 n) (leb-true 1 n) (λ f. absurd (u 4 (bad_size refl (inl (omega (arith, leb-false 1 n f)))))),
    bool_cases (leb n 8) (leb-true n 8) (λ f. absurd (u 4 (bad_size refl (inr (omega (arith, leb-false n 8 f)))))),
    bool_cases (inside_of base (length m.mem) a n) (inside_of_lem base (length m.mem) a n)
        (λ f. absurd (u 5 (beyond refl (λ i. contrary (of_inside base (length m.mem) a n i) f)))),
  )
  unrefused_fits (Yield h) u = below h (λ z. u 3 (no_hart refl z))

  by_decided : (e : Event) → Decided base m.mem m.state e → (Refuses (outcome_at base m e) → ⊥)
      → EventFits m.state.count base (length m.mem) e
  by_decided e (refuses n q f) r = absurd (r (n, (refused_exact base m.mem m.state e n).1 f))
  by_decided e (passes q u) r = unrefused_fits e u

  -- of a machine that neither 1 nor 2 refuses: an event isn't refused exactly if none of 3, 4 and 5 meets it
  pub fits_exact : (e : Event) → (Refuses (outcome_at base m e) → ⊥) ↔ EventFits m.state.count base (length m.mem) e
  fits_exact e = (
    by_decided e (decided base m.mem m.state e),
    λ f o. fits_row e f o.0 ((refused_exact base m.mem m.state e o.0).0 o.1).applies,
  )

-- ---- events one after another: the count and the memory's length stay

module _ (base : ℕ) where
  pub fits_run : (m : Machine) → Valid base m → (es : List Event) → AllFit m.state.count base (length m.mem) es → NoneRefused base m es
  unfolding AllFit NoneRefused
  fits_run m v [] f = tt
  fits_run m v (e ∷ es) f = (
    (fits_exact base m v e).1 f.0,
    fits_run (next_of base m e) (valid_next base m v e) es (rw (count_next base m e, length_next base m v e) f.1),
  )

  pub run_fits : (m : Machine) → Valid base m → (es : List Event) → NoneRefused base m es → AllFit m.state.count base (length m.mem) es
  unfolding AllFit NoneRefused
  run_fits m v [] f = tt
  run_fits m v (e ∷ es) f = (
    (fits_exact base m v e).0 f.0,
    rw (count_next base m e, length_next base m v e) at (run_fits (next_of base m e) (valid_next base m v e) es f.1),
  )

-- ---- the event that 24 bytes are

module _ (count base len : ℕ) where
  event_step : (e : List ℕ) → kind_of e ≡ 1 → event_of e ≡ Step (hart_of e)
  unfolding event_of
  event_step e k = rw (eq-eqb (kind_of e) 1 k)

  event_device : (e : List ℕ) → kind_of e ≡ 2 → event_of e ≡ Device (address_of e) (size_of e) (data_of e)
  unfolding event_of
  event_device e k = rw (ne_eqb (kind_of e) 1 (λ z. omega (arith, k, z)), eq-eqb (kind_of e) 2 k)

  event_yield : (e : List ℕ) → kind_of e ≡ 3 → event_of e ≡ Yield (hart_of e)
  unfolding event_of
  event_yield e k = rw (ne_eqb (kind_of e) 1 (λ z. omega (arith, k, z)), ne_eqb (kind_of e) 2 (λ z. omega (arith, k, z)))

  as_event : (e : List ℕ) (x : Event) → event_of e ≡ x → EventFits count base len x → EventFits count base len (event_of e)
  as_event e x q f = subst (EventFits count base len) (sym q) f

  of_event : (e : List ℕ) (x : Event) → event_of e ≡ x → EventFits count base len (event_of e) → EventFits count base len x
  of_event e x q f = subst (EventFits count base len) q f

  rules_fit : (e : List ℕ) → EventRules count base len e → WellFormed e × EventFits count base len (event_of e)
  rules_fit e (inl ((inl k, z), h)) = (inl (inl k, z), as_event e (Step (hart_of e)) (event_step e k) h)
  rules_fit e (inl ((inr k, z), h)) = (inl (inr k, z), as_event e (Yield (hart_of e)) (event_yield e k) h)
  rules_fit e (inr (w, some, most, inside)) = (
    inr w,
    as_event e (Device (address_of e) (size_of e) (data_of e)) (event_device e w.0) (some, most, inside),
  )

  fit_rules : (e : List ℕ) → WellFormed e → EventFits count base len (event_of e) → EventRules count base len e
  fit_rules e (inl (inl k, z)) f = inl ((inl k, z), of_event e (Step (hart_of e)) (event_step e k) f)
  fit_rules e (inl (inr k, z)) f = inl ((inr k, z), of_event e (Yield (hart_of e)) (event_yield e k) f)
  fit_rules e (inr w) f =
      let d = of_event e (Device (address_of e) (size_of e) (data_of e)) (event_device e w.0) f in
      inr (w, d.0, d.1, d.2)

  -- an event keeps the rules of 11 exactly if its zeros and kind are right and none of 3, 4 and 5 meets it
  pub rules_exact : (e : List ℕ) → EventRules count base len e ↔ (WellFormed e × EventFits count base len (event_of e))
  rules_exact e = (rules_fit e, λ r. fit_rules e r.0 r.1)

  -- ---- a body

  module _ (body : List ℕ) where
    all_from : (n i p : ℕ) → p ≡ 24 * i → p + 24 * n ≤ length body → EachEvent (EventRules count base len) body
        → AllFit count base len (first_events n (drop p body))
    unfolding AllFit first_events part
    all_from zero i p s end r = tt
    all_from (suc n) i p s end r = (
      (rules_fit (take 24 (drop p body)) (rw s (r i (omega arith)))).1,
      rw (drop-drop 24 p body) (all_from n (suc i) (p + 24) (omega arith) (omega arith) r),
    )

    fit_at : (n p : ℕ) → AllFit count base len (first_events n (drop p body)) → (j place : ℕ) → place ≡ p + 24 * j → j < n
        → EventFits count base len (event_of (part body place 24))
    unfolding AllFit first_events part
    fit_at zero p f j place e l = absurd (omega arith)
    fit_at (suc n) p f zero place e l = let same : place ≡ p = omega arith in rw same f.0
    fit_at (suc n) p f (suc j) place e l = fit_at n (p + 24) (rw (← drop-drop 24 p body) f.1) j place (omega arith) (omega arith)

    -- a body that 11 doesn't refuse has no event that 3, 4 or 5 refuses
    pub good_fits : checked_of count base len body ≡ Ok tt → AllFit count base len (events_of body)
    good_fits g =
        let each = ((none_wrong_exact count base len body).0 ((good_exact count base len body).0 g)).1 in
        all_from (length body / 24) 0 0 refl (omega arith) each

    -- and the other way, of a body of whole and well formed events
    pub fits_good : length body % 24 ≡ 0 → EachEvent WellFormed body → AllFit count base len (events_of body)
        → checked_of count base len body ≡ Ok tt
    fits_good whole w f =
        let each : EachEvent (EventRules count base len) body =
        λ i l. fit_rules (part body (24 * i) 24) (w i l) (fit_at (length body / 24) 0 f i (24 * i) (omega arith) (omega arith)) in
        (good_exact count base len body).1 ((none_wrong_exact count base len body).1 (whole, each))

-- ---- a run of a body

module _ (base : ℕ) (m : Machine) (v : Valid base m) (body : List ℕ) where
  -- a run of a body that 11 doesn't refuse refuses no event on the way
  pub good_run : checked_of m.state.count base (length m.mem) body ≡ Ok tt → NoneRefused base m (events_of body)
  good_run g = fits_run base m v (events_of body) (good_fits m.state.count base (length m.mem) body g)

  -- and the other way, of a body of whole and well formed events: if its run refuses none, 11 doesn't refuse it
  pub run_good : length body % 24 ≡ 0 → EachEvent WellFormed body → NoneRefused base m (events_of body)
      → checked_of m.state.count base (length m.mem) body ≡ Ok tt
  run_good z w r = fits_good m.state.count base (length m.mem) body z w (run_fits base m v (events_of body) r)
