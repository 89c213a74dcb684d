-- Demand 2's sentence on SC, for runs of the machine. Assumes nothing.
use mathlib.Core.Path.{◌≡◌, refl, sym, ◌∙◌, ap, subst}
use mathlib.Core.Logic.{◌↔◌, ◌≢◌, ◌⊎◌, inl, inr, ⊎_elim}
use mathlib.Core.Bool.{Bool, true, false}
use mathlib.Core.List.{List, [], ◌∷◌}
use Prim.Native.Nat.{ℕ, ◌+◌, ◌*◌, ◌%◌, ◌<◌}
use native.Mathlib.Omega.{arith}
use lib.Dec.{eqb}
use lib.ListN.{length, get_or}
use lib.Seq.{get_or-set_same}
use borrow.Author.Tests.{eqb-true, eqb-false, ne_eqb}
use Rattle.word.specs.Bytes.{to_le}
use Rattle.word.proofs.TestLaws.{bool_cases, contrary}
use Rattle.settings.specs.Settings.{AmoCause, amo_cause}
use Rattle.settings.specs.declared.Settings.{Settings}
use Rattle.settings.proofs.SettingsLaws.{amo_cause_exact}
use Rattle.reserve.specs.Range.{Inside, inside_of}
use Rattle.reserve.specs.Reserve.{covers_of, observe_of}
use Rattle.std.specs.Prelude.{Option}
use Rattle.reserve.specs.declared.Reservation.{Reservation}
use Rattle.std.specs.Prelude.{None}
use Rattle.reserve.specs.Reserve.{held}
use Rattle.reserve.proofs.RangeLaws.{inside_of_lem, of_inside}
use Rattle.isa.specs.declared.Atomic.{Atomic}
use Rattle.isa.specs.declared.Instr.TheVariants.{Amo}
use Rattle.machine.specs.Rules.{Shaped}
use Rattle.machine.proofs.StateLaws.{covered_in_memory}
use Rattle.effect.specs.Effect.{one, sc_stored, sc_failed, Exec, trap, effect, next_pc}
use Rattle.effect.specs.Atomic.{exec_sc}
use Rattle.effect.specs.Execute.{reg_at, execute, exec_atomic}
use Rattle.effect.proofs.TrapLaws as T
use Rattle.events.specs.declared.Event.{Event}
use Rattle.events.specs.declared.Event.TheVariants.{Step}
use Rattle.model.specs.Act.{Act, act_notice, outcome_of, set_reg, apply, leaves}
use Rattle.model.specs.Perform.{Machine, xlen, misaligned, reservation_of, of_exec, act_of, answer_of, memory_of, next_of, run_of, outcome_at}
use Rattle.model.specs.Valid.{Valid}
use Rattle.model.specs.Retired.{Traps}
use Rattle.model.specs.Trace.{trace_of}
use Rattle.model.specs.declared.Outcome.TheVariants.{ScStored, ScFailed, Trap}
use Rattle.model.proofs.Valid.{valid_next, valid_run}
use Rattle.model.proofs.Frame.{count_next, count_run, settings_next, settings_run, shaped_next, res_next, res_apply, step_act}
use Rattle.notices.specs.Happened.{atomic_address, atomic_size}
use Rattle.history.specs.History.{observes, Reserved, Since}
use Rattle.history.proofs.History.{history, sc_exact, stored_drops, failed_drops}
use Rattle.sc_history.specs.Sc.{Reservationless, FetchesSc, MisalignedSc, OutsideSc, TrappedLeaves, StoredLeaves, FailedLeaves}

-- a register that was set
set_own : (h r v : ℕ) (x : List ℕ) → h < 8 → length x ≡ 256 → r % 32 ≢ 0 → reg_at (set_reg h r v x) h r ≡ v
unfolding set_reg reg_at
set_own h r v x l e z = rw (ne_eqb (r % 32) 0 z) (get_or-set_same x (h * 32 + r % 32) v 0 (omega arith))

-- an SC's step in a machine that 1 and 2 don't refuse: by its address, and by what the hart's reservation covers
module _ (base : ℕ) (m : Machine) (v : Valid base m) (h : ℕ) (u : h < m.state.count) (sc : Atomic) (f : FetchesSc base m h sc) where
  covered : ℕ → ℕ → Bool
  covered = covers_of m.state.settings (reservation_of m.state h)

  exec : Exec
  exec =
      exec_sc (xlen m) (misaligned m) sc.width sc.rd (atomic_address m h sc) (reg_at m.state.x h sc.rs2) (get_or m.state.pc h 0) base m.mem covered

  act_sc : act_of base m.mem m.state (Step h) ≡ of_exec h exec
  unfolding exec covered execute exec_atomic
  act_sc = step_act base m v h u (Amo sc) f.fetches ∙ rw f.operation refl

  by_exec : (e : Exec) → exec ≡ e → outcome_at base m (Step h) ≡ outcome_of (of_exec h e)
  unfolding answer_of
  by_exec e q = ap outcome_of (act_sc ∙ ap (of_exec h) q)

  -- what it comes to, by its address, and by what the reservation covers
  exec_misaligned : MisalignedSc m h sc → exec ≡ trap (amo_cause (misaligned m)) (atomic_address m h sc)
  unfolding exec
  exec_misaligned d = T.exec_sc_misaligned (xlen m) (get_or m.state.pc h 0) (misaligned m) sc.width sc.rd (atomic_address m h sc) _ base m.mem covered d

  exec_outside : atomic_address m h sc % atomic_size sc ≡ 0 → OutsideSc base m h sc → exec ≡ trap 7 (atomic_address m h sc)
  unfolding exec
  exec_outside al d = T.exec_sc_outside (xlen m) (get_or m.state.pc h 0) (misaligned m) sc.width sc.rd (atomic_address m h sc) _ base m.mem covered al d

  traps_misaligned : MisalignedSc m h sc → outcome_at base m (Step h) ≡ Trap (amo_cause (misaligned m)) (atomic_address m h sc)
  traps_misaligned d = by_exec _ (exec_misaligned d)

  -- 01: cause 6, "address not aligned to its width", value "address"; 02 [11]: by the setting 6 or 7
  pub sc_misaligned : (cause : ℕ) → AmoCause (misaligned m) cause → MisalignedSc m h sc → outcome_at base m (Step h) ≡ Trap cause (atomic_address m h sc)
  sc_misaligned cause r d =
      subst (λ (c : ℕ). outcome_at base m (Step h) ≡ Trap c (atomic_address m h sc)) (sym ((amo_cause_exact (misaligned m) cause).0 r)) (traps_misaligned d)

  -- 02 [2]: "After alignment, an SC whose bytes aren't wholly in memory is now cause 7, value the address"
  pub sc_outside : atomic_address m h sc % atomic_size sc ≡ 0 → OutsideSc base m h sc → outcome_at base m (Step h) ≡ Trap 7 (atomic_address m h sc)
  sc_outside al d = by_exec _ (exec_outside al d)

  module _ (al : atomic_address m h sc % atomic_size sc ≡ 0) where
    exec_stored : covers_of m.state.settings (reservation_of m.state h) (atomic_address m h sc) (atomic_size sc) ≡ true
        → exec ≡ effect (one sc.rd 0) (next_pc (xlen m) (get_or m.state.pc h 0))
        (sc_stored (atomic_address m h sc) (to_le (atomic_size sc) (reg_at m.state.x h sc.rs2)))
    unfolding exec covered
    exec_stored c =
        let i = covered_in_memory m.state.settings base (length m.mem) v.0 (reservation_of m.state h) (v.1.2 h u).2 (atomic_address m h sc)
        (atomic_size sc) c in
        T.exec_sc_stored (xlen m) (get_or m.state.pc h 0) (misaligned m) sc.width sc.rd (atomic_address m h sc) _ base m.mem covered al i c

    -- an aligned SC whose bytes the reservation's set contains doesn't trap: it stores
    pub sc_covered : covers_of m.state.settings (reservation_of m.state h) (atomic_address m h sc) (atomic_size sc) ≡ true
        → outcome_at base m (Step h) ≡ ScStored
    sc_covered c = by_exec _ (exec_stored c)

    module _ (i : Inside base (length m.mem) (atomic_address m h sc) (atomic_size sc)) where
      exec_failed : covers_of m.state.settings (reservation_of m.state h) (atomic_address m h sc) (atomic_size sc) ≡ false
          → exec ≡ effect (one sc.rd 1) (next_pc (xlen m) (get_or m.state.pc h 0)) sc_failed
      unfolding exec covered
      exec_failed c = T.exec_sc_failed (xlen m) (get_or m.state.pc h 0) (misaligned m) sc.width sc.rd (atomic_address m h sc) _ base m.mem covered al i c

      pub sc_uncovered : covers_of m.state.settings (reservation_of m.state h) (atomic_address m h sc) (atomic_size sc) ≡ false
          → outcome_at base m (Step h) ≡ ScFailed
      sc_uncovered c = by_exec _ (exec_failed c)

      untrapped : Traps (outcome_at base m (Step h)) → ⊥
      untrapped t =
          bool_cases (covers_of m.state.settings (reservation_of m.state h) (atomic_address m h sc) (atomic_size sc))
          (λ c. let o = sc_covered c in let z : ◌≡◌ {A = ℕ} 0 1 = cc t.2 in omega arith)
          (λ c. let o = sc_uncovered c in let z : ◌≡◌ {A = ℕ} 0 1 = cc t.2 in omega arith)

  -- why an SC traps
  data Trapped : Type 0 where
    skewed : MisalignedSc m h sc → Trapped
    outside : atomic_address m h sc % atomic_size sc ≡ 0 → OutsideSc base m h sc → Trapped

  trapped : Traps (outcome_at base m (Step h)) → Trapped
  trapped t =
      let a = atomic_address m h sc in
      let n = atomic_size sc in
      bool_cases (eqb (a % n) 0)
      (λ e.
      bool_cases (inside_of base (length m.mem) a n)
      (λ i. absurd (untrapped (eqb-true (a % n) 0 e) (inside_of_lem base (length m.mem) a n i) t))
      (λ i. outside (eqb-true (a % n) 0 e) (λ j. contrary (of_inside base (length m.mem) a n j) i)))
      (λ e. skewed (eqb-false (a % n) 0 e))

  -- An SC traps exactly if its address isn't aligned or its bytes aren't wholly in memory, whatever the reservation; by `sc_misaligned` and
  -- `sc_outside` with cause 6, or 7 by its setting, if it isn't aligned, and else with cause 7.
  pub sc_traps : Traps (outcome_at base m (Step h)) ↔ (MisalignedSc m h sc ⊎ OutsideSc base m h sc)
  sc_traps = (λ t. said (trapped t), ⊎_elim (λ (d : MisalignedSc m h sc). (amo_cause (misaligned m), atomic_address m h sc, traps_misaligned d)) beyond)
    where
      said : Trapped → MisalignedSc m h sc ⊎ OutsideSc base m h sc
      said (skewed d) = inl d
      said (outside al d) = inr d

      beyond : OutsideSc base m h sc → Traps (outcome_at base m (Step h))
      beyond d =
          bool_cases (eqb (atomic_address m h sc % atomic_size sc) 0)
          (λ e. (7, atomic_address m h sc, sc_outside (eqb-true (atomic_address m h sc % atomic_size sc) 0 e) d))
          (λ e. (amo_cause (misaligned m), atomic_address m h sc, traps_misaligned (eqb-false (atomic_address m h sc % atomic_size sc) 0 e)))

  -- one that doesn't trap succeeds exactly if the reservation's set contains its bytes, and fails otherwise
  module _ (d : Traps (outcome_at base m (Step h)) → ⊥) where
    aligned : atomic_address m h sc % atomic_size sc ≡ 0
    aligned =
        bool_cases (eqb (atomic_address m h sc % atomic_size sc) 0) (λ t. eqb-true (atomic_address m h sc % atomic_size sc) 0 t)
        (λ t. absurd (d (sc_traps.1 (inl (eqb-false (atomic_address m h sc % atomic_size sc) 0 t)))))

    inside : Inside base (length m.mem) (atomic_address m h sc) (atomic_size sc)
    inside =
        let a = atomic_address m h sc in
        bool_cases (inside_of base (length m.mem) a (atomic_size sc)) (λ t. inside_of_lem base (length m.mem) a (atomic_size sc) t)
        (λ t. absurd (d (sc_traps.1 (inr (λ j. contrary (of_inside base (length m.mem) a (atomic_size sc) j) t)))))

    pub sc_stored_lem : (outcome_at base m (Step h) ≡ ScStored)
        ↔ (covers_of m.state.settings (reservation_of m.state h) (atomic_address m h sc) (atomic_size sc) ≡ true)
    sc_stored_lem = (
      λ o.
          bool_cases (covers_of m.state.settings (reservation_of m.state h) (atomic_address m h sc) (atomic_size sc)) (λ c. c)
          (λ c. let p = sc_uncovered aligned inside c in absurd (let z : ◌≡◌ {A = ℕ} 0 1 = cc in omega arith)),
      λ c. sc_covered aligned c,
    )

    pub sc_failed_lem : (outcome_at base m (Step h) ≡ ScFailed) ↔ (outcome_at base m (Step h) ≢ ScStored)
    sc_failed_lem = (
      λ o p. let z : ◌≡◌ {A = ℕ} 0 1 = cc in omega arith,
      λ n.
          bool_cases (covers_of m.state.settings (reservation_of m.state h) (atomic_address m h sc) (atomic_size sc))
          (λ c. absurd (n (sc_covered aligned c)))
          (λ c. sc_uncovered aligned inside c),
    )

  -- what an SC leaves, by its answer
  next_by : (e : Exec) → exec ≡ e → next_of base m (Step h) ≡ record { state = apply m.state (of_exec h e); mem = leaves base m.mem (of_exec h e) }
  unfolding next_of answer_of memory_of
  next_by e q = ap (λ (a : Act). record { state = apply m.state a; mem = leaves base m.mem a }) (act_sc ∙ ap (of_exec h) q)

  -- 02 [2]: "reservation kept"
  pub trapped_leaves : Traps (outcome_at base m (Step h)) → TrappedLeaves base m h
  unfolding apply leaves
  trapped_leaves t = go (trapped t)
    where
      same : (c v : ℕ) → exec ≡ trap c v → TrappedLeaves base m h
      same c v q = let n = next_by _ q in record { reservation = ap (λ (k : Machine). reservation_of k.state h) n; machine = n }

      go : Trapped → TrappedLeaves base m h
      go (skewed d) = same _ _ (exec_misaligned d)
      go (outside al d) = same 7 _ (exec_outside al d)

  module _ (shaped : Shaped m.state) where
    -- the hart's reservation follows the notice
    reserved_by : (e : Exec) → exec ≡ e
        → reservation_of (next_of base m (Step h)).state h ≡ observe_of m.state.settings h (act_notice (of_exec h e)) (reservation_of m.state h)
    reserved_by e q =
        ap (λ (n : Machine). reservation_of n.state h) (next_by e q)
        ∙ res_apply m.state h (of_exec h e) u (omega (arith, v.1.1, shaped.reservations))

    -- 01: "Success writes memory and puts 0 in rd"
    pub stored-leaves : outcome_at base m (Step h) ≡ ScStored → StoredLeaves base m h sc
    unfolding apply leaves
    stored-leaves o =
        let d : Traps (outcome_at base m (Step h)) → ⊥ = λ t. let z : ◌≡◌ {A = ℕ} 0 1 = cc t.2 in omega arith in
        let c = (sc_stored_lem d).0 o in
        let done = exec_stored (aligned d) c in
        let q = next_by _ done in
        record {
          memory = ap (λ (n : Machine). n.mem) q;
          register = λ z.
              ap (λ (n : Machine). reg_at n.state.x h sc.rd) q
              ∙ set_own h sc.rd 0 m.state.x (omega (arith, v.1.1)) shaped.registers z;
          reservation = reserved_by _ done ∙ stored_drops m.state.settings h _ _ (reservation_of m.state h);
        }

    -- 01: "failure puts 1 in rd and writes nothing"
    pub failed_leaves : outcome_at base m (Step h) ≡ ScFailed → FailedLeaves base m h sc
    unfolding apply leaves
    failed_leaves o =
        let d : Traps (outcome_at base m (Step h)) → ⊥ = λ t. let z : ◌≡◌ {A = ℕ} 0 1 = cc t.2 in omega arith in
        let c = bool_cases (covers_of m.state.settings (reservation_of m.state h) (atomic_address m h sc) (atomic_size sc))
        (λ t. absurd ((sc_failed_lem d).0 o (sc_covered (aligned d) t))) (λ t. t) in
        let done = exec_failed (aligned d) (inside d) c in
        let q = next_by _ done in
        record {
          memory = ap (λ (n : Machine). n.mem) q;
          register = λ z.
              ap (λ (n : Machine). reg_at n.state.x h sc.rd) q
              ∙ set_own h sc.rd 1 m.state.x (omega (arith, v.1.1)) shaped.registers z;
          reservation = reserved_by _ done ∙ failed_drops m.state.settings h (reservation_of m.state h);
        }

-- a used hart's reservation after a run
pub res_run : (base : ℕ) (m : Machine) → Valid base m → Shaped m.state → (h : ℕ) → h < m.state.count → (es : List Event)
    → reservation_of (run_of base m es).state h ≡ observes m.state.settings h (trace_of base m es) (reservation_of m.state h)
unfolding run_of trace_of
res_run base m v s h u [] = refl
res_run base m v s h u (e ∷ es) =
    res_run base (next_of base m e) (valid_next base m v e) (shaped_next base m e s) h (subst (λ (k : ℕ). h < k) (sym (count_next base m e)) u) es
    ∙ ap (λ (c : Settings). observes c h (trace_of base (next_of base m e) es) (reservation_of (next_of base m e).state h)) (settings_next base m e)
    ∙ ap (λ (r : Option Reservation). observes m.state.settings h (trace_of base (next_of base m e) es) r) (res_next base m e v s h u)

-- A machine that 1 and 2 don't refuse, whose used harts hold no reservation; a used hart; any events.
module _ (base : ℕ) (m : Machine) (v : Valid base m) (s : Shaped m.state) (free : Reservationless m.state)
    (h : ℕ) (u : h < m.state.count) (es : List Event) where
  used : h < (run_of base m es).state.count
  used = subst (λ (k : ℕ). h < k) (sym (count_run base m es)) u

  after : reservation_of (run_of base m es).state h ≡ observes m.state.settings h (trace_of base m es) None
  after = res_run base m v s h u es ∙ ap (λ (r : Option Reservation). observes m.state.settings h (trace_of base m es) r) (free h u)

  -- It holds the reservation of w bytes at a exactly if its latest retired LR was of these and nothing since then broke the reservation.
  pub held_exact : (a w : ℕ) → (reservation_of (run_of base m es).state h ≡ held a w) ↔ Reserved m.state.settings h a w (trace_of base m es)
  held_exact a w = subst (λ (r : Option Reservation). (r ≡ held a w) ↔ Reserved m.state.settings h a w (trace_of base m es)) (sym after)
      (history m.state.settings h a w (trace_of base m es))

  covered_exact : (a n : ℕ) → (covers_of (run_of base m es).state.settings (reservation_of (run_of base m es).state h) a n ≡ true)
      ↔ Since m.state.settings h a n (trace_of base m es)
  covered_exact a n =
      let settings = m.state.settings in
      subst (λ (c : Settings). (covers_of c (reservation_of (run_of base m es).state h) a n ≡ true) ↔ Since settings h a n (trace_of base m es))
      (sym (settings_run base m es))
      (subst (λ (r : Option Reservation). (covers_of settings r a n ≡ true) ↔ Since settings h a n (trace_of base m es)) (sym after)
      (sc_exact settings h a n (trace_of base m es)))

  -- Demand 2: "from a start without reservations an SC that doesn't trap succeeds exactly if the history since its hart's latest retired LR allows it":
  -- it stores, or it fails, exactly if the set around that LR's address has all its bytes and nothing since then broke the reservation, or not.
  module _ (sc : Atomic) (f : FetchesSc base (run_of base m es) h sc) (d : Traps (outcome_at base (run_of base m es) (Step h)) → ⊥) where
    pub sc_stored_run : (outcome_at base (run_of base m es) (Step h) ≡ ScStored)
        ↔ Since m.state.settings h (atomic_address (run_of base m es) h sc) (atomic_size sc) (trace_of base m es)
    sc_stored_run =
        let p = sc_stored_lem base (run_of base m es) (valid_run base m v es) h used sc f d in
        let q = covered_exact (atomic_address (run_of base m es) h sc) (atomic_size sc) in
        (λ o. q.0 (p.0 o), λ y. p.1 (q.1 y))

    pub sc_failed_run : (outcome_at base (run_of base m es) (Step h) ≡ ScFailed)
        ↔ (Since m.state.settings h (atomic_address (run_of base m es) h sc) (atomic_size sc) (trace_of base m es) → ⊥)
    sc_failed_run =
        let p = sc_failed_lem base (run_of base m es) (valid_run base m v es) h used sc f d in
        (λ o y. p.0 o (sc_stored_run.1 y), λ n. p.1 (λ o. n (sc_stored_run.0 o)))

  module _ (sc : Atomic) (f : FetchesSc base (run_of base m es) h sc) where
    -- an aligned SC that the history allows doesn't trap: its bytes lie in a set, and the set in memory
    pub sc_since_run : atomic_address (run_of base m es) h sc % atomic_size sc ≡ 0
        → Since m.state.settings h (atomic_address (run_of base m es) h sc) (atomic_size sc) (trace_of base m es)
        → outcome_at base (run_of base m es) (Step h) ≡ ScStored
    sc_since_run al y =
        sc_covered base (run_of base m es) (valid_run base m v es) h used sc f al
        ((covered_exact (atomic_address (run_of base m es) h sc) (atomic_size sc)).1 y)

    -- which SC traps, after any events
    pub sc_traps_run : Traps (outcome_at base (run_of base m es) (Step h)) ↔ (MisalignedSc (run_of base m es) h sc ⊎ OutsideSc base (run_of base m es) h sc)
    sc_traps_run =
        sc_traps base (run_of base m es) (valid_run base m v es) h used sc f
