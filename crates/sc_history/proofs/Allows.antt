-- Demand 2's sentence on SC over events. The history in terms of events is the history of their notices. Assumes nothing.
use Prim.Native.Nat.{ℕ, ◌%◌, ◌<◌}
use native.Mathlib.Omega.{arith}
use mathlib.Core.Path.{◌≡◌, refl, sym, ◌∙◌, ap, subst}
use mathlib.Core.Logic.{◌↔◌, ◌≢◌, ◌⊎◌, inl, inr, ⊎_elim}
use mathlib.Core.List.{List, [], ◌∷◌, ◌++◌}
use Rattle.settings.specs.Settings.{DevicesBreak}
use Rattle.settings.specs.declared.Settings.{Settings}
use Rattle.settings.proofs.SettingsLaws.{not_both}
use Rattle.reserve.specs.Range.{Touch, set_of}
use Rattle.reserve.specs.Reserve.{observe_of}
use Rattle.reserve.specs.Reserve.{held}
use Rattle.reserve.specs.declared.Notice.{Notice}
use Rattle.reserve.specs.declared.Notice.TheVariants as N
use Rattle.isa.specs.declared.Atomic.{Atomic}
use Rattle.machine.specs.Rules.{Shaped}
use Rattle.events.specs.declared.Event.{Event}
use Rattle.events.specs.declared.Event.TheVariants.{Step, Yield}
use Rattle.model.specs.Perform.{Machine, set_size, version, reservation_of, next_of, run_of, outcome_at}
use Rattle.model.specs.Valid.{Valid}
use Rattle.model.specs.Trace.{notice_at, trace_of}
use Rattle.model.specs.Retired.{Traps}
use Rattle.model.specs.declared.Outcome.TheVariants.{ScStored, ScFailed}
use Rattle.model.proofs.Valid.{valid_next, valid_run}
use Rattle.model.proofs.Frame.{count_next, count_run, settings_next, settings_run, res_next}
use Rattle.history.specs.History.{Spares, AllSpare, Reserved, Since}
use Rattle.history.proofs.History.{came, made, kept}
use Rattle.notices.specs.Happened.{atomic_address, atomic_size, RetiredLr, RetiredSc, StoredSc, FailedSc, HartWrites, Silent}
use Rattle.notices.specs.Notices.{ComesFrom}
use Rattle.notices.proofs.Notices.{notice_yield}
use Rattle.notices.proofs.Exact.{notice_exact, sc_either}
use Rattle.sc_history.specs.Sc.{Reservationless, FetchesSc}
use Rattle.sc_history.specs.Allows.{HartsLeave, DevicesLeave, LeavesReserved, under20, under21, AllLeave, ReservedSince, Allows}
use Rattle.sc_history.proofs.ScHistory.{held_exact, sc_since_run, sc_stored_run, sc_failed_run}

-- ---- one event

module _ (base h : ℕ) (m : Machine) (v : Valid base m) (u : h < m.state.count) (e : Event) (a w : ℕ) where
  -- what both versions ask, and what is asked of devices where they break reservations
  spared_by : HartsLeave base h m e a → (DevicesBreak m.state.settings → DevicesLeave base h m e a w)
      → (n : Notice) → ComesFrom base m e n → Spares m.state.settings h a w n
  unfolding Spares
  spared_by l d N.Quiet c = tt
  spared_by l d (N.LoadReserved g b k) c = λ s. l.no_lr b k (subst (λ (i : ℕ). RetiredLr base m e i b k) s c)
  spared_by l d (N.ScStored g b n) c = (own, λ t. l.no_write g b n own (inr c) t)
    where
      own : g ≢ h
      own s = l.no_sc (subst (RetiredSc base m e) s (record { sc = c.sc; retires = c.retires; operation = c.operation }))
  spared_by l d (N.ScFailed g) c = λ s. l.no_sc (subst (RetiredSc base m e) s (record { sc = c.sc; retires = c.retires; operation = c.operation }))
  spared_by l d (N.Write g b n) c = λ o t. l.no_write g b n o (inl c) t
  spared_by l d (N.DeviceWrite b n) c = λ y t. d y b n c t
  spared_by l d (N.Yield g) c = λ s. l.no_yield (c.the_yield ∙ ap Yield s)

  spared : LeavesReserved base h m e a w → (n : Notice) → ComesFrom base m e n → Spares m.state.settings h a w n
  spared (under20 q l) = spared_by l (λ y. absurd (not_both m.state.settings y q))
  spared (under21 q l d) = spared_by l (λ y. d)

  module _ (s : Spares m.state.settings h a w (notice_at base m e)) where
    spare : (n : Notice) → ComesFrom base m e n → Spares m.state.settings h a w n
    spare n c = subst (Spares m.state.settings h a w) ((notice_exact base m v e n).1 c) s

    harts_leave : HartsLeave base h m e a
    unfolding Spares
    harts_leave =
        record {
          no_lr = λ b n r. spare (N.LoadReserved h b n) r refl;
          no_sc = λ r. ⊎_elim (λ (c : (b : ℕ) × (n : ℕ) × StoredSc base m e h b n). (spare (N.ScStored h c.0 c.1) c.2).0 refl)
              (λ (c : FailedSc base m e h). spare (N.ScFailed h) c refl) (sc_either base m v e h r);
          no_yield = λ q. subst (Spares m.state.settings h a w) (ap (notice_at base m) q ∙ notice_yield base m v h u) s refl;
          no_write = λ g b n d o t. go g b n d o t;
        }
      where
        go : (g b n : ℕ) → g ≢ h → HartWrites base m e g b n → Touch b n (set_of (set_size m) a) (set_size m) → ⊥
        go g b n d (inl c) t = spare (N.Write g b n) c d t
        go g b n d (inr c) t = (spare (N.ScStored g b n) c).1 t

    leaves : LeavesReserved base h m e a w
    unfolding Spares
    leaves =
        ⊎_elim (λ (q : version m ≡ 20). under20 q harts_leave)
        (λ (q : version m ≡ 21). under21 q harts_leave (λ b n c t. spare (N.DeviceWrite b n) c q t)) v.1.3.0

  pub leaves_exact : LeavesReserved base h m e a w ↔ Spares m.state.settings h a w (notice_at base m e)
  leaves_exact = (λ l. spared l (notice_at base m e) ((notice_exact base m v e (notice_at base m e)).0 refl), leaves)

  -- 01: "Not: .. a load .. a trap": an event that neither reserves nor writes nor drops breaks nothing
  pub silent_leaves : Silent base m e → LeavesReserved base h m e a w
  unfolding Spares
  silent_leaves s = leaves_exact.1 (subst (Spares m.state.settings h a w) (sym ((notice_exact base m v e N.Quiet).1 s)) tt)

  -- A held reservation, also one that the state was given with: the event leaves it exactly if it breaks nothing of it, or is a retired LR that makes
  -- the same one anew.
  pub held_next : Shaped m.state → reservation_of m.state h ≡ held a w
      → (reservation_of (next_of base m e).state h ≡ held a w) ↔ (RetiredLr base m e h a w ⊎ LeavesReserved base h m e a w)
  held_next shaped q = (given, taken)
    where
      after : reservation_of (next_of base m e).state h ≡ observe_of m.state.settings h (notice_at base m e) (held a w)
      after = res_next base m e v shaped h u ∙ ap (observe_of m.state.settings h (notice_at base m e)) q

      given : reservation_of (next_of base m e).state h ≡ held a w → RetiredLr base m e h a w ⊎ LeavesReserved base h m e a w
      given o =
          ⊎_elim (λ (n : notice_at base m e ≡ N.LoadReserved h a w). inl ((notice_exact base m v e (N.LoadReserved h a w)).0 n))
          (λ (n : (held a w ≡ held a w) × Spares m.state.settings h a w (notice_at base m e)). inr (leaves_exact.1 n.1))
          (came m.state.settings h a w (notice_at base m e) (held a w) (sym after ∙ o))

      taken : RetiredLr base m e h a w ⊎ LeavesReserved base h m e a w → reservation_of (next_of base m e).state h ≡ held a w
      taken (inl r) =
          after ∙ ap (λ (n : Notice). observe_of m.state.settings h n (held a w)) ((notice_exact base m v e (N.LoadReserved h a w)).1 r)
          ∙ made m.state.settings h a w (held a w)
      taken (inr l) = after ∙ kept m.state.settings h a w (notice_at base m e) (leaves_exact.0 l)

-- ---- events one after another

module _ (base h : ℕ) where
  used_next : (m : Machine) (e : Event) → h < m.state.count → h < (next_of base m e).state.count
  used_next m e u = subst (λ (k : ℕ). h < k) (sym (count_next base m e)) u

  all_exact : (es : List Event) (m : Machine) → Valid base m → h < m.state.count → (a w : ℕ)
      → AllLeave base h m es a w ↔ AllSpare m.state.settings h a w (trace_of base m es)
  unfolding trace_of
  all_exact [] m v u a w = (λ x. x, λ x. x)
  all_exact (e ∷ es) m v u a w =
      let one = leaves_exact base h m v u e a w in
      let next = next_of base m e in
      let more =
      subst (λ (c : Settings). AllLeave base h next es a w ↔ AllSpare c h a w (trace_of base next es)) (settings_next base m e)
      (all_exact es next (valid_next base m v e) (used_next m e u) a w) in
      (λ x. (one.0 x.0, more.0 x.1), λ x. (one.1 x.0, more.1 x.1))

  trace_split : (before : List Event) (m : Machine) (e : Event) (since : List Event)
      → trace_of base m (before ++ e ∷ since)
      ≡ trace_of base m before ++ notice_at base (run_of base m before) e ∷ trace_of base (next_of base (run_of base m before) e) since
  unfolding trace_of run_of
  trace_split [] m e since = refl
  trace_split (d ∷ before) m e since = ap (λ (l : List Notice). notice_at base m d ∷ l) (trace_split before (next_of base m d) e since)

  -- where a trace is split, its events are
  record Split (m : Machine) (es : List Event) (n : Notice) (rest : List Notice) : Type 0 where
    before : List Event
    event : Event
    since : List Event
    split : es ≡ before ++ event ∷ since
    notice : notice_at base (run_of base m before) event ≡ n
    others : trace_of base (next_of base (run_of base m before) event) since ≡ rest

  split_of : (es : List Event) (m : Machine) (before : List Notice) (n : Notice) (rest : List Notice) → trace_of base m es ≡ before ++ n ∷ rest
      → Split m es n rest
  unfolding trace_of run_of
  split_of [] m [] n rest q = absurd (let z : ◌≡◌ {A = ℕ} 0 1 = cc in omega arith)
  split_of [] m (b ∷ before) n rest q = absurd (let z : ◌≡◌ {A = ℕ} 0 1 = cc in omega arith)
  split_of (e ∷ es) m [] n rest q =
      let first : notice_at base m e ≡ n = cc in
      let others : trace_of base (next_of base m e) es ≡ rest = cc in
      record { before = []; event = e; since = es; split = refl; notice = first; others = others }
  split_of (e ∷ es) m (b ∷ before) n rest q =
      let later : trace_of base (next_of base m e) es ≡ before ++ n ∷ rest = cc in
      let s : Split (next_of base m e) es n rest = split_of es (next_of base m e) before n rest later in
      record {
        before = e ∷ s.before;
        event = s.event;
        since = s.since;
        split = ap (λ (l : List Event). e ∷ l) s.split;
        notice = s.notice;
        others = s.others;
      }

module _ (base : ℕ) (m : Machine) (v : Valid base m) (h : ℕ) (u : h < m.state.count) (es : List Event) where
  -- the machine after the event that the history is split at
  module _ (before : List Event) (e : Event) where
    valid_after : Valid base (next_of base (run_of base m before) e)
    valid_after = valid_next base (run_of base m before) (valid_run base m v before) e

    used_after : h < (next_of base (run_of base m before) e).state.count
    used_after = used_next base h (run_of base m before) e (subst (λ (k : ℕ). h < k) (sym (count_run base m before)) u)

    -- it has the settings of the start
    since_exact : (since : List Event) (a w : ℕ) → AllLeave base h (next_of base (run_of base m before) e) since a w
        ↔ AllSpare m.state.settings h a w (trace_of base (next_of base (run_of base m before) e) since)
    since_exact since a w =
        let after = next_of base (run_of base m before) e in
        subst (λ (c : Settings). AllLeave base h after since a w ↔ AllSpare c h a w (trace_of base after since))
        (settings_next base (run_of base m before) e ∙ settings_run base m before)
        (all_exact base h since after valid_after used_after a w)

  -- Of a used hart: its history in terms of events is that of their notices.
  pub reserved_exact : (a w : ℕ) → ReservedSince base h m es a w ↔ Reserved m.state.settings h a w (trace_of base m es)
  reserved_exact a w = (given, taken)
    where
      given : ReservedSince base h m es a w → Reserved m.state.settings h a w (trace_of base m es)
      given r =
          let b = r.before in
          let n = (notice_exact base (run_of base m b) (valid_run base m v b) r.event (N.LoadReserved h a w)).1 r.reserves in
          record {
            before = trace_of base m b;
            since = trace_of base (next_of base (run_of base m b) r.event) r.since;
            split =
                ap (trace_of base m) r.split
                ∙ trace_split base h b m r.event r.since
                ∙ ap (λ (k : Notice). trace_of base m b ++ k ∷ trace_of base (next_of base (run_of base m b) r.event) r.since) n;
            spared = (since_exact b r.event r.since a w).0 r.kept;
          }

      taken : Reserved m.state.settings h a w (trace_of base m es) → ReservedSince base h m es a w
      taken r =
          let s = split_of base h es m r.before (N.LoadReserved h a w) r.since r.split in
          record {
            before = s.before;
            event = s.event;
            since = s.since;
            split = s.split;
            reserves = (notice_exact base (run_of base m s.before) (valid_run base m v s.before) s.event (N.LoadReserved h a w)).0 s.notice;
            kept = (since_exact s.before s.event s.since a w).1
                (subst (AllSpare m.state.settings h a w) (sym s.others) r.spared);
          }

  pub allows_exact : (b n : ℕ) → Allows base h m es b n ↔ Since m.state.settings h b n (trace_of base m es)
  allows_exact b n = (
    λ (s : Allows base h m es b n).
        record { addr = s.addr; width = s.width; reserved = (reserved_exact s.addr s.width).0 s.reserved; inside = s.inside },
    λ (s : Since m.state.settings h b n (trace_of base m es)).
        record { addr = s.addr; width = s.width; reserved = (reserved_exact s.addr s.width).1 s.reserved; inside = s.inside },
  )

-- Demand 2's sentence. A machine that 1 and 2 don't refuse, whose used harts hold no reservation; a used hart; any events.
module _ (base : ℕ) (m : Machine) (v : Valid base m) (s : Shaped m.state) (free : Reservationless m.state) (h : ℕ) (u : h < m.state.count)
    (es : List Event) where
  -- The hart holds the reservation of w bytes at a exactly if its latest retired LR was of these and no event since then broke it.
  pub held_since : (a w : ℕ) → (reservation_of (run_of base m es).state h ≡ held a w) ↔ ReservedSince base h m es a w
  held_since a w =
      let p = held_exact base m v s free h u es a w in
      let q = reserved_exact base m v h u es a w in
      (λ x. q.1 (p.0 x), λ x. p.1 (q.0 x))

  -- An aligned SC that the history allows doesn't trap: it succeeds.
  pub allowed_stores : (sc : Atomic) → FetchesSc base (run_of base m es) h sc → atomic_address (run_of base m es) h sc % atomic_size sc ≡ 0
      → Allows base h m es (atomic_address (run_of base m es) h sc) (atomic_size sc) → outcome_at base (run_of base m es) (Step h) ≡ ScStored
  allowed_stores sc f al y =
      sc_since_run base m v s free h u es sc f al ((allows_exact base m v h u es (atomic_address (run_of base m es) h sc) (atomic_size sc)).0 y)

  module _ (sc : Atomic) (f : FetchesSc base (run_of base m es) h sc) (d : Traps (outcome_at base (run_of base m es) (Step h)) → ⊥) where
    -- An SC that doesn't trap succeeds exactly if the history since its hart's latest retired LR allows it,
    pub stored_since : (outcome_at base (run_of base m es) (Step h) ≡ ScStored)
        ↔ Allows base h m es (atomic_address (run_of base m es) h sc) (atomic_size sc)
    stored_since =
        let p = sc_stored_run base m v s free h u es sc f d in
        let q = allows_exact base m v h u es (atomic_address (run_of base m es) h sc) (atomic_size sc) in
        (λ x. q.1 (p.0 x), λ x. p.1 (q.0 x))

    -- and fails exactly if it doesn't.
    pub failed_since : (outcome_at base (run_of base m es) (Step h) ≡ ScFailed)
        ↔ (Allows base h m es (atomic_address (run_of base m es) h sc) (atomic_size sc) → ⊥)
    failed_since =
        let p = sc_failed_run base m v s free h u es sc f d in
        let q = allows_exact base m v h u es (atomic_address (run_of base m es) h sc) (atomic_size sc) in
        (λ x y. p.0 x (q.0 y), λ x. p.1 (λ y. x (q.1 y)))
