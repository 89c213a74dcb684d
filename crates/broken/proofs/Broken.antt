-- Who lost a reservation to an event: the bits of its answer, in words, for every machine and every event. Assumes nothing.
use Rattle.std.specs.Prelude.{Option, Some, None}
use mathlib.Core.Path.{◌≡◌, refl, sym, ap, subst, ◌∙◌}
use mathlib.Core.Logic.{◌↔◌, ◌≢◌, ◌⊎◌, inl, inr, ⊎_elim}
use mathlib.Core.Bool.{true, false, cond, not}
use mathlib.Core.List.{List}
use Prim.Native.Nat.{ℕ, ◌%◌, ◌^◌, ◌≤◌, ◌<◌}
use native.Mathlib.Nat.{div-eq_of_lt}
use native.Mathlib.Omega.{arith}
use lib.Dec.{eqb, ltb}
use lib.ListN.{length, get_or-eq_default}
use lib.Pow.{pow_pos, pow_mono}
use borrow.Author.Tests.{eqb-true, eqb-false, eq-eqb, ne_eqb, not-true}
use Rattle.word.proofs.TestLaws.{bool_cases, contrary, and_both}
use Rattle.word.proofs.ChooseLaws.{cond_all}
use Rattle.word.proofs.WordLaws.{split_lt}
use Rattle.settings.specs.Settings.{devices_break}
use Rattle.settings.specs.declared.Settings.{Settings}
use Rattle.settings.proofs.SettingsLaws.{devices_exact}
use Rattle.reserve.specs.Range.{touches, set_of}
use Rattle.reserve.specs.Reserve.{reaches, breaks_of, own_of, observe_of, broken_of, observe_all_of}
use Rattle.reserve.specs.declared.Reservation.{Reservation}
use Rattle.reserve.specs.declared.Notice.{Notice}
use Rattle.reserve.specs.declared.Notice.TheVariants as N
use Rattle.reserve.proofs.RangeLaws.{touches_exact}
use Rattle.reserve.proofs.NoticeLaws.{BreaksNone, spared_broken, quiet_spares, reserved_spares, failed_spares, yield_spares}
use Rattle.reserve.proofs.BrokenLaws.{broken_below, bit_exact}
use Rattle.machine.specs.State.{refusal_of}
use Rattle.machine.specs.declared.State.{State}
use Rattle.machine.proofs.StateLaws.{refusal_0}
use Rattle.events.specs.declared.Event.{Event}
use Rattle.events.specs.declared.Event.TheVariants.{Step, Device, Yield}
use Rattle.effect.specs.Effect.{notice_of}
use Rattle.model.specs.Act.{Act, refuse, fault, change, put, release, act_notice, retired_as, outcome_of, broken_after, apply}
use Rattle.model.specs.Perform.{Machine, set_size, reservation_of, act_on, act_of, answer_of, outcome_at, broke_at, next_of}
use Rattle.model.specs.Valid.{Valid}
use Rattle.model.specs.Trace.{notice_at}
use Rattle.model.specs.Retired.{IsRetired, Traps, Refuses}
use Rattle.model.specs.declared.Outcome.TheVariants as O
use Rattle.model.proofs.Frame.{res_apply, unused_res}
use Rattle.notices.specs.Happened.{RetiredLr, RetiredSc, StoredSc, FailedSc, store, amo, amocas, amocas_pair, HartWrites, Yields, Silent}
use Rattle.notices.specs.Notices.{ComesFrom}
use Rattle.notices.proofs.Notices.{notice_none}
use Rattle.notices.proofs.Exact.{unrefused, fetched, yield_used, notice_exact, sc_either}
use Rattle.broken.specs.Broken.{Bit, Reached, by_hart, by_device, Loses, Ended, by_sc, by_yield, by_write, HoldsNone}

-- ---- the bits are those that the event's notice breaks

act_broken : (settings : Settings) (count : ℕ) (l : List (Option Reservation)) (act : Act) → broken_after settings count act l ≡ broken_of settings (act_notice act) count l
unfolding observe_all_of
act_broken settings count l (refuse number) = sym (spared_broken settings N.Quiet (quiet_spares settings) count l)
act_broken settings count l (fault cause value) = sym (spared_broken settings N.Quiet (quiet_spares settings) count l)
act_broken settings count l (change h ws to t) = refl
act_broken settings count l (put a bs) = refl
act_broken settings count l (release h) = refl

-- no bit of 0 is set
no_bit : (k : ℕ) → Bit k 0 → ⊥
no_bit k b = omega (arith, ap (λ (q : ℕ). q % 2) (div-eq_of_lt (pow_pos k)), b)

held_none : {P : Type 0} {r : Reservation} → Some r ≡ None → P
held_none q = let z : ⊥ = cc in absurd z

step_device : {h b n v : ℕ} → Step h ≡ Device b n v → ⊥
step_device q = cc

-- a hart that writes retires a step
writes_retire : (base : ℕ) (m : Machine) (e : Event) (g b n : ℕ) → HartWrites base m e g b n → (e ≡ Step g) × IsRetired (outcome_at base m e)
writes_retire base m e g b n (inl (store op rs1 rs2 imm r p q)) = (r.the_step, r.retired)
writes_retire base m e g b n (inl (amo i op r o p q)) = (r.the_step, r.retired)
writes_retire base m e g b n (inl (amocas i r o p q s)) = (r.the_step, r.retired)
writes_retire base m e g b n (inl (amocas_pair i r o p q s)) = (r.the_step, r.retired)
writes_retire base m e g b n (inr c) = (c.retires.the_step, c.retires.retired)

-- 02 [3]: "A yield sets none."
pub yield_breaks_none : (base : ℕ) (m : Machine) (g : ℕ) → broke_at base m (Yield g) ≡ 0
unfolding answer_of act_of act_on observe_all_of
yield_breaks_none base m g =
    let none : Act → Type 0 = λ act. broken_after m.state.settings m.state.count act m.state.res ≡ 0 in
    cond_all none (eqb (refusal_of base (length m.mem) m.state) 0) _ _
    (cond_all none (ltb g m.state.count) _ _ (spared_broken m.state.settings (N.Yield g) (yield_spares m.state.settings g) m.state.count
    m.state.res) refl) refl

module _ (base : ℕ) (m : Machine) (e : Event) where
  broke_notice : broke_at base m e ≡ broken_of m.state.settings (notice_at base m e) m.state.count m.state.res
  unfolding answer_of
  broke_notice = act_broken m.state.settings m.state.count m.state.res (act_of base m.mem m.state e)

  notice_breaks_none : (n : Notice) → notice_at base m e ≡ n → BreaksNone m.state.settings n → broke_at base m e ≡ 0
  notice_breaks_none n q s =
      broke_notice
      ∙ ap (λ (k : Notice). broken_of m.state.settings k m.state.count m.state.res) q
      ∙ spared_broken m.state.settings n s m.state.count m.state.res

  -- neither 1 nor 2 refuses the machine, or the event is refused and leaves it
  refused_leaves : eqb (refusal_of base (length m.mem) m.state) 0 ≡ false → Refuses (outcome_at base m e) × ((next_of base m e).state ≡ m.state)
  unfolding answer_of act_of next_of apply
  refused_leaves f = ((refusal_of base (length m.mem) m.state, rw f), rw f)

  either : {P : Type 0} → (Valid base m → P) → (Refuses (outcome_at base m e) → (next_of base m e).state ≡ m.state → P) → P
  either v r =
      bool_cases (eqb (refusal_of base (length m.mem) m.state) 0)
      (λ t. v ((refusal_0 base (length m.mem) m.state).0 (eqb-true _ _ t)))
      (λ f. let l = refused_leaves f in r l.0 l.1)

  -- ---- which events break none

  -- 01: "Not: .. a load, .. unequal AMOCAS of another hart, a trap"; a refusal leaves "the state as given"
  pub silent_breaks_none : Silent base m e → broke_at base m e ≡ 0
  silent_breaks_none s =
      either
      (λ v. notice_breaks_none N.Quiet ((notice_exact base m v e N.Quiet).1 s) (quiet_spares m.state.settings))
      (λ r k. notice_breaks_none N.Quiet (notice_none base m e (inr r)) (quiet_spares m.state.settings))

  pub refused_breaks_none : Refuses (outcome_at base m e) → broke_at base m e ≡ 0
  refused_breaks_none r = notice_breaks_none N.Quiet (notice_none base m e (inr r)) (quiet_spares m.state.settings)

  pub trapped_breaks_none : Traps (outcome_at base m e) → broke_at base m e ≡ 0
  trapped_breaks_none t = notice_breaks_none N.Quiet (notice_none base m e (inl t)) (quiet_spares m.state.settings)

  -- an LR, also one that replaces a reservation
  pub lr_breaks_none : (g a w : ℕ) → RetiredLr base m e g a w → broke_at base m e ≡ 0
  lr_breaks_none g a w c =
      either
      (λ v. notice_breaks_none (N.LoadReserved g a w) ((notice_exact base m v e (N.LoadReserved g a w)).1 c) (reserved_spares m.state.settings g a w))
      (λ r k. refused_breaks_none r)

  pub failed_breaks_none : (g : ℕ) → FailedSc base m e g → broke_at base m e ≡ 0
  failed_breaks_none g c =
      either
      (λ v. notice_breaks_none (N.ScFailed g) ((notice_exact base m v e (N.ScFailed g)).1 c) (failed_spares m.state.settings g))
      (λ r k. refused_breaks_none r)

  -- ---- bit by bit

  module _ (k : ℕ) where
    held_breaks : (r : Reservation) → Valid base m → Reached base m e k r.addr r.width → breaks_of m.state.settings k (notice_at base m e) (Some r) ≡ true
    unfolding breaks_of
    held_breaks r v (by_hart g b n d (inl c) t) =
        rw ((notice_exact base m v e (N.Write g b n)).1 c, ne_eqb g k d, (touches_exact b n (set_of (set_size m) r.addr) (set_size m)).1 t)
    held_breaks r v (by_hart g b n d (inr c) t) =
        rw ((notice_exact base m v e (N.ScStored g b n)).1 c, ne_eqb g k d, (touches_exact b n (set_of (set_size m) r.addr) (set_size m)).1 t)
    held_breaks r v (by_device y b n c t) =
        rw ((notice_exact base m v e (N.DeviceWrite b n)).1 c, (devices_exact m.state.settings).1 y, (touches_exact b n r.addr r.width).1 t)

    breaks_held : (n : Notice) → ComesFrom base m e n → (a w : ℕ) → reaches m.state.settings k n a w ≡ true → Reached base m e k a w
    breaks_held N.Quiet c a w t = contrary t refl
    breaks_held (N.LoadReserved g b v) c a w t = contrary t refl
    breaks_held (N.ScStored g b n) c a w t =
        let both = and_both (not (eqb g k)) (touches b n (set_of (set_size m) a) (set_size m)) t in
        by_hart g b n (eqb-false g k (not-true _ both.0)) (inr c) ((touches_exact b n (set_of (set_size m) a) (set_size m)).0 both.1)
    breaks_held (N.ScFailed g) c a w t = contrary t refl
    breaks_held (N.Write g b n) c a w t =
        let both = and_both (not (eqb g k)) (touches b n (set_of (set_size m) a) (set_size m)) t in
        by_hart g b n (eqb-false g k (not-true _ both.0)) (inl c) ((touches_exact b n (set_of (set_size m) a) (set_size m)).0 both.1)
    breaks_held (N.DeviceWrite b n) c a w t =
        let both = and_both (devices_break m.state.settings) (touches b n a w) t in
        by_device ((devices_exact m.state.settings).0 both.0) b n c ((touches_exact b n a w).0 both.1)
    breaks_held (N.Yield g) c a w t = contrary t refl

    -- a refused event is no write
    unreached : (a w : ℕ) → Refuses (outcome_at base m e) → Reached base m e k a w → ⊥
    unreached a w r (by_hart g b n d c t) = unrefused (outcome_at base m e) (writes_retire base m e g b n c).1 r
    unreached a w r (by_device y b n c t) = c.taken r

    breaks_loses : Valid base m → k < m.state.count → (r : Option Reservation) → reservation_of m.state k ≡ r
        → breaks_of m.state.settings k (notice_at base m e) r ≡ true → Loses base m e k
    unfolding breaks_of
    breaks_loses v u None q t = contrary t refl
    breaks_loses v u (Some r) q t =
        record {
          used = u;
          reservation = r;
          held = q;
          reached = breaks_held (notice_at base m e) ((notice_exact base m v e (notice_at base m e)).0 refl) r.addr r.width t;
        }

    loses_breaks : Valid base m → Loses base m e k → breaks_of m.state.settings k (notice_at base m e) (reservation_of m.state k) ≡ true
    loses_breaks v l = rw l.held (held_breaks l.reservation v l.reached)

    bit_breaks : Bit k (broke_at base m e) ↔ ((k < m.state.count) × (breaks_of m.state.settings k (notice_at base m e) (reservation_of m.state k) ≡ true))
    bit_breaks = rw broke_notice (bit_exact m.state.settings (notice_at base m e) m.state.res m.state.count k)

    -- Bit k is set exactly if hart k is below the count, held a reservation, and the event is a write that breaks it.
    pub broke_exact : Bit k (broke_at base m e) ↔ Loses base m e k
    broke_exact =
        either
        (λ v. (
          λ b. let x = bit_breaks.0 b in breaks_loses v x.0 (reservation_of m.state k) refl x.1,
          λ l. bit_breaks.1 (l.used, loses_breaks v l),
        ))
        (λ r s. (
          λ b. absurd (bit_zero (refused_breaks_none r) b),
          λ l. absurd (unreached l.reservation.addr l.reservation.width r l.reached),
        ))
      where
        bit_zero : broke_at base m e ≡ 0 → Bit k (broke_at base m e) → ⊥
        bit_zero z b = no_bit k (subst (Bit k) z b)

    -- 02 [3]: "The writing hart's own bit is never set by its own write.": nor by any other step of its own; of a yield: yield_breaks_none
    pub own_bit_never : e ≡ Step k → Bit k (broke_at base m e) → ⊥
    own_bit_never s b = go (broke_exact.0 b).reached
      where
        step_of : {g : ℕ} → Step g ≡ Step k → g ≡ k
        step_of q = cc

        go : {a w : ℕ} → Reached base m e k a w → ⊥
        go (by_hart g b n d c t) = d (step_of (sym (writes_retire base m e g b n c).0 ∙ s))
        go (by_device y b n c t) = absurd (step_device (sym s ∙ c.the_device))

    -- ---- what is held afterwards

    module _ (had : Reservation) (held : reservation_of m.state k ≡ Some had) where
      -- a place behind the last one would hold none
      placed : k < length m.state.res
      placed =
          ⊎_elim (λ (l : k < length m.state.res). l)
          (λ (l : length m.state.res ≤ k).
          held_none (sym held ∙ get_or-eq_default m.state.res None l))
          (split_lt k (length m.state.res))

      after : k < m.state.count → reservation_of (next_of base m e).state k ≡ observe_of m.state.settings k (notice_at base m e) (Some had)
      unfolding next_of answer_of
      after u = res_apply m.state k (act_of base m.mem m.state e) u placed ∙ ap (observe_of m.state.settings k (notice_at base m e)) held

      broken_none : k < m.state.count → breaks_of m.state.settings k (notice_at base m e) (Some had) ≡ true → HoldsNone base m e k
      unfolding observe_of
      broken_none u t = after u ∙ rw t

    -- then it holds none
    pub broke_holds_none : Bit k (broke_at base m e) → HoldsNone base m e k
    broke_holds_none b =
        let l = broke_exact.0 b in
        broken_none l.reservation l.held l.used
        (subst (λ (r : Option Reservation). breaks_of m.state.settings k (notice_at base m e) r ≡ true) l.held (bit_breaks.0 b).1)

    module _ (had : Reservation) (held : reservation_of m.state k ≡ Some had) where
      -- what concerns hart g alone leaves the others'
      by_hart_lem : {P : Type 0} (g : ℕ) (r : Option Reservation) → cond (eqb g k) r (Some had) ≡ None → (g ≡ k → r ≡ None → P) → P
      by_hart_lem g r q own =
          bool_cases (eqb g k) (λ t. own (eqb-true g k t) (rw t at q)) (λ f. held_none (rw f at q))

      own_ends : (n : Notice) → ComesFrom base m e n → own_of k n (Some had) ≡ None → Ended base m e k
      unfolding own_of
      own_ends N.Quiet c q = held_none q
      own_ends (N.LoadReserved g b v) c q = by_hart_lem g (Some (record { addr = b; width = v })) q (λ s x. held_none x)
      own_ends (N.ScStored g b n) c q =
          by_hart_lem g None q (λ s x. by_sc (subst (RetiredSc base m e) s (record { sc = c.sc; retires = c.retires; operation = c.operation })))
      own_ends (N.ScFailed g) c q =
          by_hart_lem g None q (λ s x. by_sc (subst (RetiredSc base m e) s (record { sc = c.sc; retires = c.retires; operation = c.operation })))
      own_ends (N.Write g b n) c q = held_none q
      own_ends (N.DeviceWrite b n) c q = held_none q
      own_ends (N.Yield g) c q = by_hart_lem g None q (λ s x. by_yield (subst (Yields base m e) s c))

      none_ends : Valid base m → k < m.state.count → HoldsNone base m e k → Ended base m e k
      unfolding observe_of
      none_ends v u o =
          let n = notice_at base m e in
          let seen = sym (after had held u) ∙ o in
          bool_cases (breaks_of m.state.settings k n (Some had))
          (λ t. by_write (broke_exact.1 (breaks_loses v u (Some had) held t)))
          (λ f. own_ends n ((notice_exact base m v e n).0 refl) (rw f at seen))

      drops : k < m.state.count → (n : Notice) → notice_at base m e ≡ n → own_of k n (Some had) ≡ None → HoldsNone base m e k
      unfolding observe_of
      drops u n q o =
          after had held u ∙ ap (λ (x : Notice). observe_of m.state.settings k x (Some had)) q
          ∙ bool_cases (breaks_of m.state.settings k n (Some had)) (λ t. rw t) (λ f. rw f o)

      ends_none : Valid base m → k < m.state.count → Ended base m e k → HoldsNone base m e k
      unfolding own_of
      ends_none v u (by_sc c) =
          ⊎_elim
          (λ (d : (b : ℕ) × (n : ℕ) × StoredSc base m e k b n).
          let n = N.ScStored k d.0 d.1 in
          drops u n ((notice_exact base m v e n).1 d.2) (rw (eq-eqb k k refl)))
          (λ (d : FailedSc base m e k). drops u (N.ScFailed k) ((notice_exact base m v e (N.ScFailed k)).1 d) (rw (eq-eqb k k refl)))
          (sc_either base m v e k c)
      ends_none v u (by_yield c) = drops u (N.Yield k) ((notice_exact base m v e (N.Yield k)).1 c) (rw (eq-eqb k k refl))
      ends_none v u (by_write b) = broke_holds_none b

      refused_ends : Refuses (outcome_at base m e) → Ended base m e k → ⊥
      refused_ends r (by_sc c) = unrefused (outcome_at base m e) c.retires.retired r
      refused_ends r (by_yield c) = c.taken r
      refused_ends r (by_write b) = unreached _ _ r (broke_exact.0 b).reached

      -- an unused hart's reservation stays
      unused_ends : m.state.count ≤ k → HoldsNone base m e k → ⊥
      unused_ends u o = held_none (sym held ∙ sym (unused_res base m e k u) ∙ o)

      ended_used : Valid base m → Ended base m e k → k < m.state.count
      ended_used v (by_sc c) = (fetched base m v k (subst (λ (d : Event). IsRetired (outcome_at base m d)) c.retires.the_step c.retires.retired)).0
      ended_used v (by_yield c) = yield_used base m v k (subst (λ (d : Event). Refuses (outcome_at base m d) → ⊥) c.the_yield c.taken)
      ended_used v (by_write b) = (broke_exact.0 b).used

      -- A hart that holds a reservation before an event holds none after exactly if it retired an SC, had a yield, or has its bit set.
      pub ended_exact : HoldsNone base m e k ↔ Ended base m e k
      ended_exact =
          either
          (λ v. (
            λ o. none_ends v (⊎_elim (λ (u : k < m.state.count). u) (λ (u : m.state.count ≤ k). absurd (unused_ends u o)) (split_lt k m.state.count)) o,
            λ x. ends_none v (ended_used v x) x,
          ))
          (λ r s. (
            λ o. held_none (sym held ∙ ap (λ (x : State). reservation_of x k) (sym s) ∙ o),
            λ x. absurd (refused_ends r x),
          ))

  -- ---- the number

  -- no bit at or above the count
  pub broke_below : broke_at base m e < 2 ^ m.state.count
  broke_below = rw broke_notice (broken_below m.state.settings (notice_at base m e) m.state.res m.state.count)

  -- a byte holds it
  pub broke_byte : broke_at base m e < 256
  broke_byte = either (λ v. omega (arith, broke_below, pow_mono v.1.1)) (λ r s. omega (arith, refused_breaks_none r))

  -- a set that isn't empty comes only with ` ok` or ` sc 0`
  pub broke_outcome : broke_at base m e ≢ 0 → (outcome_at base m e ≡ O.Retired) ⊎ (outcome_at base m e ≡ O.ScStored)
  unfolding answer_of observe_all_of
  broke_outcome = act_outcome (act_of base m.mem m.state e)
    where
      none : (n : Notice) → BreaksNone m.state.settings n → broken_of m.state.settings n m.state.count m.state.res ≡ 0
      none n s = spared_broken m.state.settings n s m.state.count m.state.res

      by_notice : (n : Notice) → broken_of m.state.settings n m.state.count m.state.res ≢ 0 → (retired_as n ≡ O.Retired) ⊎ (retired_as n ≡ O.ScStored)
      by_notice N.Quiet d = inl refl
      by_notice (N.LoadReserved g a w) d = inl refl
      by_notice (N.ScStored g b n) d = inr refl
      by_notice (N.ScFailed g) d = absurd (d (none (N.ScFailed g) (failed_spares m.state.settings g)))
      by_notice (N.Write g b n) d = inl refl
      by_notice (N.DeviceWrite b n) d = inl refl
      by_notice (N.Yield g) d = inl refl

      act_outcome : (act : Act) → broken_after m.state.settings m.state.count act m.state.res ≢ 0
          → (outcome_of act ≡ O.Retired) ⊎ (outcome_of act ≡ O.ScStored)
      act_outcome (refuse number) d = absurd (d refl)
      act_outcome (fault cause value) d = absurd (d refl)
      act_outcome (change h ws to t) d = by_notice (notice_of h t) d
      act_outcome (put a bs) d = inl refl
      act_outcome (release h) d = inl refl
