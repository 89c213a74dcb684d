-- A hart that started without a reservation holds one exactly if its history says so. Assumes nothing.
use Prim.Native.Nat.{ℕ}
use mathlib.Core.Path.{◌≡◌, refl, sym, ◌∙◌, ap, subst}
use mathlib.Core.Logic.{◌≢◌, ◌⊎◌, inl, inr, ⊎_elim, ◌↔◌}
use mathlib.Core.Bool.{Bool, true, false, cond, not, ◌&&◌}
use mathlib.Core.List.{List, [], ◌∷◌, ◌++◌}
use native.Mathlib.Omega.{arith}
use lib.Dec.{eqb}
use borrow.Author.Tests.{eqb-true, eqb-false, eq-eqb, ne_eqb}
use Rattle.word.proofs.TestLaws.{bool_cases, contrary}
use Rattle.settings.specs.Settings.{DevicesBreak, devices_break}
use Rattle.settings.specs.declared.Settings.{Settings}
use Rattle.settings.proofs.SettingsLaws.{devices_exact}
use Rattle.reserve.specs.Range.{Touch, touches, set_of}
use Rattle.reserve.specs.Reserve.{held, covers_of, breaks_of, own_of, observe_of}
use Rattle.std.specs.Prelude.{Option, None, Some}
use Rattle.reserve.specs.declared.Reservation.{Reservation}
use Rattle.reserve.specs.declared.Notice.{Notice}
use Rattle.reserve.specs.declared.Notice.TheVariants.{Quiet, LoadReserved, ScStored, ScFailed, Write, DeviceWrite, Yield}
use Rattle.reserve.proofs.RangeLaws.{apart_exact, inside_of_lem, of_inside, none_covers}
use Rattle.history.specs.History.{observes, Spares, AllSpare, Reserved, Since}

none_held : {a w : ℕ} {P : Type 0} → None ≡ held a w → P
none_held e = absurd (let z : ◌≡◌ {A = ℕ} 0 1 = cc in omega arith)

-- the LR's address and width, or 0
addr_in : Option Reservation → ℕ
addr_in None = 0
addr_in (Some r) = r.addr

width_in : Option Reservation → ℕ
width_in None = 0
width_in (Some r) = r.width

-- equal reservations are of the same LR
held_parts : {a w b v : ℕ} → held b v ≡ held a w → (b ≡ a) × (v ≡ w)
unfolding addr_in width_in
held_parts e = (ap addr_in e, ap width_in e)

-- a choice that is held is not None
not_none : (t : Bool) (r : Option Reservation) (a w : ℕ) → cond t None r ≡ held a w → (t ≡ false) × (r ≡ held a w)
not_none true r a w e = none_held e
not_none false r a w e = (refl, e)

module _ (settings : Settings) (h a w : ℕ) where
  -- by whether the notice is of hart h itself
  by_hart_lem : {P : Type 0} (g : ℕ) (x r : Option Reservation) → cond (eqb g h) x r ≡ held a w
      → (g ≡ h → x ≡ held a w → P) → (g ≢ h → r ≡ held a w → P) → P
  by_hart_lem g x r e own other =
      bool_cases (eqb g h)
      (λ t. own (eqb-true g h t) (subst (λ (s : Bool). cond s x r ≡ held a w) t e))
      (λ t. other (eqb-false g h t) (subst (λ (s : Bool). cond s x r ≡ held a w) t e))

  -- a write of another hart that did not reach the set
  unreached : (g b n : ℕ) → g ≢ h → (not (eqb g h) && touches b n (set_of settings.size a) settings.size) ≡ false
      → Touch b n (set_of settings.size a) settings.size → ⊥
  unreached g b n d f = (apart_exact b n (set_of settings.size a) settings.size).0 (rw (ne_eqb g h d) at f)

  -- a device write that did not reach the bytes of the LR, where device writes break reservations
  untouched : (b n : ℕ) → (devices_break settings && touches b n a w) ≡ false → DevicesBreak settings → Touch b n a w → ⊥
  untouched b n f d = (apart_exact b n a w).0 (rw ((devices_exact settings).1 d) at f)

  -- the LR makes the reservation
  pub made : (r : Option Reservation) → observe_of settings h (LoadReserved h a w) r ≡ held a w
  unfolding observe_of breaks_of own_of
  made None = rw (eq-eqb h h refl)
  made (Some p) = rw (eq-eqb h h refl)

  -- what spares it keeps it
  pub kept : (n : Notice) → Spares settings h a w n → observe_of settings h n (held a w) ≡ held a w
  unfolding observe_of breaks_of own_of Spares
  kept Quiet s = refl
  kept (LoadReserved g b v) s = rw (ne_eqb g h s)
  kept (ScStored g b n) s = rw (ne_eqb g h s.0, (apart_exact b n (set_of settings.size a) settings.size).1 s.1)
  kept (ScFailed g) s = rw (ne_eqb g h s)
  kept (Write g b n) s =
      bool_cases (eqb g h) (λ t. rw t) (λ t. rw (t, (apart_exact b n (set_of settings.size a) settings.size).1 (s (eqb-false g h t))))
  kept (DeviceWrite b n) s =
      bool_cases (devices_break settings) (λ t. rw (t, (apart_exact b n a w).1 (s ((devices_exact settings).0 t)))) (λ t. rw t)
  kept (Yield g) s = rw (ne_eqb g h s)

  -- where a reservation that is held after a notice comes from: the notice made it, or spared it
  Came : Notice → Option Reservation → Type 0
  Came n r = (n ≡ LoadReserved h a w) ⊎ ((r ≡ held a w) × Spares settings h a w n)

  came_by : (n : Notice) (r : Option Reservation) → breaks_of settings h n r ≡ false → own_of h n r ≡ held a w → Came n r
  unfolding Came breaks_of own_of Spares
  came_by Quiet r f e = inr (e, tt)
  came_by (LoadReserved g b v) r f e = by_hart_lem g (held b v) r e (λ s q. let p = held_parts q in inl (rw (s, p.0, p.1) refl)) (λ d q. inr (q, d))
  came_by (ScStored g b n) r f e =
      by_hart_lem g None r e (λ s q. none_held q)
      (λ d q. inr (q, (d, unreached g b n d (subst (λ (x : Option Reservation). breaks_of settings h (ScStored g b n) x ≡ false) q f))))
  came_by (ScFailed g) r f e = by_hart_lem g None r e (λ s q. none_held q) (λ d q. inr (q, d))
  came_by (Write g b n) r f e =
      inr (e, λ d. unreached g b n d (subst (λ (x : Option Reservation). breaks_of settings h (Write g b n) x ≡ false) e f))
  came_by (DeviceWrite b n) r f e =
      inr (e, untouched b n (subst (λ (x : Option Reservation). breaks_of settings h (DeviceWrite b n) x ≡ false) e f))
  came_by (Yield g) r f e = by_hart_lem g None r e (λ s q. none_held q) (λ d q. inr (q, d))

  pub came : (n : Notice) (r : Option Reservation) → observe_of settings h n r ≡ held a w → (n ≡ LoadReserved h a w) ⊎ ((r ≡ held a w) × Spares settings h a w n)
  unfolding observe_of Came
  came n r e = let s = not_none (breaks_of settings h n r) (own_of h n r) a w e in came_by n r s.0 s.1

  pub all_kept : (ns : List Notice) → AllSpare settings h a w ns → observes settings h ns (held a w) ≡ held a w
  all_kept [] s = refl
  all_kept (n ∷ ns) s = ap (λ (r : Option Reservation). observes settings h ns r) (kept n s.0) ∙ all_kept ns s.1

  -- an LR and notices that spare what it reserved leave the reservation, whatever came before
  pub holds : (before since : List Notice) → AllSpare settings h a w since → (r : Option Reservation)
      → observes settings h (before ++ LoadReserved h a w ∷ since) r ≡ held a w
  holds [] since s r = ap (λ (x : Option Reservation). observes settings h since x) (made r) ∙ all_kept since s
  holds (n ∷ before) since s r = holds before since s (observe_of settings h n r)

  -- from any start: the trace made it, or it was there and all spared it
  pub from_any : (trace : List Notice) (r : Option Reservation) → observes settings h trace r ≡ held a w
      → Reserved settings h a w trace ⊎ ((r ≡ held a w) × AllSpare settings h a w trace)
  unfolding Came
  from_any [] r e = inr (e, tt)
  from_any (n ∷ ns) r e =
      ⊎_elim
      (λ (q : Reserved settings h a w ns).
      inl (record { before = n ∷ q.before; since = q.since; split = ap (λ l. n ∷ l) q.split; spared = q.spared }))
      (λ (q : (observe_of settings h n r ≡ held a w) × AllSpare settings h a w ns).
      ⊎_elim (λ (m : n ≡ LoadReserved h a w). inl (record { before = []; since = ns; split = ap (λ x. x ∷ ns) m; spared = q.1 }))
      (λ (m : (r ≡ held a w) × Spares settings h a w n). inr (m.0, (m.1, q.1))) (came n r q.0))
      (from_any ns (observe_of settings h n r) e)

  -- Of a hart that started without a reservation: it holds that of w bytes at a exactly if its latest retired LR was of these and nothing since
  -- then broke the reservation, in 01's words ("What breaks a reservation").
  pub history : (trace : List Notice) → (observes settings h trace None ≡ held a w) ↔ Reserved settings h a w trace
  history trace = (
    λ e. ⊎_elim (λ (q : Reserved settings h a w trace). q) (λ (q : (None ≡ held a w) × AllSpare settings h a w trace). none_held q.0)
        (from_any trace None e),
    λ q. subst (λ (l : List Notice). observes settings h l None ≡ held a w) (sym q.split) (holds q.before q.since q.spared None),
  )

-- 01: "Retired either way, it drops the reservation."
module _ (settings : Settings) (h : ℕ) where
  pub stored_drops : (b n : ℕ) (r : Option Reservation) → observe_of settings h (ScStored h b n) r ≡ None
  unfolding observe_of breaks_of own_of
  stored_drops b n None = rw (eq-eqb h h refl)
  stored_drops b n (Some p) = rw (eq-eqb h h refl)

  pub failed_drops : (r : Option Reservation) → observe_of settings h (ScFailed h) r ≡ None
  unfolding observe_of breaks_of own_of
  failed_drops None = rw (eq-eqb h h refl)
  failed_drops (Some p) = rw (eq-eqb h h refl)

module _ (settings : Settings) (h b n : ℕ) where
  found : (trace : List Notice) (r : Option Reservation) → observes settings h trace None ≡ r → covers_of settings r b n ≡ true → Since settings h b n trace
  unfolding covers_of
  found trace None q e = contrary e (none_covers settings b n)
  found trace (Some p) q e =
      record { addr = p.addr; width = p.width; reserved = (history settings h p.addr p.width trace).0 q; inside = inside_of_lem (set_of settings.size p.addr) settings.size b n e }

  -- From a start without reservations, an SC of n bytes at b that doesn't trap succeeds exactly if the history since its hart's latest retired LR
  -- allows it: the set around that LR's address has all the bytes, and nothing since then broke the reservation.
  pub sc_exact : (trace : List Notice) → (covers_of settings (observes settings h trace None) b n ≡ true) ↔ Since settings h b n trace
  unfolding covers_of
  sc_exact trace = (
    λ e. found trace (observes settings h trace None) refl e,
    λ s.
        subst (λ (r : Option Reservation). covers_of settings r b n ≡ true) (sym ((history settings h s.addr s.width trace).1 s.reserved))
        (of_inside (set_of settings.size s.addr) settings.size b n s.inside),
  )
