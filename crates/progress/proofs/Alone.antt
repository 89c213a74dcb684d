-- Demand 3 with its premise in terms of events. Assumes nothing.
use mathlib.Core.Path.{◌≡◌, refl, sym, ◌∙◌, ap, subst}
use mathlib.Core.Logic.{◌↔◌, ◌⊎◌, inl, inr}
use mathlib.Core.Bool.{Bool, true, false, cond}
use mathlib.Core.List.{List, [], ◌∷◌}
use Prim.Native.Nat.{ℕ, ◌-◌, ◌<◌}
use lib.ListN.{length}
use Rattle.settings.specs.Settings.{at_version, JalrPermitted}
use Rattle.settings.specs.declared.Settings.{Settings}
use Rattle.reserve.specs.declared.Notice.TheVariants as N
use Rattle.isa.specs.declared.Atomic.{Atomic}
use Rattle.events.specs.declared.Event.{Event}
use Rattle.model.specs.Perform.{Machine, xlen, next_of}
use Rattle.model.specs.Valid.{Valid}
use Rattle.model.specs.Trace.{notice_at}
use Rattle.model.proofs.Valid.{valid_next}
use Rattle.model.proofs.Frame.{count_next}
use Rattle.notices.proofs.Notices.{notice_yield}
use Rattle.notices.proofs.Exact.{notice_exact, writes_exact}
use Rattle.retry.specs.Loop.{check_of}
use Rattle.retry.specs.Versions.{NoJalr}
use Rattle.retry.specs.declared.LoopAnswer.TheVariants.{Accepted}
use Rattle.retry.proofs.VersionLaws.{accepted_either}
use Rattle.progress.specs.Claim.{is_step, StartUnder, Start, LeftAlone, Harmless, Fine, Finish, Safe, Finishes, Calm, Unfinished, NextStep}
use Rattle.progress.proofs.Retry.{retry, next_step}

module _ (base h p addr : ℕ) (words : List ℕ) (lr : Atomic) where
  -- in a machine that 1 and 2 don't refuse, and of a used hart, both premises say the same
  pub alone_exact : (m : Machine) → Valid base m → h < m.state.count → (e : Event)
      → LeftAlone base h p addr words lr m e ↔ Harmless base h p addr words lr m e
  alone_exact m v u e = (given, taken)
    where
      given : LeftAlone base h p addr words lr m e → Harmless base h p addr words lr m e
      given l =
          record {
            block = λ t. let w = (writes_exact base m v e _ _).0 t in l.no_word w.0 w.1 w.2 w.3;
            reserved = λ t. let w = (writes_exact base m v e _ _).0 t in l.no_set w.0 w.1 w.2 w.3;
            stays = λ q. l.no_yield ((notice_exact base m v e (N.Yield h)).0 q).the_yield;
          }

      taken : Harmless base h p addr words lr m e → LeftAlone base h p addr words lr m e
      taken l =
          record {
            no_word = λ b n w t. l.block ((writes_exact base m v e _ _).1 (b, n, w, t));
            no_set = λ b n w t. l.reserved ((writes_exact base m v e _ _).1 (b, n, w, t));
            no_yield = λ q. l.stays (ap (notice_at base m) q ∙ notice_yield base m v h u);
          }

  -- ---- from one premise to another that says as much, in machines that 1 and 2 don't refuse

  Follows : (Machine → Event → Type 0) → (Machine → Event → Type 0) → Type 0
  Follows A B = (m : Machine) → Valid base m → h < m.state.count → (e : Event) → A m e → B m e

  module _ (A B : Machine → Event → Type 0) (f : Follows A B) where
    calm_by : (es : List Event) (m : Machine) → Valid base m → h < m.state.count → Calm base h p addr words lr A m es → Calm base h p addr words lr B m es
    unfolding Follows
    calm_by [] m v u c = tt
    calm_by (e ∷ es) m v u c = (
      λ q. f m v u e (c.0 q),
      calm_by es (next_of base m e) (valid_next base m v e) (subst (λ (k : ℕ). h < k) (sym (count_next base m e)) u) c.1,
    )

    safe_by : (es : List Event) (k : ℕ) (m : Machine) → Valid base m → h < m.state.count → Safe base h p addr words lr B k m es
        → Safe base h p addr words lr A k m es
    unfolding Follows
    safe_by [] k m v u s = tt
    safe_by (e ∷ es) k m v u s =
        go (is_step h e) s (λ j. safe_by es j (next_of base m e) (valid_next base m v e) (subst (λ (c : ℕ). h < c) (sym (count_next base m e)) u))
      where
        go : (t : Bool)
            → cond t
            (Fine base h p addr words lr m e
            × (Finish base h p addr words lr m e ⊎ ((1 < k) × Safe base h p addr words lr B (k - 1) (next_of base m e) es)))
            (B m e → Safe base h p addr words lr B k (next_of base m e) es)
            → ((j : ℕ) → Safe base h p addr words lr B j (next_of base m e) es → Safe base h p addr words lr A j (next_of base m e) es)
            → cond t
            (Fine base h p addr words lr m e
            × (Finish base h p addr words lr m e ⊎ ((1 < k) × Safe base h p addr words lr A (k - 1) (next_of base m e) es)))
            (A m e → Safe base h p addr words lr A k (next_of base m e) es)
        go false s more = λ l. more k (s (f m v u e l))
        go true s more = (s.0, on s.1)
          where
            on : Finish base h p addr words lr m e ⊎ ((1 < k) × Safe base h p addr words lr B (k - 1) (next_of base m e) es)
                → Finish base h p addr words lr m e ⊎ ((1 < k) × Safe base h p addr words lr A (k - 1) (next_of base m e) es)
            on (inl d) = inl d
            on (inr d) = inr (d.0, more (k - 1) d.1)

  -- events that leave the loop alone in the notices' words do so in those of events
  pub calm_alone : (es : List Event) (m : Machine) → Valid base m → h < m.state.count
      → Calm base h p addr words lr (Harmless base h p addr words lr) m es → Calm base h p addr words lr (LeftAlone base h p addr words lr) m es
  unfolding Follows
  calm_alone = calm_by (Harmless base h p addr words lr) (LeftAlone base h p addr words lr) (λ m v u e. (alone_exact m v u e).1)

  harmless : Follows (LeftAlone base h p addr words lr) (Harmless base h p addr words lr)
  unfolding Follows
  harmless m v u e = (alone_exact m v u e).0

  -- Demand 3 in terms of events: from a start, every list of events is safe for as many steps of the hart as the block has words, as long as each event of
  -- others writes into neither the loop's words nor the reserved set and is no yield of the hart.
  pub retry_alone : (m : Machine) → Start base h p addr words lr m → Finishes base h p addr words lr (LeftAlone base h p addr words lr) m
  retry_alone m st es =
      safe_by (LeftAlone base h p addr words lr) (Harmless base h p addr words lr) harmless es (length words) m st.valid st.used
      (retry base h p addr words lr m st es)

  -- the same without recursion
  pub next_step_alone : (m : Machine) → Start base h p addr words lr m → (so_far : List Event)
      → Calm base h p addr words lr (LeftAlone base h p addr words lr) m so_far → Unfinished base h p addr words lr m so_far
      → NextStep base h p addr words lr (length words) m so_far
  next_step_alone m st so_far c u =
      next_step base h p addr words lr m st so_far
      (calm_by (LeftAlone base h p addr words lr) (Harmless base h p addr words lr) harmless so_far m st.valid st.used c) u

  -- ---- by the state's own version

  start_as : (settings : Settings) (m : Machine) → StartUnder base h p addr words lr settings m → check_of (at_version 21 m.state.settings) words ≡ Accepted
      → Start base h p addr words lr m
  start_as settings m st accepted =
      record {
        valid = st.valid;
        shaped = st.shaped;
        used = st.used;
        here = st.here;
        accepted = accepted;
        placed = st.placed;
        mapped = st.mapped;
        first = st.first;
        address = st.address;
        aligned = st.aligned;
        reachable = st.reachable;
      }

  -- 02 [7]: "Demand 3 stands for 2.1 as before, and for 2.0 only for loops with no JALR": a block that the checker accepts under the state's settings
  pub retry_by_version : (m : Machine) → StartUnder base h p addr words lr m.state.settings m → (JalrPermitted m.state.settings → NoJalr (xlen m) words)
      → Finishes base h p addr words lr (LeftAlone base h p addr words lr) m
  retry_by_version m st none =
      let settings = m.state.settings in
      retry_alone m (start_as settings m st ((accepted_either words settings (at_version 21 settings) refl refl st.valid.1.3.0).0 (st.accepted, none)))
