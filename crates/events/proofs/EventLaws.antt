-- The events one after another. Assumes nothing.
use mathlib.Core.Path.{◌≡◌, refl, sym, ap, ◌∙◌}
use mathlib.Core.Bool.{true, false, cond}
use mathlib.Core.List.{List, [], ◌∷◌, ◌++◌}
use Prim.Native.Nat.{ℕ, zero, suc, ◌+◌, ◌-◌, ◌*◌, ◌/◌, ◌<◌}
use native.Mathlib.Omega.{arith}
use lib.ListN.{length, take, drop, length-append}
use lib.Seq.{take_at, drop_at, drop-drop}
use Rattle.word.specs.Memory.{part}
use Rattle.events.specs.Events.{event_of, good_event, first_bad, first_events, events_of}
use Rattle.std.specs.Prelude.{Ok, Err}

-- the first bad one of n events, one after another, wherever they stand
module _ (count base len : ℕ) (body : List ℕ) where
  pub first_bad_zero : (n at : ℕ) → n ≡ 0 → first_bad count base len body n at ≡ Ok tt
  unfolding first_bad
  first_bad_zero zero at h = refl
  first_bad_zero (suc n) at h = absurd (omega arith)

  pub first_bad_good : (n at : ℕ) → 0 < n → good_event count base len (part body at 24) ≡ true
      → first_bad count base len body n at ≡ first_bad count base len body (n - 1) (at + 24)
  unfolding first_bad
  first_bad_good zero at h e = absurd (omega arith)
  first_bad_good (suc n) at h e =
      let l : suc n - 1 ≡ n = omega arith in
      rw (e, l)

  pub first_bad_bad : (n at : ℕ) → 0 < n → good_event count base len (part body at 24) ≡ false → first_bad count base len body n at ≡ Err at
  unfolding first_bad
  first_bad_bad zero at h e = absurd (omega arith)
  first_bad_bad (suc n) at h e = rw e

-- a body whose next event is cut off
module _ (rest e left : List ℕ) (cut : rest ≡ e ++ left) (whole : length e ≡ 24) where
  pub cut_take : take 24 rest ≡ e
  cut_take = rw cut (take_at e left 24 whole)

  pub cut_drop : drop 24 rest ≡ left
  cut_drop = rw cut (drop_at e left 24 whole)

  pub cut_length : length rest ≡ 24 + length left
  cut_length = ap length cut ∙ length-append e left ∙ ap (λ (k : ℕ). k + length left) whole

  pub cut_count : length rest / 24 ≡ suc (length left / 24)
  cut_count = omega (arith, cut_length)

  -- it is the first of the next k + 1, and of all
  pub first_next : (k : ℕ) → first_events (suc k) rest ≡ event_of e ∷ first_events k left
  unfolding first_events
  first_next k = rw (cut_take, cut_drop) refl

  pub events_next : events_of rest ≡ event_of e ∷ events_of left
  events_next = rw cut_count (first_next (length left / 24))

  module _ (count base len : ℕ) (body : List ℕ) (i : ℕ) (at : rest ≡ drop (24 * i) body) where
    pub cut_place : left ≡ drop (24 * (i + 1)) body
    cut_place =
        let p : 24 * i + 24 ≡ 24 * (i + 1) = omega arith in
        sym cut_drop ∙ ap (drop 24) at ∙ drop-drop 24 (24 * i) body ∙ ap (λ (k : ℕ). drop k body) p

    -- and it decides, or what is left does
    pub first_bad_next : first_bad count base len body (length rest / 24) (24 * i)
        ≡ cond (good_event count base len e) (first_bad count base len body (length left / 24) (24 * (i + 1))) (Err (24 * i))
    unfolding first_bad part
    first_bad_next =
        let p : 24 * i + 24 ≡ 24 * (i + 1) = omega arith in
        rw (cut_count, ← at, cut_take, p) refl

-- where no event is left
pub events_none : (rest : List ℕ) → length rest < 24 → events_of rest ≡ []
unfolding first_events
events_none rest h = let z : length rest / 24 ≡ 0 = omega arith in rw z refl

pub first_bad_none : (count base len : ℕ) (body rest : List ℕ) (p : ℕ) → length rest < 24 → first_bad count base len body (length rest / 24) p ≡ Ok tt
unfolding first_bad
first_bad_none count base len body rest p h = let z : length rest / 24 ≡ 0 = omega arith in rw z refl

-- as many events as the body has records
pub length-first_events : (n : ℕ) (body : List ℕ) → length (first_events n body) ≡ n
unfolding first_events
length-first_events zero body = refl
length-first_events (suc n) body = ap suc (length-first_events n (drop 24 body))

pub length_events : (body : List ℕ) → length (events_of body) ≡ length body / 24
length_events body = length-first_events (length body / 24) body
