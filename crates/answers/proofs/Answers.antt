-- Every event has an answer: the first refusal that applies, else the first trap that applies, else it is retired. Assumes nothing.
use Prim.Native.Nat.{ℕ, ◌≤◌}
use mathlib.Core.Path.{◌≡◌, refl, sym, ◌∙◌, ap, subst}
use mathlib.Core.Logic.{◌↔◌}
use mathlib.Core.Bool.{Bool}
use mathlib.Core.List.{List}
use native.Mathlib.Omega.{arith}
use lib.ListN.{get_or}
use Rattle.reserve.specs.Reserve.{covers_of}
use Rattle.isa.specs.Narrow.{decode_at}
use Rattle.settings.specs.Settings.{xlen_of}
use Rattle.machine.specs.declared.State.{State}
use Rattle.events.specs.declared.Event.{Event}
use Rattle.events.specs.declared.Event.TheVariants.{Step, Device, Yield}
use Rattle.effect.specs.Effect.{nothing, reserve, store, sc_stored, sc_failed, Exec, trap, effect}
use Rattle.effect.specs.Memory.{value_at}
use Rattle.effect.specs.Execute.{reg_at}
use Rattle.model.specs.Act.{outcome_of}
use Rattle.model.specs.Perform.{reservation_of, step_of, of_exec, answer_of, memory_of}
use Rattle.model.specs.Retired.{IsRetired}
use Rattle.model.specs.declared.Outcome.{Outcome}
use Rattle.model.specs.declared.Outcome.TheVariants as O
use Rattle.answers.specs.Refusals.{FirstRefusal, Unrefused}
use Rattle.answers.specs.Causes.{EventRow, FirstTrap, Untrapped}
use Rattle.answers.specs.Answered.{Answered, refused, trapped, retired}
use Rattle.answers.proofs.Refused as R
use Rattle.answers.proofs.Trapped as T

-- ---- the answers apart

abbrev cause_in : Outcome → ℕ
cause_in O.Retired = 0
cause_in O.ScStored = 0
cause_in O.ScFailed = 0
cause_in (O.Trap cause value) = cause
cause_in (O.Refused number) = 0

abbrev value_in : Outcome → ℕ
value_in O.Retired = 0
value_in O.ScStored = 0
value_in O.ScFailed = 0
value_in (O.Trap cause value) = value
value_in (O.Refused number) = 0

effect_retired : (h : ℕ) (e : Exec) → T.is_trap e ≡ 0 → IsRetired (outcome_of (of_exec h e))
effect_retired h (trap cause value) z = absurd (omega (arith, z))
effect_retired h (effect ws to nothing) z = tt
effect_retired h (effect ws to (reserve a w)) z = tt
effect_retired h (effect ws to (store a bs)) z = tt
effect_retired h (effect ws to (sc_stored a bs)) z = tt
effect_retired h (effect ws to sc_failed) z = tt

module _ (base : ℕ) (mem : List ℕ) (s : State) where
  -- ---- the rows of an event

  row_cause : (e : Event) (k c v : ℕ) → EventRow base mem s e k c v → c ≤ 8
  row_cause (Step h) k c v r =
      let xlen = xlen_of s.settings in
      let pc = get_or s.pc h 0 in
      T.cause_most xlen s.settings.misaligned (value_at base mem pc 4) (reg_at s.x h) pc base mem (decode_at xlen (value_at base mem pc 4)) k c v r
  row_cause (Device a n v) k c w r = absurd r
  row_cause (Yield h) k c v r = absurd r

  row_step : (e : Event) (k c v : ℕ) → EventRow base mem s e k c v → (h : ℕ) × (e ≡ Step h)
  row_step (Step h) k c v r = (h, refl)
  row_step (Device a n v) k c w r = absurd r
  row_step (Yield h) k c v r = absurd r

  first_equal : (e : Event) (c v d w : ℕ) → FirstTrap (EventRow base mem s e) c v → FirstTrap (EventRow base mem s e) d w → (c ≡ d) × (v ≡ w)
  first_equal (Step h) c v d w f g =
      let xlen = xlen_of s.settings in
      let pc = get_or s.pc h 0 in
      T.first_equal xlen s.settings.misaligned (value_at base mem pc 4) (reg_at s.x h) pc base mem (decode_at xlen (value_at base mem pc 4)) c v d w f g
  first_equal (Device a n x) c v d w f g = absurd f.applies
  first_equal (Yield h) c v d w f g = absurd f.applies

  -- ---- what an event comes to

  data Decided (e : Event) (o : Outcome) : Type 0 where
    refuses : (n : ℕ) → o ≡ O.Refused n → FirstRefusal base mem s e n → Decided e o
    traps : (c v : ℕ) → o ≡ O.Trap c v → Unrefused base mem s e → FirstTrap (EventRow base mem s e) c v → Decided e o
    retires : IsRetired o → Unrefused base mem s e → Untrapped (EventRow base mem s e) → Decided e o

  step_decided : (h : ℕ) → Unrefused base mem s (Step h) → Decided (Step h) (outcome_of (of_exec h (step_of base mem s h)))
  step_decided h free = go (T.decided xlen s.settings.misaligned x pc base mem covered)
    where
      xlen : ℕ
      xlen = xlen_of s.settings

      x : ℕ → ℕ
      x = reg_at s.x h

      pc : ℕ
      pc = get_or s.pc h 0

      covered : ℕ → ℕ → Bool
      covered = covers_of s.settings (reservation_of s h)

      go : T.Decided xlen s.settings.misaligned (value_at base mem pc 4) x pc base mem (decode_at xlen (value_at base mem pc 4)) (step_of base mem s h)
          → Decided (Step h) (outcome_of (of_exec h (step_of base mem s h)))
      go (T.traps c v q f) = traps c v (ap (λ (e : Exec). outcome_of (of_exec h e)) q) free f
      go (T.retires ws to t q f) = retires (effect_retired h (step_of base mem s h) (ap T.is_trap q)) free f

  passed_decided : (e : Event) → Unrefused base mem s e → Decided e (outcome_of (R.passed base mem s e))
  passed_decided (Step h) free = step_decided h free
  passed_decided (Device a n v) free = retires tt free (λ k c w r. r)
  passed_decided (Yield h) free = retires tt free (λ k c v r. r)

  event_decided : (e : Event) → R.Decided base mem s e → Decided e (answer_of base mem s e).outcome
  unfolding answer_of
  event_decided e (R.refuses n q f) = refuses n (ap outcome_of q) f
  event_decided e (R.passes q free) = rw q (passed_decided e free)

  decided : (e : Event) → Decided e (answer_of base mem s e).outcome
  decided e = event_decided e (R.decided base mem s e)

  module _ (e : Event) where
    trap_given : (o : Outcome) → Decided e o → (c v : ℕ) → o ≡ O.Trap c v
        → Unrefused base mem s e × FirstTrap (EventRow base mem s e) c v
    trap_given o (refuses n q f) c v z = absurd (omega (arith, ap R.kind (sym q ∙ z)))
    trap_given o (traps d w q free f) c v z = (
      free,
      subst (λ (k : ℕ). FirstTrap (EventRow base mem s e) k v) (ap cause_in (sym q ∙ z))
          (subst (λ (k : ℕ). FirstTrap (EventRow base mem s e) d k) (ap value_in (sym q ∙ z)) f),
    )
    trap_given o (retires r free f) c v z = absurd (subst IsRetired z r)

    trap_taken : (o : Outcome) → Decided e o → (c v : ℕ) → Unrefused base mem s e → FirstTrap (EventRow base mem s e) c v
        → o ≡ O.Trap c v
    trap_taken o (refuses n q f) c v free g = absurd (free n f.applies)
    trap_taken o (traps d w q clear f) c v free g =
        let same = first_equal e d w c v f g in
        q ∙ ap (λ (k : ℕ). O.Trap k w) same.0 ∙ ap (λ (k : ℕ). O.Trap c k) same.1
    trap_taken o (retires r clear f) c v free g = absurd (f g.place c v g.applies)

    -- A trap is given exactly where no refusal applies, by the first row of 01's table of traps that applies, with its cause and value. A device
    -- write and a yield have no rows.
    pub trap_exact : (cause value : ℕ) → ((answer_of base mem s e).outcome ≡ O.Trap cause value)
        ↔ (Unrefused base mem s e × FirstTrap (EventRow base mem s e) cause value)
    trap_exact c v = (trap_given _ (decided e) c v, λ g. trap_taken _ (decided e) c v g.0 g.1)

    -- 01: "A trap returns cause and value and leaves registers, pc, reservations and memory as they were."
    pub trap_keeps : (cause value : ℕ) → (answer_of base mem s e).outcome ≡ O.Trap cause value
        → ((answer_of base mem s e).state ≡ s) × (memory_of base mem s e ≡ mem)
    trap_keeps c v o = R.unretired_keeps base mem s e (omega (arith, ap R.kind o))

    -- only steps trap
    pub trap_step : (cause value : ℕ) → (answer_of base mem s e).outcome ≡ O.Trap cause value → (h : ℕ) × (e ≡ Step h)
    trap_step c v o = let f = ((trap_exact c v).0 o).1 in row_step e f.place c v f.applies

    retired_given : (o : Outcome) → Decided e o → IsRetired o
        → Unrefused base mem s e × Untrapped (EventRow base mem s e)
    retired_given o (refuses n q f) r = absurd (subst IsRetired q r)
    retired_given o (traps c v q free f) r = absurd (subst IsRetired q r)
    retired_given o (retires i free f) r = (free, f)

    retired_taken : (o : Outcome) → Decided e o → Unrefused base mem s e → Untrapped (EventRow base mem s e)
        → IsRetired o
    retired_taken o (refuses n q f) free clear = absurd (free n f.applies)
    retired_taken o (traps c v q g f) free clear = absurd (clear f.place c v f.applies)
    retired_taken o (retires i g f) free clear = i

    -- 01: "A step that doesn't trap is retired": exactly what no row of either table applies to
    pub retired_exact : IsRetired (answer_of base mem s e).outcome
        ↔ (Unrefused base mem s e × Untrapped (EventRow base mem s e))
    retired_exact = (retired_given _ (decided e), λ g. retired_taken _ (decided e) g.0 g.1)

    answered_by : (o : Outcome) → Decided e o → Answered o
    answered_by o (refuses n q f) = let l = R.numbered base mem s e n f.applies in refused n l.0 l.1 q
    answered_by o (traps c v q free f) = trapped c v (row_cause e f.place c v f.applies) q
    answered_by o (retires i free f) = retired i

    -- no event is without an answer, and no answer has another number or cause
    pub answered : Answered (answer_of base mem s e).outcome
    answered = answered_by _ (decided e)
