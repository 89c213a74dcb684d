-- A refusal is given exactly by the table of refusals, and changes nothing. Assumes nothing.
use Prim.Native.Nat.{ℕ, ◌≤◌, ◌<◌}
use mathlib.Core.Path.{◌≡◌, refl, sym, ◌∙◌, ap, subst}
use mathlib.Core.Logic.{inl, inr, ⊎_elim, ◌↔◌}
use mathlib.Core.Bool.{Bool, false, cond, ◌&&◌}
use mathlib.Core.List.{List}
use native.Mathlib.Omega.{arith}
use lib.ListN.{length}
use lib.Dec.{ltb, leb}
use borrow.Author.Tests.{ltb-true, ltb-false, leb-true, leb-false, le-leb, ne_eqb}
use Rattle.word.specs.Bytes.{to_le}
use Rattle.word.proofs.TestLaws.{bool_cases, contrary, never}
use Rattle.reserve.specs.Range.{inside_of}
use Rattle.reserve.proofs.RangeLaws.{inside_of_lem, of_inside}
use Rattle.machine.specs.State.{memory_ok, state_ok, refusal_of}
use Rattle.machine.specs.Rules.{MemoryRules, StateRules}
use Rattle.machine.specs.declared.State.{State}
use Rattle.machine.proofs.StateLaws.{memory_exact, wrong_exact, state_exact, refusal_0, refusal_1, refusal_2}
use Rattle.events.specs.declared.Event.{Event}
use Rattle.events.specs.declared.Event.TheVariants.{Step, Device, Yield}
use Rattle.effect.specs.Effect.{nothing, reserve, store, sc_stored, sc_failed, Exec, trap, effect}
use Rattle.model.specs.Act.{Act, refuse, fault, change, put, release, outcome_of, apply, leaves}
use Rattle.model.specs.Perform.{step_of, of_exec, device_of, act_on, act_of, answer_of, memory_of}
use Rattle.model.specs.declared.Outcome.{Outcome}
use Rattle.model.specs.declared.Outcome.TheVariants as O
use Rattle.answers.specs.Refusals.{NoHart, BadSize, Beyond, RefusalRow, bad_memory, bad_state, no_hart, bad_size, beyond, FirstRefusal, Unrefused}

-- ---- the answers apart

-- 0: retired, 1: a trap, 2: a refusal
abbrev pub kind : Outcome → ℕ
kind O.Retired = 0
kind O.ScStored = 0
kind O.ScFailed = 0
kind (O.Trap cause value) = 1
kind (O.Refused number) = 2

abbrev pub number_in : Outcome → ℕ
number_in O.Retired = 0
number_in O.ScStored = 0
number_in O.ScFailed = 0
number_in (O.Trap cause value) = 0
number_in (O.Refused number) = number

-- what is done where nothing is refused
abbrev pub passed : ℕ → List ℕ → State → Event → Act
passed base mem s (Step h) = of_exec h (step_of base mem s h)
passed base mem s (Device a n v) = put a (to_le n v)
passed base mem s (Yield h) = release h

pub done_kind : (h : ℕ) (x : Exec) → kind (outcome_of (of_exec h x)) ≤ 1
done_kind h (trap cause value) = omega arith
done_kind h (effect ws to nothing) = omega arith
done_kind h (effect ws to (reserve a w)) = omega arith
done_kind h (effect ws to (store a bs)) = omega arith
done_kind h (effect ws to (sc_stored a bs)) = omega arith
done_kind h (effect ws to sc_failed) = omega arith

passed_kind : (base : ℕ) (mem : List ℕ) (s : State) (e : Event) → kind (outcome_of (passed base mem s e)) ≤ 1
passed_kind base mem s (Step h) = done_kind h (step_of base mem s h)
passed_kind base mem s (Device a n v) = omega arith
passed_kind base mem s (Yield h) = omega arith

-- what is not retired changes nothing
keeps : (base : ℕ) (mem : List ℕ) (s : State) (a : Act) → 0 < kind (outcome_of a) → (apply s a ≡ s) × (leaves base mem a ≡ mem)
unfolding apply leaves
keeps base mem s (refuse number) h = (refl, refl)
keeps base mem s (fault cause value) h = (refl, refl)
keeps base mem s (change g ws to nothing) h = absurd (omega arith)
keeps base mem s (change g ws to (reserve a w)) h = absurd (omega arith)
keeps base mem s (change g ws to (store a bs)) h = absurd (omega arith)
keeps base mem s (change g ws to (sc_stored a bs)) h = absurd (omega arith)
keeps base mem s (change g ws to sc_failed) h = absurd (omega arith)
keeps base mem s (put a bs) h = absurd (omega arith)
keeps base mem s (release g) h = absurd (omega arith)

pub unretired_keeps : (base : ℕ) (mem : List ℕ) (s : State) (e : Event) → 0 < kind (answer_of base mem s e).outcome
    → ((answer_of base mem s e).state ≡ s) × (memory_of base mem s e ≡ mem)
unfolding answer_of memory_of
unretired_keeps base mem s e h = keeps base mem s (act_of base mem s e) h

-- ---- the first of several rows is one

pub first_same : (R : ℕ → Type 0) (m n : ℕ) → R m → ((k : ℕ) → k < m → R k → ⊥) → R n → ((k : ℕ) → k < n → R k → ⊥) → m ≡ n
first_same R m n a f b g =
    bool_cases (ltb m n) (λ t. absurd (g m (ltb-true m n t) a))
    (λ t.
    bool_cases (ltb n m) (λ u. absurd (f n (ltb-true n m u) b)) (λ u. omega (arith, ltb-false m n t, ltb-false n m u)))

-- ---- the table decides

module _ (base : ℕ) (mem : List ℕ) (s : State) where
  none_below : (e : Event) (n : ℕ) → (1 < n → MemoryRules s.settings base (length mem)) → (2 < n → StateRules base (length mem) s)
      → (3 < n → NoHart s e → ⊥) → (4 < n → BadSize e → ⊥) → (5 < n → Beyond base (length mem) e → ⊥)
      → (k : ℕ) → k < n → RefusalRow base mem s e k → ⊥
  none_below e n a b c d f k l (bad_memory q r) = (wrong_exact s.settings base (length mem)).0 r (a (omega arith))
  none_below e n a b c d f k l (bad_state q r) = r (b (omega arith))
  none_below e n a b c d f k l (no_hart q r) = c (omega arith) r
  none_below e n a b c d f k l (bad_size q r) = d (omega arith) r
  none_below e n a b c d f k l (beyond q r) = f (omega arith) r

  pub numbered : (e : Event) (k : ℕ) → RefusalRow base mem s e k → (1 ≤ k) × (k ≤ 5)
  numbered e k (bad_memory q r) = (omega arith, omega arith)
  numbered e k (bad_state q r) = (omega arith, omega arith)
  numbered e k (no_hart q r) = (omega arith, omega arith)
  numbered e k (bad_size q r) = (omega arith, omega arith)
  numbered e k (beyond q r) = (omega arith, omega arith)

  -- refused by the first row that applies, or let pass
  pub data Decided (e : Event) : Type 0 where
    refuses : (n : ℕ) → act_of base mem s e ≡ refuse n → FirstRefusal base mem s e n → Decided e
    passes : act_of base mem s e ≡ passed base mem s e → Unrefused base mem s e → Decided e

  -- of a good memory and state
  module _ (m : MemoryRules s.settings base (length mem)) (r : StateRules base (length mem) s) where
    clear : (e : Event) (n : ℕ) → (3 < n → NoHart s e → ⊥) → (4 < n → BadSize e → ⊥) → (5 < n → Beyond base (length mem) e → ⊥)
        → (k : ℕ) → k < n → RefusalRow base mem s e k → ⊥
    clear e n = none_below e n (λ l. m) (λ l. r)

    free : (e : Event) → (NoHart s e → ⊥) → (BadSize e → ⊥) → (Beyond base (length mem) e → ⊥) → Unrefused base mem s e
    free e a b c k q = let l = numbered e k q in clear e 6 (λ z. a) (λ z. b) (λ z. c) k (omega arith) q

    good : (e : Event) → act_of base mem s e ≡ act_on base mem s e
    unfolding act_of
    good e = rw ((refusal_0 base (length mem) s).1 (m, r))

    by_hart_lem : (e : Event) (h : ℕ) → (a : Act) → ((h < s.count → ⊥) → NoHart s e) → (NoHart s e → h < s.count → ⊥)
        → (BadSize e → ⊥) → (Beyond base (length mem) e → ⊥) → a ≡ passed base mem s e
        → act_on base mem s e ≡ cond (ltb h s.count) a (refuse 3) → Decided e
    by_hart_lem e h a is isnt b c p q =
        bool_cases (ltb h s.count)
        (λ t. passes (good e ∙ q ∙ ap (λ (b : Bool). cond b a (refuse 3)) t ∙ p) (free e (λ z. isnt z (ltb-true h s.count t)) b c))
        (λ t.
        refuses 3 (good e ∙ q ∙ ap (λ (b : Bool). cond b a (refuse 3)) t)
        (record { applies = no_hart refl (is (λ l. omega (arith, ltb-false h s.count t, l))); first = clear e 3 (never refl) (never refl) (never refl) }))

    refuse_size : (a n v : ℕ) → BadSize (Device a n v) → (leb 1 n && leb n 8) ≡ false → Decided (Device a n v)
    unfolding act_on device_of
    refuse_size a n v bad t =
        refuses 4 (good (Device a n v) ∙ rw t)
        (record { applies = bad_size refl bad; first = clear (Device a n v) 4 (λ l z. z) (never refl) (never refl) })

    device_sized : (a n v : ℕ) → 1 ≤ n → n ≤ 8 → Decided (Device a n v)
    unfolding act_on device_of
    device_sized a n v lo hi =
        let sized : BadSize (Device a n v) → ⊥ = λ z. ⊎_elim (λ (q : n ≡ 0). omega arith) (λ (q : 8 < n). omega arith) z in
        bool_cases (inside_of base (length mem) a n)
        (λ t.
        passes (good (Device a n v) ∙ rw (le-leb 1 n lo, le-leb n 8 hi, t))
        (free (Device a n v) (λ z. z) sized (λ z. z (inside_of_lem base (length mem) a n t))))
        (λ t.
        refuses 5 (good (Device a n v) ∙ rw (le-leb 1 n lo, le-leb n 8 hi, t))
        (record {
          applies = beyond refl (λ i. contrary (of_inside base (length mem) a n i) t);
          first = clear (Device a n v) 5 (λ l z. z) (λ l. sized) (never refl);
        }))

    decided_on : (e : Event) → Decided e
    unfolding act_on device_of
    decided_on (Step h) = by_hart_lem (Step h) h (of_exec h (step_of base mem s h)) (λ z. z) (λ z. z) (λ z. z) (λ z. z) refl refl
    decided_on (Device a n v) =
        bool_cases (leb 1 n)
        (λ t.
        bool_cases (leb n 8) (λ u. device_sized a n v (leb-true 1 n t) (leb-true n 8 u))
        (λ u. refuse_size a n v (inr (omega (arith, leb-false n 8 u))) (rw (t, u))))
        (λ t. refuse_size a n v (inl (omega (arith, leb-false 1 n t))) (rw t))
    decided_on (Yield h) = by_hart_lem (Yield h) h (release h) (λ z. z) (λ z. z) (λ z. z) (λ z. z) refl refl

  refuses_early : (e : Event) (n : ℕ) → 0 < n → refusal_of base (length mem) s ≡ n → act_of base mem s e ≡ refuse n
  unfolding act_of
  refuses_early e n l q = rw (q, ne_eqb n 0 (λ z. omega arith))

  pub decided : (e : Event) → Decided e
  decided e =
      bool_cases (memory_ok s.settings base (length mem))
      (λ t.
      let m = (memory_exact s.settings base (length mem)).0 t in
      bool_cases (state_ok base (length mem) s) (λ u. decided_on m ((state_exact base (length mem) s).0 u) e)
      (λ u.
      let bad : StateRules base (length mem) s → ⊥ = λ r. contrary ((state_exact base (length mem) s).1 r) u in
      refuses 2 (refuses_early e 2 (omega arith) ((refusal_2 base (length mem) s).1 (m, bad)))
      (record { applies = bad_state refl bad; first = none_below e 2 (λ l. m) (never refl) (never refl) (never refl) (never refl) })))
      (λ t.
      let bad = (wrong_exact s.settings base (length mem)).1 (λ r. contrary ((memory_exact s.settings base (length mem)).1 r) t) in
      refuses 1 (refuses_early e 1 (omega arith) ((refusal_1 base (length mem) s).1 bad))
      (record { applies = bad_memory refl bad; first = none_below e 1 (never refl) (never refl) (never refl) (never refl) (never refl) }))

  module _ (e : Event) where
    given : Decided e → (n : ℕ) → (answer_of base mem s e).outcome ≡ O.Refused n → FirstRefusal base mem s e n
    unfolding answer_of
    given (refuses m q f) n o =
        subst (λ (k : ℕ). FirstRefusal base mem s e k) (ap number_in (ap outcome_of (sym q) ∙ o)) f
    given (passes q f) n o =
        let z : kind (outcome_of (passed base mem s e)) ≡ 2 = ap kind (ap outcome_of (sym q) ∙ o) in
        absurd (omega (arith, passed_kind base mem s e, z))

    taken : Decided e → (n : ℕ) → FirstRefusal base mem s e n → (answer_of base mem s e).outcome ≡ O.Refused n
    unfolding answer_of
    taken (refuses m q f) n g =
        ap outcome_of q ∙ ap O.Refused (first_same (RefusalRow base mem s e) m n f.applies f.first g.applies g.first)
    taken (passes q f) n g = absurd (f n g.applies)

    -- 01: each number is "Given exactly when" its row applies, "in the order they are tried"; no other number is given
    pub refused_exact : (number : ℕ) → ((answer_of base mem s e).outcome ≡ O.Refused number) ↔ FirstRefusal base mem s e number
    refused_exact n = (given (decided e) n, taken (decided e) n)

    -- 01: "A refusal returns its number, the state as given, and memory unchanged."
    pub refused_keeps : (number : ℕ) → (answer_of base mem s e).outcome ≡ O.Refused number
        → ((answer_of base mem s e).state ≡ s) × (memory_of base mem s e ≡ mem)
    refused_keeps n o = unretired_keeps base mem s e (omega (arith, ap kind o))
