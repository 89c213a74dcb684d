-- A body is refused by 11 exactly where it is wrong first. Assumes nothing.
use mathlib.Core.Path.{◌≡◌, refl, sym, ap, ◌∙◌}
use mathlib.Core.Logic.{◌↔◌, ◌⊎◌, inl, inr, ⊎_elim}
use mathlib.Core.Bool.{Bool, true, false, cond, ◌||◌}
use mathlib.Core.List.{List, [], ◌∷◌}
use Prim.Native.Nat.{ℕ, zero, suc, ◌+◌, ◌*◌, ◌-◌, ◌/◌, ◌%◌, ◌≤◌, ◌<◌}
use native.Mathlib.Omega.{arith}
use lib.Dec.{ltb, leb, eqb}
use lib.ListN.{length, get_or, take, drop, length-take, get_or-eq_default}
use lib.Seq.{get_or-take, get_or-drop}
use borrow.Author.Tests.{ltb-true, ltb-false, leb-true, eqb-true, eqb-false, eq-eqb, ne_eqb, lt-ltb, le-leb}
use Rattle.word.specs.Bytes.{le}
use Rattle.word.specs.Memory.{part}
use Rattle.word.proofs.TestLaws.{bool_cases, contrary, and_both, or_either}
use Rattle.reserve.specs.Range.{inside_of}
use Rattle.reserve.proofs.RangeLaws.{inside_of_lem, of_inside}
use Rattle.events.specs.Events.{kind_of, hart_of, size_of, address_of, data_of, hart_event, device_event, good_event, first_bad, checked_of, Checked}
use Rattle.events.specs.Rules.{Zeros, HartEvent, DeviceEvent, EventRules, EachEvent, WrongEvents, not_whole, bad_event, FirstWrong, NoneWrong}
use Rattle.std.specs.Prelude.{Ok, Err}

-- ---- bytes that are zero

le_zero : (xs : List ℕ) → le xs ≡ 0 → (i : ℕ) → get_or xs i 0 ≡ 0
unfolding le
le_zero [] z i = refl
le_zero (b ∷ bs) z zero = let l : b + 256 * le bs ≡ 0 = z in omega (arith, l)
le_zero (b ∷ bs) z (suc i) = let l : b + 256 * le bs ≡ 0 = z in le_zero bs (omega (arith, l)) i

zero_le : (xs : List ℕ) → ((i : ℕ) → get_or xs i 0 ≡ 0) → le xs ≡ 0
unfolding le
zero_le [] f = refl
zero_le (b ∷ bs) f =
    let low : b ≡ 0 = f 0 in
    omega (arith, low, zero_le bs (λ i. f (suc i)))

module _ (e : List ℕ) where
  part_zeros : (from n : ℕ) → le (part e from n) ≡ 0 → Zeros e from (from + n)
  unfolding part
  part_zeros from n z i l h =
      let k : from + (i - from) ≡ i = omega arith in
      ap (λ (j : ℕ). get_or e j 0) (sym k)
      ∙ sym (get_or-drop from e (i - from) 0)
      ∙ sym (get_or-take n (drop from e) (i - from) 0 (omega arith))
      ∙ le_zero (take n (drop from e)) z (i - from)

  zeros_part : (from n : ℕ) → Zeros e from (from + n) → le (part e from n) ≡ 0
  unfolding part
  zeros_part from n f =
      zero_le (take n (drop from e))
      (λ i.
      bool_cases (ltb i n)
      (λ t.
      let l = ltb-true i n t in
      get_or-take n (drop from e) i 0 l ∙ get_or-drop from e i 0 ∙ f (from + i) (omega arith) (omega arith))
      (λ t.
      get_or-eq_default (take n (drop from e)) 0 (rw length-take (omega (arith, ltb-false i n t)))))

  drop_zeros : (from to : ℕ) → le (drop from e) ≡ 0 → Zeros e from to
  drop_zeros from to z i l h =
      let k : from + (i - from) ≡ i = omega arith in
      ap (λ (j : ℕ). get_or e j 0) (sym k) ∙ sym (get_or-drop from e (i - from) 0) ∙ le_zero (drop from e) z (i - from)

  zeros_drop : (from to : ℕ) → length e ≤ to → Zeros e from to → le (drop from e) ≡ 0
  zeros_drop from to short f =
      zero_le (drop from e)
      (λ i.
      get_or-drop from e i 0
      ∙ bool_cases (ltb (from + i) to) (λ t. f (from + i) (omega arith) (ltb-true (from + i) to t))
      (λ t. get_or-eq_default e 0 (omega (arith, ltb-false (from + i) to t))))

  -- size, five zeros, address and data are the bytes 2 to 23
  all_zeros : size_of e ≡ 0 → le (part e 3 5) ≡ 0 → address_of e ≡ 0 → data_of e ≡ 0 → Zeros e 2 24
  all_zeros s z a d i l h =
      bool_cases (eqb i 2) (λ t. rw (eqb-true i 2 t) s)
      (λ t.
      let n = eqb-false i 2 t in
      bool_cases (ltb i 8) (λ u. part_zeros 3 5 z i (ne_above i n l) (ltb-true i 8 u))
      (λ u.
      bool_cases (ltb i 16) (λ v. part_zeros 8 8 a i (ltb-false i 8 u) (ltb-true i 16 v))
      (λ v. part_zeros 16 8 d i (ltb-false i 16 v) h)))
    where
      ne_above : (i : ℕ) → (i ≡ 2 → ⊥) → 2 ≤ i → 3 ≤ i
      ne_above i n l = bool_cases (ltb 2 i) (λ t. ltb-true 2 i t) (λ t. absurd (n (omega (arith, ltb-false 2 i t))))

-- ---- an event, where e is at most its 24 bytes

module _ (count base len : ℕ) where
  by_cond : {P : Type 0} (t x y : Bool) → cond t x y ≡ true → (t ≡ true → x ≡ true → P) → (t ≡ false → y ≡ true → P) → P
  by_cond true x y g f h = f refl g
  by_cond false x y g f h = h refl g

  hart_told : (e : List ℕ) → le (part e 3 5) ≡ 0 → (kind_of e ≡ 1) ⊎ (kind_of e ≡ 3) → hart_event count e ≡ true → HartEvent count e
  unfolding hart_event
  hart_told e z k g =
      let a = and_both (ltb (hart_of e) count) _ g in
      let b = and_both (eqb (size_of e) 0) _ a.1 in
      let c = and_both (eqb (address_of e) 0) _ b.1 in
      ((k, all_zeros e (eqb-true _ _ b.0) z (eqb-true _ _ c.0) (eqb-true _ _ c.1)), ltb-true (hart_of e) count a.0)

  device_told : (e : List ℕ) → le (part e 3 5) ≡ 0 → kind_of e ≡ 2 → device_event base len e ≡ true → DeviceEvent base len e
  unfolding device_event
  device_told e z k g =
      let a = and_both (eqb (hart_of e) 0) _ g in
      let b = and_both (leb 1 (size_of e)) _ a.1 in
      let c = and_both (leb (size_of e) 8) _ b.1 in
      let d = and_both (inside_of base len (address_of e) (size_of e)) _ c.1 in (
        (k, eqb-true (hart_of e) 0 a.0, part_zeros e 3 5 z, drop_zeros e (16 + size_of e) 24 (eqb-true (le (drop (16 + size_of e) e)) 0 d.1)),
        leb-true 1 (size_of e) b.0,
        leb-true (size_of e) 8 c.0,
        inside_of_lem base len (address_of e) (size_of e) d.0,
      )

  good_told : (e : List ℕ) → good_event count base len e ≡ true → EventRules count base len e
  unfolding good_event
  good_told e g =
      let a = and_both (eqb (le (part e 3 5)) 0) _ g in
      let z = eqb-true (le (part e 3 5)) 0 a.0 in
      by_cond (eqb (kind_of e) 2) (device_event base len e) (cond (eqb (kind_of e) 1 || eqb (kind_of e) 3) (hart_event count e) false) a.1
      (λ k d. inr (device_told e z (eqb-true (kind_of e) 2 k) d))
      (λ n h.
      by_cond (eqb (kind_of e) 1 || eqb (kind_of e) 3) (hart_event count e) false h
      (λ k d.
      inl (hart_told e z
      (⊎_elim (λ (q : eqb (kind_of e) 1 ≡ true). inl (eqb-true (kind_of e) 1 q)) (λ (q : eqb (kind_of e) 3 ≡ true). inr (eqb-true (kind_of e) 3 q))
      (or_either (eqb (kind_of e) 1) (eqb (kind_of e) 3) k)) d))
      (λ k d. contrary d refl))

  hart_good : (e : List ℕ) → hart_of e < count → Zeros e 2 24 → hart_event count e ≡ true
  unfolding hart_event
  hart_good e h f =
      let s : size_of e ≡ 0 = f 2 (omega arith) (omega arith) in
      let a : address_of e ≡ 0 = zeros_part e 8 8 (λ i l k. f i (omega arith) (omega arith)) in
      let d : data_of e ≡ 0 = zeros_part e 16 8 (λ i l k. f i (omega arith) (omega arith)) in
      rw (lt-ltb (hart_of e) count h, eq-eqb (size_of e) 0 s, eq-eqb (address_of e) 0 a, eq-eqb (data_of e) 0 d)

  five_zeros : (e : List ℕ) → Zeros e 2 24 → le (part e 3 5) ≡ 0
  five_zeros e f = zeros_part e 3 5 (λ i l k. f i (omega arith) (omega arith))

  told_good : (e : List ℕ) → length e ≤ 24 → EventRules count base len e → good_event count base len e ≡ true
  unfolding good_event device_event
  told_good e short (inl ((inl k, f), h)) =
      rw (eq-eqb (le (part e 3 5)) 0 (five_zeros e f), ne_eqb (kind_of e) 2 (λ q. omega (arith, k, q)), eq-eqb (kind_of e) 1 k, hart_good e h f)
  told_good e short (inl ((inr k, f), h)) =
      rw (
        eq-eqb (le (part e 3 5)) 0 (five_zeros e f),
        ne_eqb (kind_of e) 2 (λ q. omega (arith, k, q)),
        ne_eqb (kind_of e) 1 (λ q. omega (arith, k, q)),
        eq-eqb (kind_of e) 3 k,
        hart_good e h f,
      )
  told_good e short (inr ((k, h, z, f), some, most, inside)) =
      rw (
        eq-eqb (le (part e 3 5)) 0 (zeros_part e 3 5 z),
        eq-eqb (kind_of e) 2 k,
        eq-eqb (hart_of e) 0 h,
        le-leb 1 (size_of e) some,
        le-leb (size_of e) 8 most,
        of_inside base len (address_of e) (size_of e) inside,
        eq-eqb (le (drop (16 + size_of e) e)) 0 (zeros_drop e (16 + size_of e) 24 short f),
      )

  -- 11 doesn't refuse an event exactly if it keeps the rules
  pub event_exact : (e : List ℕ) → length e ≤ 24 → (good_event count base len e ≡ true) ↔ EventRules count base len e
  event_exact e short = (good_told e, told_good e short)

  -- ---- a body

  module _ (body : List ℕ) where
    abbrev WrongAt : ℕ → Type 0
    WrongAt place = WrongEvents count base len body place

    -- wrong first at a place, or nowhere
    data Looked (r : Checked) : Type 0 where
      bad : (p : ℕ) → r ≡ Err p → WrongAt p → ((q : ℕ) → WrongAt q → p ≤ q) → Looked r
      good : r ≡ Ok tt → ((q : ℕ) → WrongAt q → ⊥) → Looked r

    short_part : (p : ℕ) → length (part body p 24) ≤ 24
    unfolding part
    short_part p = rw length-take (omega arith)

    module _ (whole : length body % 24 ≡ 0) where
      past_end : (p : ℕ) → p ≡ length body → (q : ℕ) → p ≤ q → WrongAt q → ⊥
      past_end p end q l (not_whole z w) = w whole
      past_end p end q l (bad_event i z fit w) = omega arith

      past_good : (i p : ℕ) → p ≡ 24 * i → good_event count base len (part body p 24) ≡ true → (q : ℕ) → p ≤ q → WrongAt q → p + 24 ≤ q
      past_good i p s g q l (not_whole z w) = absurd (w whole)
      past_good i p s g q l (bad_event j z fit w) =
          bool_cases (eqb q p) (λ t. absurd (w (rw (eqb-true q p t) (good_told (part body p 24) g))))
          (λ t.
          bool_cases (ltb i j) (λ u. omega (arith, ltb-true i j u)) (λ u. absurd (eqb-false q p t (omega (arith, ltb-false i j u)))))

      looked_from : (n i p : ℕ) → p ≡ 24 * i → p + 24 * n ≡ length body → ((q : ℕ) → WrongAt q → p ≤ q)
          → Looked (first_bad count base len body n p)
      unfolding first_bad
      looked_from zero i p s end f = good refl (λ q w. past_end p (omega arith) q (f q w) w)
      looked_from (suc n) i p s end f =
          bool_cases (good_event count base len (part body p 24))
          (λ t.
          rw t (looked_from n (suc i) (p + 24) (omega arith) (omega arith) (λ q w. past_good i p s t q (f q w) w)))
          (λ t.
          rw t
          (bad p refl (bad_event i s (omega arith) (λ r. contrary (told_good (part body p 24) (short_part p) r) t)) f))

    looked : Looked (checked_of count base len body)
    unfolding checked_of
    looked =
        bool_cases (eqb (length body % 24) 0)
        (λ t.
        let whole = eqb-true (length body % 24) 0 t in
        rw t (looked_from whole (length body / 24) 0 0 refl (omega arith) (λ q w. omega arith)))
        (λ t. rw t (bad 0 refl (not_whole refl (eqb-false (length body % 24) 0 t)) (λ q w. omega arith)))

    whole_given : ((q : ℕ) → WrongAt q → ⊥) → length body % 24 ≡ 0
    whole_given n = bool_cases (eqb (length body % 24) 0) (eqb-true _ _) (λ t. absurd (n 0 (not_whole refl (eqb-false _ _ t))))

    each_given : ((q : ℕ) → WrongAt q → ⊥) → EachEvent (EventRules count base len) body
    each_given n i fit =
        bool_cases (good_event count base len (part body (24 * i) 24)) (good_told (part body (24 * i) 24))
        (λ t.
        absurd (n (24 * i)
        (bad_event i refl fit (λ r. contrary (told_good (part body (24 * i) 24) (short_part (24 * i)) r) t))))

    each_taken : length body % 24 ≡ 0 → EachEvent (EventRules count base len) body → (q : ℕ) → WrongAt q → ⊥
    each_taken whole f q (not_whole z w) = w whole
    each_taken whole f q (bad_event i z fit w) = w (rw z (f i (omega arith)))

    -- a body is wrong nowhere exactly if it is whole and each event keeps the rules
    pub none_wrong_exact : NoneWrong count base len body ↔ ((length body % 24 ≡ 0) × EachEvent (EventRules count base len) body)
    none_wrong_exact = (λ n. (whole_given n, each_given n), λ r. each_taken r.0 r.1)

    -- ---- the answers apart

    abbrev Here : ℕ → Type 0
    Here place = FirstWrong count base len body place

    abbrev Nowhere : Type 0
    Nowhere = NoneWrong count base len body

    module _ (r : Checked) where
      bad_given : Looked r → (place : ℕ) → r ≡ Err place → Here place
      bad_given (bad p e w f) place o =
          let same : p ≡ place = cc in
          record { wrong = rw (← same) w; lowest = λ q l v. omega (arith, same, l, f q v) }
      bad_given (good e n) place o = let z : ⊥ = cc in absurd z

      bad_taken : Looked r → (place : ℕ) → Here place → r ≡ Err place
      bad_taken (bad p e w f) place h =
          let low : p ≤ place = f place h.wrong in
          e
          ∙ bool_cases (ltb p place) (λ t. absurd (h.lowest p (ltb-true p place t) w))
          (λ t. let same : p ≡ place = omega (arith, low, ltb-false p place t) in ap Err same)
      bad_taken (good e n) place h = absurd (n place h.wrong)

      good_given : Looked r → r ≡ Ok tt → Nowhere
      good_given (bad p e w f) o = let z : ⊥ = cc in absurd z
      good_given (good e n) o = n

      good_taken : Looked r → Nowhere → r ≡ Ok tt
      good_taken (bad p e w f) n = absurd (n p w)
      good_taken (good e _) n = e

    -- 11 is given at a place exactly if the body is wrong there and at no lower place
    pub bad_exact : (place : ℕ) → (checked_of count base len body ≡ Err place) ↔ FirstWrong count base len body place
    bad_exact place = (bad_given _ looked place, bad_taken _ looked place)

    -- and isn't given exactly if the body is wrong nowhere
    pub good_exact : (checked_of count base len body ≡ Ok tt) ↔ NoneWrong count base len body
    good_exact = (good_given _ looked, good_taken _ looked)

-- ---- rows that are tried in order

pub not_lower : (m n : ℕ) → (m < n → ⊥) → n ≤ m
not_lower m n f = bool_cases (ltb m n) (λ t. absurd (f (ltb-true m n t))) (λ t. ltb-false m n t)
