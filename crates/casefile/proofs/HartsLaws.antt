-- A harts body: its test says what the rules say, and the state that it is keeps the rules of refusal 2. All for every board; that the state keeps the
-- rules, for every board that is allowed. Assumes nothing.
use mathlib.Core.Path.{◌≡◌, refl, sym, ap, ap₂, ◌∙◌, subst}
use mathlib.Core.Logic.{◌↔◌, ◌⊎◌, inl, inr, ⊎_elim}
use mathlib.Core.Bool.{Bool, true, cond, ◌||◌}
use mathlib.Core.List.{List}
use Prim.Native.Nat.{ℕ, ◌+◌, ◌*◌, ◌-◌, ◌/◌, ◌%◌, ◌^◌, ◌≤◌, ◌<◌}
use native.Mathlib.Omega.{arith}
use native.Mathlib.Numerals.{add-one}
use Rattle.std.specs.Prelude.{Option, None, slice_set}
use lib.Dec.{leb, ltb, eqb}
use lib.ListN.{length, get_or, replicate, length-replicate, get_or-replicate}
use borrow.Author.Tests.{eqb-true, eqb-false, leb-true, ltb-true, eq-eqb, le-leb, lt-ltb}
use Rattle.word.specs.Bytes.{le}
use Rattle.word.specs.Memory.{part}
use Rattle.word.specs.Each.{each, all_below}
use Rattle.word.proofs.TestLaws.{and_both, or_either, bool_cases}
use Rattle.word.proofs.EachLaws.{each_suc, each_at, each_past, length-each, all_at, all_intro}
use Rattle.settings.proofs.SettingsLaws.{xlen_64, granule_power}
use Rattle.settings.specs.Settings.{of_kind, PowerOfTwo, xlen_of, granule_of}
use Rattle.settings.specs.Boards.{default_board, BoardRules}
use Rattle.settings.specs.declared.Board.{Board}
use Rattle.reserve.specs.declared.Reservation.{Reservation}
use Rattle.machine.specs.Rules.{HartRules, UpperZero, StateRules, Shaped}
use Rattle.casefile.specs.Harts.{base_of, count_of, kind_of, number_of, register_of, pc_of, halves_ok, harts_ok, HartsRules, settings_of, state_of, no_state}

-- the granule of a board that is allowed is a power of two
pub granule_allowed : (board : Board) (body : List ℕ) (g : ℕ) → BoardRules board → g ≡ granule_of (settings_of board body) → PowerOfTwo g
granule_allowed board body g ok e = subst PowerOfTwo (sym e) (granule_power (settings_of board body) ok.0)

-- a number more of a list that is filled from the front
pub filled_more : (f : ℕ → ℕ) (n i v : ℕ) (l : List ℕ) → i < n → l ≡ each (λ k _. f k) i (replicate n 0) → v ≡ f i
    → slice_set l i v ≡ each (λ k _. f k) (i + 1) (replicate n 0)
filled_more f n i v l h e g =
    rw (e, g, add-one) (sym (each_suc (λ k _. f k) i (replicate n 0) 0 (omega (arith, length-replicate {A = ℕ} n 0))))

module _ (body : List ℕ) where
  -- the numbers of a 32-bit case have 32 bits
  abbrev Halves : Type 0
  Halves = kind_of body ≡ 1 → (i : ℕ) → i < 32 * count_of body → number_of body i < 2 ^ 32

  halves_to : halves_ok body ≡ true → Halves
  halves_to e k i l =
      let all = subst (λ (t : Bool). cond t (all_below (λ i. ltb (number_of body i) (2 ^ 32)) (32 * count_of body)) true ≡ true) (eq-eqb (kind_of body) 1 k) e in
      ltb-true _ _ (all_at (λ i. ltb (number_of body i) (2 ^ 32)) i (32 * count_of body) all l)

  to_halves : Halves → halves_ok body ≡ true
  to_halves h =
      bool_cases (eqb (kind_of body) 1)
      (λ t. rw t (all_intro (λ i. ltb (number_of body i) (2 ^ 32)) (32 * count_of body) (λ i l. lt-ltb _ _ (h (eqb-true _ _ t) i l))))
      (λ f. rw f)

  kind_to : (eqb (kind_of body) 0 || eqb (kind_of body) 1) ≡ true → (kind_of body ≡ 0) ⊎ (kind_of body ≡ 1)
  kind_to e =
      ⊎_elim (λ (t : eqb (kind_of body) 0 ≡ true). inl (eqb-true _ _ t)) (λ (t : eqb (kind_of body) 1 ≡ true). inr (eqb-true _ _ t))
      (or_either (eqb (kind_of body) 0) (eqb (kind_of body) 1) e)

  to_kind : (kind_of body ≡ 0) ⊎ (kind_of body ≡ 1) → (eqb (kind_of body) 0 || eqb (kind_of body) 1) ≡ true
  to_kind = ⊎_elim (λ (z : kind_of body ≡ 0). rw z) (λ (o : kind_of body ≡ 1). rw o)

module _ (board : Board) (body : List ℕ) where
  pub harts_exact : (harts_ok board body ≡ true) ↔ HartsRules board body
  unfolding harts_ok
  harts_exact = (
    λ e.
        let a = and_both (eqb (length body) (16 + 256 * count_of body)) _ e in
        let b = and_both (leb 1 (count_of body)) _ a.1 in
        let c = and_both (leb (count_of body) 8) _ b.1 in
        let d = and_both (eqb (kind_of body) 0 || eqb (kind_of body) 1) _ c.1 in
        let f = and_both (eqb (base_of body % granule_of (settings_of board body)) 0) _ d.1 in
        let g = and_both (leb (base_of body) (2 ^ 40)) _ f.1 in
        let p = and_both (all_below (λ h. eqb (pc_of body h % 4) 0) (count_of body)) _ g.1 in (
          eqb-true _ _ a.0,
          leb-true _ _ b.0,
          leb-true _ _ c.0,
          kind_to body d.0,
          eqb-true _ _ f.0,
          leb-true _ _ g.0,
          λ h l. eqb-true _ _ (all_at (λ h. eqb (pc_of body h % 4) 0) h (count_of body) p.0 l),
          halves_to body p.1,
        ),
    λ r.
        rw (
          eq-eqb (length body) (16 + 256 * count_of body) r.0,
          le-leb 1 (count_of body) r.1,
          le-leb (count_of body) 8 r.2,
          to_kind body r.3,
          eq-eqb (base_of body % granule_of (settings_of board body)) 0 r.4,
          le-leb (base_of body) (2 ^ 40) r.5,
          all_intro (λ h. eqb (pc_of body h % 4) 0) (count_of body) (λ h l. eq-eqb (pc_of body h % 4) 0 (r.6 h l)),
        )
        (to_halves body r.7),
  )

  module _ (count : ℕ) (most : count ≤ 8) where
    -- register r of hart h, and its pc
    pub register_at_lem : (h r : ℕ) → h < count → r < 32 → get_or (state_of board count body).x (32 * h + r) 0 ≡ register_of body h r
    unfolding state_of
    register_at_lem h r l k =
        let i = 32 * h + r in
        let a : i / 32 ≡ h = omega arith in
        let b : i % 32 ≡ r = omega arith in
        each_at (λ j _. register_of body (j / 32) (j % 32)) (32 * count) i (replicate 256 0) 0 (omega arith) (omega (arith, length-replicate {A = ℕ} 256 0))
        ∙ ap₂ (register_of body) a b

    pub pc_at_lem : (h : ℕ) → h < count → get_or (state_of board count body).pc h 0 ≡ pc_of body h
    unfolding state_of
    pc_at_lem h l = each_at (λ j _. pc_of body j) count h (replicate 8 0) 0 l (omega (arith, length-replicate {A = ℕ} 8 0))

    -- what belongs to a hart at or above the count is zero
    pub register_past : (i : ℕ) → 32 * count ≤ i → i < 256 → get_or (state_of board count body).x i 0 ≡ 0
    unfolding state_of
    register_past i l k =
        each_past (λ j _. register_of body (j / 32) (j % 32)) (32 * count) i (replicate 256 0) 0 l ∙ get_or-replicate 256 i 0 0 k

    pub pc_past : (h : ℕ) → count ≤ h → h < 8 → get_or (state_of board count body).pc h 0 ≡ 0
    unfolding state_of
    pc_past h l k = each_past (λ j _. pc_of body j) count h (replicate 8 0) 0 l ∙ get_or-replicate 8 h 0 0 k

    -- "A read case has no reservations."
    pub free_at : (h : ℕ) → h < 8 → get_or (state_of board count body).res h None ≡ None
    unfolding state_of
    free_at h l = get_or-replicate {A = Option Reservation} 8 h None None l

  pub state_shaped : (count : ℕ) → Shaped (state_of board count body)
  unfolding state_of
  state_shaped count = record {
    registers = length-each (λ i _. register_of body (i / 32) (i % 32)) (32 * count) (replicate 256 0) ∙ length-replicate {A = ℕ} 256 0;
    pcs = length-each (λ h _. pc_of body h) count (replicate 8 0) ∙ length-replicate {A = ℕ} 8 0;
    reservations = length-replicate {A = Option Reservation} 8 None;
  }

  -- registers and pcs are among the numbers
  module _ (count : ℕ) (few : (i : ℕ) → i < 32 * count → number_of body i < 2 ^ 32) where
    register_few : (h r : ℕ) → h < count → r < 32 → register_of body h r < 2 ^ 32
    register_few h r l small =
        bool_cases (eqb r 0) (λ t. rw t (omega arith))
        (λ f.
        let some : 0 < r = omega (arith, eqb-false r 0 f) in
        let e : 16 + 8 * (32 * h + (r - 1)) ≡ 16 + 256 * h + 8 * (r - 1) = omega arith in
        rw f (subst (λ (n : ℕ). le (part body n 8) < 2 ^ 32) e (few (32 * h + (r - 1)) (omega arith))))

    pc_few : (h : ℕ) → h < count → pc_of body h < 2 ^ 32
    pc_few h l =
        let e : 16 + 8 * (32 * h + 31) ≡ 16 + 256 * h + 248 = omega arith in
        subst (λ (n : ℕ). le (part body n 8) < 2 ^ 32) e (few (32 * h + 31) (omega arith))

  -- the state of a harts body that 9 doesn't refuse keeps the rules of the machine
  pub harts_state : (base len : ℕ) → BoardRules board → HartsRules board body → StateRules base len (state_of board (count_of body) body)
  unfolding state_of
  harts_state base len ok r = (r.1, r.2, λ k l. hart k l, (ok.1, r.3), ok.2)
    where
      upper : (k : ℕ) → k < count_of body → xlen_of (settings_of board body) ≡ 32 → UpperZero (state_of board (count_of body) body) k
      upper k l narrow =
          let is : kind_of body ≡ 1 =
          ⊎_elim (λ (z : kind_of body ≡ 0). absurd (omega (arith, narrow, xlen_64 (settings_of board body) z))) (λ (o : kind_of body ≡ 1). o) r.3 in
          let count = count_of body in (
            λ q small.
                let e : k * 32 + q ≡ 32 * k + q = omega arith in
                let at-q = ap (λ (i : ℕ). get_or (state_of board count body).x i 0) e ∙ register_at_lem count r.2 k q l small in
                subst (λ (v : ℕ). v < 2 ^ 32) (sym at-q) (register_few count (r.7 is) k q l small),
            subst (λ (v : ℕ). v < 2 ^ 32) (sym (pc_at_lem count r.2 k l)) (pc_few count (r.7 is) k l),
          )

      hart : (k : ℕ) → k < count_of body → HartRules base len (state_of board (count_of body) body) k
      hart k l =
          let e : k * 32 ≡ 32 * k + 0 = omega arith in (
            ap (λ (i : ℕ). get_or (state_of board (count_of body) body).x i 0) e ∙ register_at_lem (count_of body) r.2 k 0 l (omega arith),
            ap (λ (v : ℕ). v % 4) (pc_at_lem (count_of body) r.2 k l) ∙ r.6 k l,
            rw (free_at (count_of body) r.2 k (omega (arith, r.2))) tt,
            upper k l,
          )

-- what stands for the state of a refused file: its arrays have their lengths, and its settings are the defaults
pub none_shaped : Shaped no_state
unfolding no_state
none_shaped = record { registers = length-replicate {A = ℕ} 256 0; pcs = length-replicate {A = ℕ} 8 0; reservations = length-replicate {A = Option Reservation} 8 None }

pub none_settings : (no_state.settings.size ≡ 64) × (no_state.settings.version ≡ 21) × (no_state.settings.misaligned ≡ 0)
unfolding no_state
none_settings = (refl, refl, refl)

-- where no board is given, a case has the defaults but for its kind, and 9 and 10 ask for multiples of 64
pub default_settings : (body : List ℕ) → settings_of default_board body ≡ of_kind 21 (kind_of body)
default_settings body = refl

pub default_granule : (body : List ℕ) → granule_of (settings_of default_board body) ≡ 64
default_granule body = refl
