-- The tests of refusals 1 and 2 say what the rules of 01, with 02 [5], [7], [10] and [11], say. Assumes nothing.
use mathlib.Core.Path.{◌≡◌, refl, sym, subst, fun_ext}
use mathlib.Core.Logic.{◌↔◌, ◌⊎◌, inl, inr, ⊎_elim}
use mathlib.Core.Bool.{Bool, true, false, cond, ◌&&◌, ◌||◌}
use mathlib.Core.List.{List}
use Prim.Native.Nat.{ℕ, ◌+◌, ◌*◌, ◌%◌, ◌^◌, ◌≤◌, ◌<◌}
use native.Mathlib.Omega.{arith}
use lib.Dec.{eqb, ltb, leb}
use lib.ListN.{get_or}
use borrow.Author.Tests.{eqb-true, ltb-true, leb-true, eq-eqb, lt-ltb, le-leb}
use Rattle.word.specs.Each.{all_below}
use Rattle.word.proofs.TestLaws.{bool_cases, contrary, and_both, or_either}
use Rattle.word.proofs.EachLaws.{all_at, all_intro}
use Rattle.settings.specs.Settings.{xlen_of, size_ok, granule_of, reading_ok, misaligned_ok}
use Rattle.settings.specs.declared.Settings.{Settings}
use Rattle.settings.proofs.SettingsLaws.{size_exact, reading_exact, misaligned_exact, granule_whole}
use Rattle.reserve.specs.Range.{Inside, set_of}
use Rattle.std.specs.Prelude.{Option, None, Some}
use Rattle.reserve.specs.Reserve.{held, covers_of}
use Rattle.reserve.specs.declared.Reservation.{Reservation}
use Rattle.reserve.proofs.RangeLaws.{inside_of_lem, of_inside, set_inside, covers_exact, none_covers}
use Rattle.machine.specs.State.{lent_ok, top_ok, memory_ok, reservation_ok, hart_ok, upper_at, upper_ok, hart_at, state_ok, refusal_of, refused}
use Rattle.machine.specs.Rules.{LentRules, TopRules, MemoryRules, WrongMemory, by_size, by_length_or_base, by_top}
use Rattle.machine.specs.Rules.{ReservationRules, UpperZero, HartRules, StateRules}
use Rattle.machine.specs.declared.State.{State}

pub width_exact : (w : ℕ) → ((eqb w 4 || eqb w 8) ≡ true) ↔ ((w ≡ 4) ⊎ (w ≡ 8))
width_exact w = (
  λ e. ⊎_elim (λ (t : eqb w 4 ≡ true). inl (eqb-true w 4 t)) (λ (t : eqb w 8 ≡ true). inr (eqb-true w 8 t)) (or_either (eqb w 4) (eqb w 8) e),
  λ q. ⊎_elim (λ (e : w ≡ 4). rw e) (λ (e : w ≡ 8). rw e) q,
)

module _ (settings : Settings) (base len : ℕ) where
  pub lent_exact : (lent_ok settings base len ≡ true) ↔ LentRules settings base len
  unfolding lent_ok
  lent_exact = (
    λ e.
        let g = granule_of settings in
        let a = and_both (leb 64 len) _ e in
        let b = and_both (leb len 1048576) _ a.1 in
        let c = and_both (eqb (len % g) 0) _ b.1 in
        let d = and_both (eqb (base % g) 0) _ c.1 in
        (leb-true 64 len a.0, leb-true len 1048576 b.0, eqb-true (len % g) 0 c.0, eqb-true (base % g) 0 d.0, leb-true base (2 ^ 40) d.1),
    λ r.
        let g = granule_of settings in
        rw (le-leb 64 len r.0, le-leb len 1048576 r.1, eq-eqb (len % g) 0 r.2, eq-eqb (base % g) 0 r.3, le-leb base (2 ^ 40) r.4),
  )

  pub top_exact : (top_ok settings base len ≡ true) ↔ TopRules settings base len
  unfolding top_ok
  top_exact = (λ e. leb-true (base + len) (2 ^ xlen_of settings) e, λ r. le-leb (base + len) (2 ^ xlen_of settings) r)

  -- at 64 bits the rules of base and length leave nothing to ask of their sum
  pub top_64 : xlen_of settings ≡ 64 → LentRules settings base len → TopRules settings base len
  top_64 wide r = subst (λ (k : ℕ). base + len ≤ 2 ^ k) (sym wide) (omega (arith, r.1, r.4))

  pub memory_exact : (memory_ok settings base len ≡ true) ↔ MemoryRules settings base len
  unfolding memory_ok
  memory_exact = (
    λ e.
        let a = and_both (size_ok settings) _ e in
        let b = and_both (lent_ok settings base len) _ a.1 in
        ((size_exact settings).0 a.0, lent_exact.0 b.0, top_exact.0 b.1),
    λ r. rw ((size_exact settings).1 r.0, lent_exact.1 r.1, top_exact.1 r.2),
  )

  -- the rules of refusal 1 are broken in one of the three ways, or kept
  pub wrong_exact : WrongMemory settings base len ↔ (MemoryRules settings base len → ⊥)
  wrong_exact = (
    λ w r. contradicts w r,
    λ n.
        bool_cases (size_ok settings)
        (λ t.
        let z = (size_exact settings).0 t in
        bool_cases (lent_ok settings base len) (λ u. let l = lent_exact.0 u in by_top z l (λ m. n (z, l, m)))
        (λ u. by_length_or_base z (λ l. contrary (lent_exact.1 l) u)))
        (λ f. by_size (λ z. contrary ((size_exact settings).1 z) f)),
  )
    where
      contradicts : WrongMemory settings base len → MemoryRules settings base len → ⊥
      contradicts (by_size n) r = n r.0
      contradicts (by_length_or_base z n) r = n r.1
      contradicts (by_top z l n) r = n r.2

  -- since base and length are "multiples of the larger of 64 and the size" (02 [5]), the set of a reservation lies wholly in memory, at every size that is
  -- allowed
  pub set_in_memory : MemoryRules settings base len → (a w : ℕ) → ReservationRules settings base len (held a w)
      → Inside base len (set_of settings.size a) settings.size
  set_in_memory r a w rules =
      let whole = granule_whole settings r.0 in
      let wide : 0 < w = ⊎_elim (λ (e : w ≡ 4). omega arith) (λ (e : w ≡ 8). omega arith) rules.0 in
      set_inside settings.size base len a w (omega (arith, r.0.1)) (whole base r.1.3) (whole len r.1.2) wide rules.3

  -- and so do all bytes that it covers
  pub covered_in_memory : MemoryRules settings base len → (r : Option Reservation) → ReservationRules settings base len r
      → (b n : ℕ) → covers_of settings r b n ≡ true → Inside base len b n
  covered_in_memory rules None kept b n e = contrary e (none_covers settings b n)
  covered_in_memory rules (Some r) kept b n e =
      let set = set_in_memory rules r.addr r.width kept in
      let bytes = (covers_exact settings r.addr r.width b n).0 e in
      (omega (arith, set.0, bytes.0), omega (arith, set.1, bytes.1))

  pub reservation_exact : (r : Option Reservation) → (reservation_ok settings base len r ≡ true) ↔ ReservationRules settings base len r
  unfolding reservation_ok
  reservation_exact None = (λ e. tt, λ r. refl)
  reservation_exact (Some held) = (
    λ e.
        let a = held.addr in
        let w = held.width in
        let p = and_both (eqb w 4 || eqb w 8) _ e in
        let n = and_both (leb (8 * w) (xlen_of settings)) _ p.1 in
        let q = and_both (eqb (a % w) 0) _ n.1 in
        ((width_exact w).0 p.0, leb-true (8 * w) (xlen_of settings) n.0, eqb-true (a % w) 0 q.0, inside_of_lem base len a w q.1),
    λ r.
        let a = held.addr in
        let w = held.width in
        rw ((width_exact w).1 r.0, le-leb (8 * w) (xlen_of settings) r.1, eq-eqb (a % w) 0 r.2, of_inside base len a w r.3),
  )

-- of the settings these tests see the width alone, so that a version of A changes none of them
module _ (s t : Settings) (same : xlen_of s ≡ xlen_of t) (base len : ℕ) where
  pub top_same : top_ok s base len ≡ top_ok t base len
  unfolding top_ok
  top_same = rw same

  reservation_same : (r : Option Reservation) → reservation_ok s base len r ≡ reservation_ok t base len r
  unfolding reservation_ok
  reservation_same None = refl
  reservation_same (Some r) = rw same

  pub harts_same : (x pc : List ℕ) (res : List (Option Reservation)) → hart_at s base len x pc res ≡ hart_at t base len x pc res
  unfolding hart_ok upper_ok
  harts_same x pc res = fun_ext (λ k. rw (same, reservation_same (get_or res k None)))

module _ (base len : ℕ) (s : State) where
  upper_exact : (k : ℕ) → (upper_ok s.settings s.x s.pc k ≡ true) ↔ (xlen_of s.settings ≡ 32 → UpperZero s k)
  unfolding upper_ok
  upper_exact k = (
    λ e narrow.
        let halves : (all_below (upper_at s.x k) 32 && ltb (get_or s.pc k 0) (2 ^ 32)) ≡ true = rw (eq-eqb (xlen_of s.settings) 32 narrow) at e in
        let p = and_both (all_below (upper_at s.x k) 32) _ halves in
        (λ r h. ltb-true _ (2 ^ 32) (all_at (upper_at s.x k) r 32 p.0 h), ltb-true _ (2 ^ 32) p.1),
    λ u.
        bool_cases (eqb (xlen_of s.settings) 32)
        (λ t.
        let z = u (eqb-true _ 32 t) in
        rw (t, all_intro (upper_at s.x k) 32 (λ r h. lt-ltb _ (2 ^ 32) (z.0 r h)), lt-ltb (get_or s.pc k 0) (2 ^ 32) z.1))
        (λ f. rw f),
  )

  pub hart_exact : (k : ℕ) → (hart_at s.settings base len s.x s.pc s.res k ≡ true) ↔ HartRules base len s k
  unfolding hart_ok
  hart_exact k =
      let x0 = get_or s.x (k * 32) 0 in
      let pc = get_or s.pc k 0 in
      let r = get_or s.res k None in
      let held = reservation_exact s.settings base len r in (
        λ e.
            let h = and_both (hart_ok s.settings base len x0 pc r) _ e in
            let p = and_both (eqb x0 0) _ h.0 in
            let q = and_both (eqb (pc % 4) 0) _ p.1 in
            (eqb-true x0 0 p.0, eqb-true (pc % 4) 0 q.0, held.0 q.1, (upper_exact k).0 h.1),
        λ rules.
            rw (eq-eqb x0 0 rules.0, eq-eqb (pc % 4) 0 rules.1, held.1 rules.2, (upper_exact k).1 rules.3),
      )

  pub state_exact : (state_ok base len s ≡ true) ↔ StateRules base len s
  unfolding state_ok
  state_exact = (
    λ e.
        let p = and_both (leb 1 s.count && leb s.count 8) _ e in
        let q = and_both (leb 1 s.count) (leb s.count 8) p.0 in
        let v = and_both (reading_ok s.settings && misaligned_ok s.settings) _ p.1 in
        let w = and_both (reading_ok s.settings) (misaligned_ok s.settings) v.0 in (
          leb-true 1 s.count q.0,
          leb-true s.count 8 q.1,
          λ k h.
              (hart_exact k).0 (all_at (hart_at s.settings base len s.x s.pc s.res) k s.count v.1 h),
          (reading_exact s.settings).0 w.0,
          (misaligned_exact s.settings).0 w.1,
        ),
    λ r.
        rw (
          le-leb 1 s.count r.0,
          le-leb s.count 8 r.1,
          (reading_exact s.settings).1 r.3,
          (misaligned_exact s.settings).1 r.4,
          all_intro (hart_at s.settings base len s.x s.pc s.res) s.count
              (λ k h. (hart_exact k).1 (r.2 k h)),
        ),
  )

  -- no refusal is given exactly when the set's size, memory and state keep their rules, refusal 1 when the size or the memory breaks its own, and 2 when
  -- only the state does
  pub refusal_0 : (refusal_of base len s ≡ 0) ↔ (MemoryRules s.settings base len × StateRules base len s)
  unfolding refusal_of
  refusal_0 = (
    λ e.
        bool_cases (memory_ok s.settings base len)
        (λ m.
        bool_cases (state_ok base len s) (λ t. ((memory_exact s.settings base len).0 m, state_exact.0 t))
        (λ t. let z : ◌≡◌ {A = ℕ} 2 0 = rw (m, t) at e in absurd (omega arith)))
        (λ m. let z : ◌≡◌ {A = ℕ} 1 0 = rw m at e in absurd (omega arith)),
    λ r. rw ((memory_exact s.settings base len).1 r.0, state_exact.1 r.1) refl,
  )

  pub refusal_1 : (refusal_of base len s ≡ 1) ↔ WrongMemory s.settings base len
  unfolding refusal_of
  refusal_1 = (
    λ e. (wrong_exact s.settings base len).1 (λ r. absurd (go (state_ok base len s) ((memory_exact s.settings base len).1 r) e)),
    λ w.
        bool_cases (memory_ok s.settings base len)
        (λ t. absurd ((wrong_exact s.settings base len).0 w ((memory_exact s.settings base len).0 t))) (λ f. rw f),
  )
    where
      go : (t : Bool) → memory_ok s.settings base len ≡ true → ◌≡◌ {A = ℕ} (cond (memory_ok s.settings base len) (cond t 0 2) 1) 1 → ⊥
      go true m e = let z : ◌≡◌ {A = ℕ} 0 1 = rw m at e in omega arith
      go false m e = let z : ◌≡◌ {A = ℕ} 2 1 = rw m at e in omega arith

  pub refusal_2 : (refusal_of base len s ≡ 2) ↔ (MemoryRules s.settings base len × (StateRules base len s → ⊥))
  unfolding refusal_of
  refusal_2 = (
    λ e.
        bool_cases (memory_ok s.settings base len)
        (λ m. ((memory_exact s.settings base len).0 m, λ r. let z : ◌≡◌ {A = ℕ} 0 2 = rw (m, state_exact.1 r) at e in omega arith))
        (λ m. let z : ◌≡◌ {A = ℕ} 1 2 = rw m at e in absurd (omega arith)),
    λ r. rw ((memory_exact s.settings base len).1 r.0) (bool_cases (state_ok base len s) (λ t. absurd (r.1 (state_exact.0 t))) (λ f. rw f)),
  )

-- none is refused exactly if the number is 0, and what is refused has the number
pub refused_none : (n : ℕ) → refused n ≡ None → n ≡ 0
refused_none n e = bool_cases (eqb n 0) (λ t. eqb-true n 0 t) (λ f. let z : ◌≡◌ {A = Option ℕ} (Some n) None = rw f at e in cc)

pub refused_some : (n : ℕ) (k : ℕ) → refused n ≡ Some k → (k ≡ n) × (eqb n 0 ≡ false)
refused_some n k e =
    bool_cases (eqb n 0) (λ t. let z : ◌≡◌ {A = Option ℕ} None (Some k) = rw t at e in cc)
    (λ f. let z : ◌≡◌ {A = Option ℕ} (Some n) (Some k) = rw f at e in (cc, f))
