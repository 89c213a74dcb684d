-- Every event keeps a machine that refusals 1 and 2 don't refuse one of that kind. Assumes nothing.
use mathlib.Core.Path.{◌≡◌, refl, sym, ◌∙◌, subst}
use mathlib.Core.Logic.{⊎_elim}
use mathlib.Core.Bool.{cond, ◌&&◌}
use mathlib.Core.List.{List, [], ◌∷◌}
use Prim.Native.Nat.{ℕ, zero, suc, ◌+◌, ◌-◌, ◌*◌, ◌%◌, ◌^◌, ◌≤◌, ◌<◌}
use native.Mathlib.Omega.{arith}
use lib.Dec.{eqb, ltb, leb}
use lib.ListN.{length, get_or, set, get_or-eq_default}
use lib.Seq.{get_or-set_other}
use borrow.Author.Tests.{eqb-false, ltb-true, eq-eqb}
use Rattle.std.specs.Prelude.{Option, None}
use Rattle.word.specs.Bytes.{to_le}
use Rattle.word.specs.Each.{each}
use Rattle.word.proofs.BytesLaws.{length-to_le, bytes_to_le}
use Rattle.word.proofs.MemoryLaws.{length-splice}
use Rattle.word.proofs.WordLaws.{split_lt, xlen_bounds}
use Rattle.word.proofs.ChooseLaws.{cond_all, cond_cases}
use Rattle.word.proofs.TestLaws.{bool_cases}
use Rattle.word.proofs.EachLaws.{each_at, length-each}
use Rattle.settings.specs.Settings.{xlen_of}
use Rattle.settings.specs.declared.Settings.{Settings}
use Rattle.settings.proofs.SettingsLaws.{xlen_is}
use Rattle.reserve.specs.Range.{Inside, inside_of, set_of}
use Rattle.reserve.specs.Reserve.{held, covers_of, breaks_of, own_of, observe_of, observe_slot, observe_all_of}
use Rattle.reserve.specs.declared.Reservation.{Reservation}
use Rattle.reserve.specs.declared.Notice.{Notice}
use Rattle.reserve.specs.declared.Notice.TheVariants.{Quiet, LoadReserved, ScStored, ScFailed, Write, DeviceWrite, Yield}
use Rattle.reserve.proofs.RangeLaws.{inside_of_lem}
use Rattle.machine.specs.Rules.{ReservationRules, UpperZero, StateRules}
use Rattle.machine.specs.declared.State.{State}
use Rattle.machine.proofs.StateLaws.{refusal_0, set_in_memory}
use Rattle.effect.specs.Effect.{Writes, none, one, pair, Access, nothing, reserve, store, sc_stored, sc_failed, Exec, trap, effect, notice_of}
use Rattle.effect.specs.Execute.{reg_at}
use Rattle.effect.specs.Memory.{value_at}
use Rattle.effect.specs.Sound.{AccessOk, Sound, WritesFit, AccessFits, Fits}
use Rattle.effect.proofs.Sound.{sound}
use Rattle.effect.proofs.Fits.{fits, length-stored}
use Rattle.events.specs.declared.Event.{Event}
use Rattle.events.specs.declared.Event.TheVariants.{Step, Device, Yield as YieldOf}
use Rattle.model.specs.Act.{Act, refuse, fault, change, put, release, set_reg, written, apply, leaves}
use Rattle.model.specs.Perform.{Machine, set_size, xlen, reservation_of, fetch_of, step_of, of_exec, device_of, act_on, act_of, answer_of, memory_of, next_of, run_of}
use Rattle.model.specs.Valid.{Valid, ActOk, ActFits}

-- what holds of the value set and of the element before holds of the element after
pub set_all : {A : Type 0} (P : A → Type 0) (l : List A) (i k : ℕ) (v d : A) → P v → P (get_or l k d) → P (get_or (set l i v) k d)
set_all P [] i k v d p q = q
set_all P (a ∷ l) zero zero v d p q = p
set_all P (a ∷ l) zero (suc k) v d p q = q
set_all P (a ∷ l) (suc i) zero v d p q = q
set_all P (a ∷ l) (suc i) (suc k) v d p q = set_all P l i k v d p q

-- x0 of every hart stays
x0_set : (h r v k : ℕ) (x : List ℕ) → get_or (set_reg h r v x) (k * 32) 0 ≡ get_or x (k * 32) 0
unfolding set_reg
x0_set h r v k x =
    bool_cases (eqb (r % 32) 0) (λ t. rw t)
    (λ f. rw f (get_or-set_other x (h * 32 + r % 32) (k * 32) v 0 (λ e. eqb-false (r % 32) 0 f (omega arith))))

x0_written : (h : ℕ) (ws : Writes) (k : ℕ) (x : List ℕ) → get_or (written h ws x) (k * 32) 0 ≡ get_or x (k * 32) 0
x0_written h none k x = refl
x0_written h (one r v) k x = x0_set h r v k x
x0_written h (pair r v r2 v2) k x = x0_set h r2 v2 k (set_reg h r v x) ∙ x0_set h r v k x

-- what holds of the values written and of a register before holds of it after
set_held : (P : ℕ → Type 0) (h r v i : ℕ) (x : List ℕ) → P v → P (get_or x i 0) → P (get_or (set_reg h r v x) i 0)
unfolding set_reg
set_held P h r v i x p q =
    cond_all (λ (l : List ℕ). P (get_or l i 0)) (eqb (r % 32) 0) x (set x (h * 32 + r % 32) v) q (set_all P x (h * 32 + r % 32) i v 0 p q)

pub below_written : (xlen h : ℕ) (ws : Writes) (i : ℕ) (x : List ℕ) → WritesFit xlen ws → get_or x i 0 < 2 ^ xlen → get_or (written h ws x) i 0 < 2 ^ xlen
below_written xlen h none i x f q = q
below_written xlen h (one r v) i x f q = set_held (λ (n : ℕ). n < 2 ^ xlen) h r v i x f q
below_written xlen h (pair r v r2 v2) i x f q =
    set_held (λ (n : ℕ). n < 2 ^ xlen) h r2 v2 i (set_reg h r v x) f.1 (set_held (λ (n : ℕ). n < 2 ^ xlen) h r v i x f.0 q)

module _ (settings : Settings) (base len : ℕ) where
  -- the reservation that a notice makes is well formed
  NoticeOk : Notice → Type 0
  NoticeOk Quiet = Unit {0}
  NoticeOk (LoadReserved g a w) = ReservationRules settings base len (held a w)
  NoticeOk (ScStored g b n) = Unit {0}
  NoticeOk (ScFailed g) = Unit {0}
  NoticeOk (Write g b n) = Unit {0}
  NoticeOk (DeviceWrite b n) = Unit {0}
  NoticeOk (Yield g) = Unit {0}

  own_ok : (h : ℕ) (n : Notice) (r : Option Reservation) → NoticeOk n → ReservationRules settings base len r → ReservationRules settings base len (own_of h n r)
  unfolding own_of NoticeOk
  own_ok h Quiet r o k = k
  own_ok h (LoadReserved g a w) r o k = cond_all (ReservationRules settings base len) (eqb g h) (held a w) r o k
  own_ok h (ScStored g b n) r o k = cond_all (ReservationRules settings base len) (eqb g h) None r tt k
  own_ok h (ScFailed g) r o k = cond_all (ReservationRules settings base len) (eqb g h) None r tt k
  own_ok h (Write g b n) r o k = k
  own_ok h (DeviceWrite b n) r o k = k
  own_ok h (Yield g) r o k = cond_all (ReservationRules settings base len) (eqb g h) None r tt k

  observed_ok : (h : ℕ) (n : Notice) (r : Option Reservation) → NoticeOk n → ReservationRules settings base len r
      → ReservationRules settings base len (observe_of settings h n r)
  unfolding observe_of
  observed_ok h n r o k = cond_all (ReservationRules settings base len) (breaks_of settings h n r) None (own_of h n r) tt (own_ok h n r o k)

  noticed_ok : (s : State) (n : Notice) (k : ℕ) → NoticeOk n → k < s.count → ReservationRules settings base len (reservation_of s k)
      → ReservationRules settings base len (get_or (observe_all_of settings s.count n s.res).slots k None)
  unfolding observe_all_of
  noticed_ok s n k o h r =
      ⊎_elim
      (λ (l : k < length s.res). rw (each_at (observe_slot settings n) s.count k s.res None h l)
      (observed_ok k n (reservation_of s k) o r))
      (λ (g : length s.res ≤ k).
      let l = each (observe_slot settings n) s.count s.res in
      let past : length l ≤ k = rw (length-each (observe_slot settings n) s.count s.res) g in
      rw (get_or-eq_default l None {n = k} past) tt)
      (split_lt k (length s.res))

  access_notice : (h : ℕ) (t : Access) → AccessOk base len t → AccessFits (xlen_of settings) t → NoticeOk (notice_of h t)
  unfolding NoticeOk
  access_notice h nothing o f = tt
  access_notice h (reserve a w) o f = (o.0, f, o.1.0, o.1.1)
  access_notice h (store a bs) o f = tt
  access_notice h (sc_stored a bs) o f = tt
  access_notice h sc_failed o f = tt

-- where registers have 32 bits, upper halves stay zero
upper_kept : (s : State) (h : ℕ) (ws : Writes) (to k : ℕ) → WritesFit (xlen_of s.settings) ws → to < 2 ^ xlen_of s.settings
    → (xlen_of s.settings ≡ 32 → UpperZero s k) → xlen_of s.settings ≡ 32
    → ((r : ℕ) → r < 32 → get_or (written h ws s.x) (k * 32 + r) 0 < 2 ^ 32) × (get_or (set s.pc h to) k 0 < 2 ^ 32)
upper_kept s h ws to k f g u e =
    let v = u e in
    (λ r l. below_written 32 h ws (k * 32 + r) s.x (rw e at f) (v.0 r l), set_all (λ (n : ℕ). n < 2 ^ 32) s.pc h k to 0 (rw e at g) v.1)

module _ (base len : ℕ) where
  -- an act keeps the rules of the state
  pub apply_rules : (s : State) (act : Act) → ActOk base len act → ActFits (xlen_of s.settings) act → StateRules base len s → StateRules base len (apply s act)
  unfolding apply NoticeOk
  apply_rules s (refuse number) o f r = r
  apply_rules s (fault cause value) o f r = r
  apply_rules s (change h ws to t) o f r = (
    r.0,
    r.1,
    λ k l. (
      x0_written h ws k s.x ∙ (r.2 k l).0,
      set_all (λ (p : ℕ). p % 4 ≡ 0) s.pc h k to 0 o.0 (r.2 k l).1,
      noticed_ok s.settings base len s (notice_of h t) k (access_notice s.settings base len h t o.1 f.1.1) l (r.2 k l).2,
      upper_kept s h ws to k f.0 f.1.0 (r.2 k l).3,
    ),
    r.3,
    r.4,
  )
  apply_rules s (put a bs) o f r = (
    r.0,
    r.1,
    λ k l. ((r.2 k l).0, (r.2 k l).1, noticed_ok s.settings base len s (DeviceWrite a (length bs)) k tt l (r.2 k l).2, (r.2 k l).3),
    r.3,
    r.4,
  )
  apply_rules s (release h) o f r =
      (r.0, r.1, λ k l. ((r.2 k l).0, (r.2 k l).1, noticed_ok s.settings base len s (Yield h) k tt l (r.2 k l).2, (r.2 k l).3), r.3, r.4)

-- and the memory's length
pub length-leaves : (base : ℕ) (mem : List ℕ) (act : Act) → ActOk base (length mem) act → length (leaves base mem act) ≡ length mem
unfolding leaves
length-leaves base mem (refuse number) o = refl
length-leaves base mem (fault cause value) o = refl
length-leaves base mem (change h ws to t) o = length-stored base mem t o.1
length-leaves base mem (put a bs) o = length-splice mem (a - base) bs (omega arith)
length-leaves base mem (release h) o = refl

module _ (base : ℕ) (mem : List ℕ) (s : State) (sr : StateRules base (length mem) s) where
  of_exec_lem : (h : ℕ) (e : Exec) → Sound base (length mem) e → ActOk base (length mem) (of_exec h e)
  of_exec_lem h (trap cause value) o = tt
  of_exec_lem h (effect ws to t) o = o

  pub fetch_sound : (h : ℕ) → h < s.count → Sound base (length mem) (step_of base mem s h)
  unfolding fetch_of
  fetch_sound h l =
      cond_all (Sound base (length mem)) (inside_of base (length mem) (get_or s.pc h 0) 4) _ (trap 1 (get_or s.pc h 0))
      (sound (xlen_of s.settings) s.settings.misaligned (value_at base mem (get_or s.pc h 0) 4) (reg_at s.x h) (get_or s.pc h 0) base mem
      (covers_of s.settings (reservation_of s h))
      (omega (arith, (xlen_bounds _ (xlen_is s.settings)).0)) (sr.2 h l).1) tt

  pub act_ok : (e : Event) → ActOk base (length mem) (act_on base mem s e)
  unfolding act_on device_of
  act_ok (Step h) =
      cond_cases (ActOk base (length mem)) (ltb h s.count) (of_exec h (step_of base mem s h)) (refuse 3)
      (λ t. of_exec_lem h (step_of base mem s h) (fetch_sound h (ltb-true h s.count t))) (λ f. tt)
  act_ok (Device a n v) =
      cond_cases (ActOk base (length mem)) (leb 1 n && leb n 8) (cond (inside_of base (length mem) a n) (put a (to_le n v)) (refuse 5)) (refuse 4)
      (λ t. cond_cases (ActOk base (length mem)) (inside_of base (length mem) a n) (put a (to_le n v)) (refuse 5)
      (λ i. subst (λ (k : ℕ). Inside base (length mem) a k) (sym (length-to_le n v)) (inside_of_lem base (length mem) a n i)) (λ f. tt)) (λ f. tt)
  act_ok (YieldOf h) = cond_cases (ActOk base (length mem)) (ltb h s.count) (release h) (refuse 3) (λ t. tt) (λ f. tt)

-- what an event writes fits
module _ (base : ℕ) (mem : List ℕ) (s : State) where
  exec_fits : (h : ℕ) (x : Exec) → Fits (xlen_of s.settings) x → ActFits (xlen_of s.settings) (of_exec h x)
  exec_fits h (trap cause value) f = tt
  exec_fits h (effect ws to t) f = f

  step_fits : (h : ℕ) → Fits (xlen_of s.settings) (step_of base mem s h)
  unfolding fetch_of
  step_fits h =
      let pc = get_or s.pc h 0 in
      cond_all (Fits (xlen_of s.settings)) (inside_of base (length mem) pc 4) _ (trap 1 pc)
      (fits (xlen_of s.settings) s.settings.misaligned (xlen_is s.settings) (value_at base mem pc 4) (reg_at s.x h) pc base mem
      (covers_of s.settings (reservation_of s h))) tt

  pub act_fits : (e : Event) → ActFits (xlen_of s.settings) (act_on base mem s e)
  unfolding act_on device_of
  act_fits (Step h) =
      cond_all (ActFits (xlen_of s.settings)) (ltb h s.count) (of_exec h (step_of base mem s h)) (refuse 3)
      (exec_fits h (step_of base mem s h) (step_fits h)) tt
  act_fits (Device a n v) =
      cond_all (ActFits (xlen_of s.settings)) (leb 1 n && leb n 8) (cond (inside_of base (length mem) a n) (put a (to_le n v)) (refuse 5)) (refuse 4)
      (cond_all (ActFits (xlen_of s.settings)) (inside_of base (length mem) a n) (put a (to_le n v)) (refuse 5) (bytes_to_le n v) tt) tt
  act_fits (YieldOf h) = cond_all (ActFits (xlen_of s.settings)) (ltb h s.count) (release h) (refuse 3) tt tt

module _ (base : ℕ) (m : Machine) (v : Valid base m) (e : Event) where
  -- a machine that isn't refused by 1 or 2: the act is the event's own
  pub act_valid : act_of base m.mem m.state e ≡ act_on base m.mem m.state e
  unfolding act_of
  act_valid = rw (eq-eqb _ _ ((refusal_0 base (length m.mem) m.state).1 v))

  ok : ActOk base (length m.mem) (act_of base m.mem m.state e)
  ok = rw act_valid (act_ok base m.mem m.state v.1 e)

  fit : ActFits (xlen m) (act_of base m.mem m.state e)
  fit = rw act_valid (act_fits base m.mem m.state e)

  pub length_next : length (next_of base m e).mem ≡ length m.mem
  unfolding next_of memory_of
  length_next = length-leaves base m.mem (act_of base m.mem m.state e) ok

  -- 01: from a state that 1 and 2 don't refuse, no event leads to one that they refuse
  pub valid_next : Valid base (next_of base m e)
  unfolding next_of answer_of apply
  valid_next =
      rw length_next (v.0, apply_rules base (length m.mem) m.state (act_of base m.mem m.state e) ok fit v.1)

-- the set of a reservation that a used hart holds lies wholly in memory; after any events too, by valid_run
pub held_set_inside : (base : ℕ) (m : Machine) → Valid base m → (k a w : ℕ) → k < m.state.count → reservation_of m.state k ≡ held a w
    → Inside base (length m.mem) (set_of (set_size m) a) (set_size m)
held_set_inside base m v k a w u held =
    set_in_memory m.state.settings base (length m.mem) v.0 a w (subst (ReservationRules m.state.settings base (length m.mem)) held (v.1.2 k u).2)

pub valid_run : (base : ℕ) (m : Machine) → Valid base m → (es : List Event) → Valid base (run_of base m es)
unfolding run_of
valid_run base m v [] = v
valid_run base m v (e ∷ es) = valid_run base (next_of base m e) (valid_next base m v e) es
