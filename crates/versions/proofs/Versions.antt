-- Under A 2.0 a device write breaks no reservation, and all else is as under 2.1. Assumes nothing.
use mathlib.Core.Path.{◌≡◌, refl, sym, ◌∙◌, ap, ap₂, subst}
use mathlib.Core.Bool.{cond}
use mathlib.Core.List.{List, [], ◌∷◌}
use Prim.Native.Nat.{ℕ, zero, suc, ◌/◌, ◌%◌, ◌^◌, ◌<◌}
use native.Mathlib.Omega.{arith}
use lib.Dec.{ltb}
use lib.ListN.{length, get_or}
use borrow.Author.Tests.{ne_eqb}
use native.Mathlib.Nat.{zero-div}
use Rattle.std.specs.Prelude.{Option, None, Some}
use Rattle.word.proofs.TestLaws.{bool_cases}
use Rattle.word.specs.Each.{each}
use Rattle.word.specs.Bytes.{to_le}
use Rattle.settings.specs.Settings.{size_ok, version_ok, kind_ok, reading_ok, misaligned_ok}
use Rattle.settings.proofs.SettingsLaws.{at_version-xlen}
use Rattle.settings.specs.declared.Settings.{Settings}
use Rattle.reserve.specs.Reserve.{breaks_of, own_of, observe_of, observe_slot, broken_of, Observed, observe_all_of}
use Rattle.reserve.specs.declared.Reservation.{Reservation}
use Rattle.reserve.specs.declared.Notice.{Notice}
use Rattle.reserve.specs.declared.Notice.TheVariants as N
use Rattle.reserve.proofs.BrokenLaws.{bit_exact}
use Rattle.reserve.proofs.NoticeLaws.{BreaksNone, each_none, spared_broken}
use Rattle.machine.specs.State.{lent_ok, memory_ok, state_ok, refusal_of}
use Rattle.machine.specs.declared.State.{State}
use Rattle.machine.proofs.StateLaws.{top_same, harts_same}
use Rattle.effect.specs.Effect.{Exec, notice_of}
use Rattle.events.specs.declared.Event.{Event}
use Rattle.events.specs.declared.Event.TheVariants.{Step, Device, Yield}
use Rattle.model.specs.Act.{Act, refuse, outcome_of, registers_after, pcs_after, slots_after, broken_after, apply, leaves}
use Rattle.model.specs.Perform.{Machine, version, xlen, reservation_of, step_of, of_exec, act_on, act_of}
use Rattle.model.specs.Perform.{broke_at, answer_of, memory_of, next_of, run_of}
use Rattle.model.proofs.Frame.{acts}
use Rattle.versions.proofs.Observed.{Alike, access_alike, covers_same, observed_same}
use Rattle.versions.specs.Versions.{under, IsDevice, DeviceSpares, DevicesSpare, LeavesState, SameAnswer, SameReservations}

-- ---- device writes under 2.0

module _ (settings : Settings) (v : settings.version ≡ 20) (b n : ℕ) where
  device_spares : BreaksNone settings (N.DeviceWrite b n)
  unfolding breaks_of
  device_spares k None = refl
  device_spares k (Some r) = rw (ne_eqb settings.version 21 (λ q. omega (arith, v, q)))

  device_stays : (count : ℕ) (l : List (Option Reservation)) → (observe_all_of settings count (N.DeviceWrite b n) l).slots ≡ l
  unfolding observe_all_of observe_of own_of
  device_stays count l =
      each_none (observe_slot settings (N.DeviceWrite b n)) (λ k s. rw (device_spares k s)) count l

  device_breaks_none : (count : ℕ) (l : List (Option Reservation)) → (observe_all_of settings count (N.DeviceWrite b n) l).broken ≡ 0
  unfolding observe_all_of
  device_breaks_none count l = spared_broken settings (N.DeviceWrite b n) device_spares count l

-- a list of which no element below n is changed
each_still : (f : ℕ → Option Reservation → Option Reservation) (n : ℕ) (l : List (Option Reservation)) → ((k : ℕ) → k < n → f k (get_or l k None) ≡ get_or l k None) → each f n l ≡ l
each_still f zero l e = refl
each_still f (suc n) [] e = refl
each_still f (suc n) (s ∷ l) e =
    ap₂ (λ (x : Option Reservation) (xs : List (Option Reservation)). x ∷ xs) (e 0 (omega arith)) (each_still (λ k. f (suc k)) n l (λ k h. e (suc k) (omega arith)))

-- a device write that breaks none of the reservations below the count leaves the list
device_unbroken : (settings : Settings) (b n count : ℕ) (l : List (Option Reservation)) → broken_of settings (N.DeviceWrite b n) count l ≡ 0
    → each (observe_slot settings (N.DeviceWrite b n)) count l ≡ l
unfolding observe_of own_of
device_unbroken settings b n count l q = each_still (observe_slot settings (N.DeviceWrite b n)) count l stays
  where
    stays : (k : ℕ) → k < count → observe_slot settings (N.DeviceWrite b n) k (get_or l k None) ≡ get_or l k None
    stays k h =
        bool_cases (breaks_of settings k (N.DeviceWrite b n) (get_or l k None))
        (λ t.
        let bit = (bit_exact settings (N.DeviceWrite b n) l count k).1 (h, t) in
        let z : 0 / 2 ^ k % 2 ≡ 1 = ap (λ (i : ℕ). i / 2 ^ k % 2) (sym q) ∙ bit in
        absurd (omega (arith, zero-div (2 ^ k), z)))
        (λ t. rw t)

module _ (base : ℕ) (m : Machine) (v : version m ≡ 20) where
  -- what a device write comes to leaves the state
  abbrev Stays : Act → Type 0
  Stays act = (apply m.state act ≡ m.state) × (broken_after m.state.settings m.state.count act m.state.res ≡ 0)

  -- 02 [7]: "Under 2.0 a device write breaks no reservation, because 004 speaks only of harts"
  pub device_leaves : (e : Event) → IsDevice e → LeavesState base m e
  unfolding next_of answer_of apply
  device_leaves e d =
      let s = m.state in
      let r =
      acts base m.mem s (λ act. IsDevice e → Stays act) (λ number i. (refl, refl)) e
      (λ cause value i. (refl, refl))
      (λ h q u ws to t i. absurd (subst IsDevice q i))
      (λ a n w q i. (
        ap (λ (l : List (Option Reservation)). record { count = s.count; settings = s.settings; x = s.x; pc = s.pc; res = l })
            (device_stays s.settings v a (length (to_le n w)) s.count s.res),
        device_breaks_none s.settings v a (length (to_le n w)) s.count s.res,
      ))
      (λ h q u i. absurd (subst IsDevice q i)) d in
      record { state = r.0; broke = r.1 }

-- ---- all else is the same

module _ (base : ℕ) (m : Machine) where
  abbrev old : Machine
  old = under 20 m

  abbrev new : Machine
  new = under 21 m

  -- registers are as wide
  pub width_same : xlen old ≡ xlen new
  width_same = at_version-xlen 20 new.state.settings

  pub refusal_same : refusal_of base (length m.mem) old.state ≡ refusal_of base (length m.mem) new.state
  unfolding refusal_of memory_ok size_ok lent_ok state_ok version_ok kind_ok reading_ok misaligned_ok
  refusal_same =
      let s = m.state in
      let one = old.state.settings in
      let other = new.state.settings in
      let len = length m.mem in
      rw (top_same one other width_same base len, harts_same one other width_same base len s.x s.pc s.res)

  step_same : (h : ℕ) → step_of base m.mem old.state h ≡ step_of base m.mem new.state h
  step_same h =
      rw (covers_same old.state.settings new.state.settings refl (reservation_of m.state h), width_same)

  on_same : (e : Event) → act_on base m.mem old.state e ≡ act_on base m.mem new.state e
  unfolding act_on
  on_same (Step h) = ap (λ (x : Exec). cond (ltb h m.state.count) (of_exec h x) (refuse 3)) (step_same h)
  on_same (Device a n v) = refl
  on_same (Yield h) = refl

  act_same : (e : Event) → act_of base m.mem old.state e ≡ act_of base m.mem new.state e
  unfolding act_of
  act_same e = rw (refusal_same, on_same e)

  -- "All else is the same.": of every event, and of every machine, also one that is refused
  pub same_answer : (e : Event) → SameAnswer base m e
  unfolding next_of answer_of memory_of apply
  same_answer e =
      let q = act_same e in
      record {
        outcome = ap outcome_of q;
        count = refl;
        registers = ap (λ (act : Act). registers_after act m.state.x) q;
        pcs = ap (λ (act : Act). pcs_after act m.state.pc) q;
        memory = ap (leaves base m.mem) q;
      }

  -- what an act that is no device write does to reservations
  abbrev Same : Act → Type 0
  Same act =
      (slots_after old.state.settings m.state.count act m.state.res ≡ slots_after new.state.settings m.state.count act m.state.res)
      × (broken_after old.state.settings m.state.count act m.state.res ≡ broken_after new.state.settings m.state.count act m.state.res)

  noticed : (n : Notice) → Alike old.state.settings new.state.settings n
      → observe_all_of old.state.settings m.state.count n m.state.res ≡ observe_all_of new.state.settings m.state.count n m.state.res
  noticed n d = observed_same old.state.settings new.state.settings refl n d m.state.count m.state.res

  -- a device write that breaks no reservation under 2.1 leaves them all
  untouched : (e : Event) → IsDevice e → broke_at base new e ≡ 0 → (next_of base new e).state.res ≡ m.state.res
  unfolding next_of answer_of apply observe_all_of
  untouched e d =
      acts base m.mem new.state
      (λ act. IsDevice e → broken_after new.state.settings m.state.count act m.state.res ≡ 0
      → slots_after new.state.settings m.state.count act m.state.res ≡ m.state.res)
      (λ number i q. refl) e
      (λ cause value i q. refl)
      (λ h s u ws to t i q. absurd (subst IsDevice s i))
      (λ a n w s i q. device_unbroken new.state.settings a (length (to_le n w)) m.state.count m.state.res q)
      (λ h s u i q. absurd (subst IsDevice s i)) d

  same_by_hart : (e : Event) → (IsDevice e → ⊥) → SameReservations base m e
  unfolding next_of answer_of apply
  same_by_hart e none =
      let r =
      acts base m.mem new.state (λ act. (IsDevice e → ⊥) → Same act) (λ number i. (refl, refl)) e
      (λ cause value i. (refl, refl))
      (λ h q u ws to t i. let o = noticed (notice_of h t) (access_alike old.state.settings new.state.settings h t) in (ap (λ (x : Observed). x.slots) o, ap (λ (x : Observed). x.broken) o))
      (λ a n w q i. absurd (i (subst IsDevice (sym q) tt)))
      (λ h q u i. let o = noticed (N.Yield h) tt in (ap (λ (x : Observed). x.slots) o, ap (λ (x : Observed). x.broken) o)) none in
      let q = act_same e in
      record {
        reservations = ap (λ (act : Act). slots_after old.state.settings m.state.count act m.state.res) q ∙ r.0;
        broke = ap (λ (act : Act). broken_after old.state.settings m.state.count act m.state.res) q ∙ r.1;
      }

  same_by_device : (e : Event) → IsDevice e → broke_at base new e ≡ 0 → SameReservations base m e
  same_by_device e d q =
      let l = device_leaves base old refl e d in
      record { reservations = ap (λ (s : State). s.res) l.state ∙ sym (untouched e d q); broke = l.broke ∙ sym q }

  -- of an event that is no device write, or a device write that breaks no reservation under 2.1
  pub same_reservations : (e : Event) → DeviceSpares base new e → SameReservations base m e
  same_reservations (Step h) b = same_by_hart (Step h) (λ d. d)
  same_reservations (Device a n v) b = same_by_device (Device a n v) tt (b tt)
  same_reservations (Yield h) b = same_by_hart (Yield h) (λ d. d)

  -- so the whole machine is the same but for its version
  pub next_same : (e : Event) → DeviceSpares base new e → next_of base old e ≡ under 20 (next_of base new e)
  unfolding next_of answer_of apply
  next_same e none =
      let a = same_answer e in
      let r = same_reservations e none in
      let s = m.state in
      let settings = old.state.settings in
      let mem = (next_of base old e).mem in
      let res = (next_of base old e).state.res in
      ap₂ (λ (x pc : List ℕ). record { state = record { count = s.count; settings = settings; x = x; pc = pc; res = res }; mem = mem })
      a.registers a.pcs
      ∙ ap₂ (λ (l : List (Option Reservation)) (bytes : List ℕ).
      record {
        state = record { count = s.count; settings = settings; x = (next_of base new e).state.x; pc = (next_of base new e).state.pc; res = l };
        mem = bytes;
      })
      r.reservations a.memory

-- no event changes the version
pub new_stays : (base : ℕ) (m : Machine) (e : Event) → under 21 (next_of base (under 21 m) e) ≡ next_of base (under 21 m) e
unfolding next_of answer_of apply
new_stays base m e = refl

-- Events one after another, of which no device write breaks a reservation under 2.1: the machine afterwards is the same but for its version.
pub same_run : (base : ℕ) (es : List Event) (m : Machine) → DevicesSpare base (under 21 m) es
    → run_of base (under 20 m) es ≡ under 20 (run_of base (under 21 m) es)
unfolding run_of
same_run base [] m none = refl
same_run base (e ∷ es) m none =
    let next = next_of base (under 21 m) e in
    ap (λ (n : Machine). run_of base n es) (next_same base m e none.0)
    ∙ same_run base es next (subst (λ (n : Machine). DevicesSpare base n es) (sym (new_stays base m e)) none.1)
    ∙ ap (λ (n : Machine). under 20 (run_of base n es)) (new_stays base m e)
