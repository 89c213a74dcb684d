-- Every event keeps the numbers of a state below 2 ^ 64 and the bytes of memory below 256. Assumes nothing.
use mathlib.Core.Path.{◌≡◌, refl}
use mathlib.Core.Bool.{Bool, true, false, cond}
use mathlib.Core.List.{List, [], ◌∷◌}
use Prim.Native.Nat.{ℕ, zero, suc, ◌-◌, ◌^◌, ◌≤◌, ◌<◌}
use native.Mathlib.Omega.{arith}
use lib.Dec.{eqb}
use lib.Pow.{pow_mono}
use lib.ListN.{length, get_or}
use borrow.Author.Tests.{eqb-true}
use Rattle.std.specs.Prelude.{Option, None}
use Rattle.word.specs.Bytes.{IsBytes}
use Rattle.word.specs.Each.{each}
use Rattle.word.proofs.ChooseLaws.{cond_all}
use Rattle.word.proofs.MemoryLaws.{bytes_splice}
use Rattle.word.proofs.WordLaws.{xlen_bounds}
use Rattle.settings.specs.Settings.{xlen_of}
use Rattle.settings.proofs.SettingsLaws.{xlen_is}
use Rattle.settings.specs.declared.Settings.{Settings}
use Rattle.reserve.specs.Reserve.{held, breaks_of, own_of, observe_of, observe_slot, observe_all_of}
use Rattle.reserve.specs.declared.Reservation.{Reservation}
use Rattle.reserve.specs.declared.Notice.{Notice}
use Rattle.reserve.specs.declared.Notice.TheVariants.{Quiet, LoadReserved, ScStored, ScFailed, Write, DeviceWrite, Yield}
use Rattle.machine.specs.Rules.{LentRules}
use Rattle.machine.specs.State.{refusal_of}
use Rattle.machine.specs.declared.State.{State}
use Rattle.machine.proofs.StateLaws.{refusal_0}
use Rattle.machine.specs.Ranged.{Fits64, Ranged}
use Rattle.effect.specs.Effect.{Writes, none, one, pair, Access, nothing, reserve, store, sc_stored, sc_failed, stored, notice_of}
use Rattle.effect.specs.Sound.{AccessOk, AccessFits, WritesFit}
use Rattle.events.specs.declared.Event.{Event}
use Rattle.model.specs.Act.{Act, refuse, fault, change, put, release, registers_after, pcs_after, slots_after, apply, leaves}
use Rattle.model.specs.Perform.{Machine, act_on, act_of, answer_of, memory_of, next_of, run_of}
use Rattle.model.specs.Valid.{ActOk, ActFits}
use Rattle.model.proofs.Valid.{set_all, below_written, act_ok, act_fits}
use Rattle.model.proofs.Frame.{shaped_apply}

-- ---- lists

each_all : {A : Type 0} (P : A → Type 0) (f : ℕ → A → A) (n : ℕ) (l : List A) (d : A) (i : ℕ)
    → ((k : ℕ) (a : A) → P a → P (f k a)) → P (get_or l i d) → P (get_or (each f n l) i d)
each_all P f zero l d i g p = p
each_all P f (suc n) [] d i g p = p
each_all P f (suc n) (a ∷ l) d zero g p = g 0 a p
each_all P f (suc n) (a ∷ l) d (suc i) g p = each_all P (λ k. f (suc k)) n l d i (λ k. g (suc k)) p

abbrev Small : List ℕ → Type 0
Small l = (i : ℕ) → get_or l i 0 < 2 ^ 64

-- ---- reservations

-- what an LR reserves
abbrev Reserves : Notice → Type 0
Reserves Quiet = Unit {0}
Reserves (LoadReserved g a w) = Fits64 (held a w)
Reserves (ScStored g b n) = Unit {0}
Reserves (ScFailed g) = Unit {0}
Reserves (Write g b n) = Unit {0}
Reserves (DeviceWrite b n) = Unit {0}
Reserves (Yield g) = Unit {0}

own_numbers : (h : ℕ) (n : Notice) (r : Option Reservation) → Reserves n → Fits64 r → Fits64 (own_of h n r)
unfolding own_of
own_numbers h Quiet r o k = k
own_numbers h (LoadReserved g a w) r o k = cond_all Fits64 (eqb g h) (held a w) r o k
own_numbers h (ScStored g b n) r o k = cond_all Fits64 (eqb g h) None r tt k
own_numbers h (ScFailed g) r o k = cond_all Fits64 (eqb g h) None r tt k
own_numbers h (Write g b n) r o k = k
own_numbers h (DeviceWrite b n) r o k = k
own_numbers h (Yield g) r o k = cond_all Fits64 (eqb g h) None r tt k

slot-numbers : (settings : Settings) (count : ℕ) (n : Notice) (l : List (Option Reservation)) → Reserves n → ((k : ℕ) → Fits64 (get_or l k None))
    → (k : ℕ) → Fits64 (get_or (observe_all_of settings count n l).slots k None)
unfolding observe_all_of observe_of
slot-numbers settings count n l o q k =
    each_all Fits64 (observe_slot settings n) count l None k
    (λ j r p. cond_all Fits64 (breaks_of settings j n r) None (own_of j n r) tt (own_numbers j n r o p)) (q k)

-- ---- acts

-- what fits a register of xlen bits fits the 64 of the code's numbers
module _ (xlen : ℕ) (most : xlen ≤ 64) where
  below_64 : (v : ℕ) → v < 2 ^ xlen → v < 2 ^ 64
  below_64 v l = omega (arith, l, pow_mono {i = xlen} {j = 64} most)

  writes_64 : (ws : Writes) → WritesFit xlen ws → WritesFit 64 ws
  writes_64 none f = tt
  writes_64 (one r v) f = below_64 v f
  writes_64 (pair r v r2 v2) f = (below_64 v f.0, below_64 v2 f.1)

  access_64 : (t : Access) → AccessFits xlen t → AccessFits 64 t
  access_64 nothing f = tt
  access_64 (reserve a w) f = omega arith
  access_64 (store a bs) f = f
  access_64 (sc_stored a bs) f = f
  access_64 sc_failed f = tt

  act_64 : (act : Act) → ActFits xlen act → ActFits 64 act
  act_64 (refuse number) f = tt
  act_64 (fault cause value) f = tt
  act_64 (change h ws to t) f = (writes_64 ws f.0, (below_64 to f.1.0, access_64 t f.1.1))
  act_64 (put a bs) f = f
  act_64 (release h) f = tt

registers_small : (act : Act) (x : List ℕ) → ActFits 64 act → Small x → Small (registers_after act x)
registers_small (refuse number) x f q = q
registers_small (fault cause value) x f q = q
registers_small (change h ws to t) x f q = λ i. below_written 64 h ws i x f.0 (q i)
registers_small (put a bs) x f q = q
registers_small (release h) x f q = q

pcs_small : (act : Act) (pc : List ℕ) → ActFits 64 act → Small pc → Small (pcs_after act pc)
pcs_small (refuse number) pc f q = q
pcs_small (fault cause value) pc f q = q
pcs_small (change h ws to t) pc f q = λ i. set_all (λ (w : ℕ). w < 2 ^ 64) pc h i to 0 f.1.0 (q i)
pcs_small (put a bs) pc f q = q
pcs_small (release h) pc f q = q

module _ (settings : Settings) (base : ℕ) (mem : List ℕ) (rules : LentRules settings base (length mem)) where
  -- what an LR reserves lies in memory
  reserves : (h : ℕ) (t : Access) → AccessOk base (length mem) t → Reserves (notice_of h t)
  reserves h nothing o = tt
  reserves h (reserve a w) o = (omega (arith, rules.1, rules.4, o.1.1.1), omega (arith, rules.1, rules.4, o.1.1.1))
  reserves h (store a bs) o = tt
  reserves h (sc_stored a bs) o = tt
  reserves h sc_failed o = tt

  slots_small : (count : ℕ) (act : Act) (l : List (Option Reservation)) → ActOk base (length mem) act → ((k : ℕ) → Fits64 (get_or l k None))
      → (k : ℕ) → Fits64 (get_or (slots_after settings count act l) k None)
  slots_small count (refuse number) l o q = q
  slots_small count (fault cause value) l o q = q
  slots_small count (change h ws to t) l o q = slot-numbers settings count (notice_of h t) l (reserves h t o.1) q
  slots_small count (put a bs) l o q = slot-numbers settings count (DeviceWrite a (length bs)) l tt q
  slots_small count (release h) l o q = slot-numbers settings count (Yield h) l tt q

ranged_apply : (base : ℕ) (mem : List ℕ) (s : State) → LentRules s.settings base (length mem) → (act : Act) → ActOk base (length mem) act
    → ActFits 64 act → Ranged s → Ranged (apply s act)
unfolding apply
ranged_apply base mem s rules act o f r = record {
  shaped = shaped_apply s act r.shaped;
  registers = registers_small act s.x f r.registers;
  pcs = pcs_small act s.pc f r.pcs;
  reservations = slots_small s.settings base mem rules s.count act s.res o r.reservations;
}

bytes_stored : (base : ℕ) (mem : List ℕ) (t : Access) → AccessOk base (length mem) t → AccessFits 64 t → IsBytes mem → IsBytes (stored base mem t)
bytes_stored base mem nothing o f b = b
bytes_stored base mem (reserve a w) o f b = b
bytes_stored base mem (store a bs) o f b = bytes_splice mem (a - base) bs (omega arith) b f
bytes_stored base mem (sc_stored a bs) o f b = bytes_splice mem (a - base) bs (omega arith) b f
bytes_stored base mem sc_failed o f b = b

bytes_leaves : (base : ℕ) (mem : List ℕ) (act : Act) → ActOk base (length mem) act → ActFits 64 act → IsBytes mem → IsBytes (leaves base mem act)
unfolding leaves
bytes_leaves base mem (refuse number) o f b = b
bytes_leaves base mem (fault cause value) o f b = b
bytes_leaves base mem (change h ws to t) o f b = bytes_stored base mem t o.1 f.1.1 b
bytes_leaves base mem (put a bs) o f b = bytes_splice mem (a - base) bs (omega arith) b f
bytes_leaves base mem (release h) o f b = b

-- ---- events

fits_64 : (base : ℕ) (mem : List ℕ) (s : State) (e : Event) → ActFits 64 (act_on base mem s e)
fits_64 base mem s e = act_64 (xlen_of s.settings) (xlen_bounds _ (xlen_is s.settings)).1 (act_on base mem s e) (act_fits base mem s e)

module _ (base : ℕ) (mem : List ℕ) (bytes : IsBytes mem) (s : State) where
  pub ranged_answer : (e : Event) → Ranged s → Ranged (answer_of base mem s e).state
  unfolding answer_of act_of apply
  ranged_answer e r = go (eqb (refusal_of base (length mem) s) 0) refl
    where
      go : (t : Bool) → eqb (refusal_of base (length mem) s) 0 ≡ t
          → Ranged (apply s (cond t (act_on base mem s e) (refuse (refusal_of base (length mem) s))))
      go true q =
          let v = (refusal_0 base (length mem) s).0 (eqb-true (refusal_of base (length mem) s) 0 q) in
          ranged_apply base mem s v.0.1 (act_on base mem s e) (act_ok base mem s v.1 e) (fits_64 base mem s e) r
      go false q = r

  pub bytes_memory : (e : Event) → IsBytes (memory_of base mem s e)
  unfolding memory_of act_of
  bytes_memory e = go (eqb (refusal_of base (length mem) s) 0) refl
    where
      go : (t : Bool) → eqb (refusal_of base (length mem) s) 0 ≡ t
          → IsBytes (leaves base mem (cond t (act_on base mem s e) (refuse (refusal_of base (length mem) s))))
      go true q =
          let v = (refusal_0 base (length mem) s).0 (eqb-true (refusal_of base (length mem) s) 0 q) in
          bytes_leaves base mem (act_on base mem s e) (act_ok base mem s v.1 e) (fits_64 base mem s e) bytes
      go false q = bytes_leaves base mem (refuse (refusal_of base (length mem) s)) tt tt bytes

pub ranged_run : (base : ℕ) (m : Machine) → IsBytes m.mem → Ranged m.state → (es : List Event) → Ranged (run_of base m es).state
unfolding run_of next_of
ranged_run base m b r [] = r
ranged_run base m b r (e ∷ es) =
    ranged_run base (next_of base m e) (bytes_memory base m.mem b m.state e) (ranged_answer base m.mem b m.state e r) es
