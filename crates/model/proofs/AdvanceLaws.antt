-- What a step comes to is what its act does, and an act done on a machine that isn't refused is the event. Assumes nothing.
use Rattle.std.proofs.Common.{◌≡◌, refl, ap, ap₂, ◌∙◌, ℕ, zero, suc, ◌≤◌, List, ◌∷◌, length, take, drop, None, arith}
use mathlib.Core.Bool.{Bool, true, false, cond, ◌&&◌}
use Prim.Native.Nat.{◌+◌, ◌*◌, ◌-◌, ◌<◌}
use lib.Dec.{leb}
use lib.Seq.{drop-drop}
use Rattle.word.specs.Bytes.{to_le}
use Rattle.reserve.specs.Range.{inside_of}
use Rattle.machine.specs.State.{refusal_of, refused}
use Rattle.machine.specs.declared.State.{State}
use Rattle.machine.proofs.StateLaws.{refused_none, refusal_0}
use Rattle.effect.specs.Effect as E
use Rattle.events.specs.Events.{event_of, first_events}
use Rattle.events.specs.declared.Event.{Event}
use Rattle.model.specs.Act.{Act, refuse, put, set_reg, registers_after, pcs_after, apply, leaves}
use Rattle.model.specs.Perform.{Machine, of_exec, device_of, act_on, answer_of, memory_of, next_of, run_of}
use Rattle.model.specs.Valid.{Valid}
use Rattle.model.specs.Advance.{state_by, reply_by, told, Does, Advances}
use Rattle.model.specs.declared.Reply.{Reply}
use Rattle.model.specs.declared.Outcome.{Outcome}
use Rattle.model.proofs.Valid.{act_valid}

module _ (h : ℕ) (s : State) where
  pub state_done : (e : E.Exec) → state_by h (E.done_of h e) s ≡ apply s (of_exec h e)
  unfolding state_by apply set_reg
  state_done (E.trap cause value) = refl
  state_done (E.effect E.none to t) = refl
  state_done (E.effect (E.one r v) to t) = refl
  state_done (E.effect (E.pair r v r2 v2) to t) = refl

  pub reply_done : (e : E.Exec) → reply_by (E.done_of h e) s ≡ told s (of_exec h e)
  unfolding reply_by
  reply_done (E.trap cause value) = refl
  reply_done (E.effect E.none to t) = refl
  reply_done (E.effect (E.one r v) to t) = refl
  reply_done (E.effect (E.pair r v r2 v2) to t) = refl

pub leaves_done : (h : ℕ) (e : E.Exec) (base : ℕ) (mem : List ℕ) → E.memory_by base mem e ≡ leaves base mem (of_exec h e)
unfolding leaves
leaves_done h (E.trap cause value) base mem = refl
leaves_done h (E.effect ws to t) base mem = refl

-- a device write leaves registers and pcs
module _ (base : ℕ) (mem : List ℕ) (a n v : ℕ) where
  either : (P : Act → Type 0) → P (refuse 4) → P (refuse 5) → P (put a (to_le n v)) → P (device_of base mem a n v)
  unfolding device_of
  either P p q r = go (leb 1 n && leb n 8) (inside_of base (length mem) a n)
    where
      go : (s t : Bool) → P (cond s (cond t (put a (to_le n v)) (refuse 5)) (refuse 4))
      go true true = r
      go true false = q
      go false t = p

  pub device_registers : (x : List ℕ) → registers_after (device_of base mem a n v) x ≡ x
  device_registers x = either (λ (act : Act). registers_after act x ≡ x) refl refl refl

  pub device_pcs : (pc : List ℕ) → pcs_after (device_of base mem a n v) pc ≡ pc
  device_pcs pc = either (λ (act : Act). pcs_after act pc ≡ pc) refl refl refl

-- a machine that isn't refused
pub lent_valid : (base : ℕ) (s : State) (mem : List ℕ) → refused (refusal_of base (length mem) s) ≡ None → Valid base (record { state = s; mem = mem })
lent_valid base s mem e = (refusal_0 base (length mem) s).0 (refused_none _ e)

-- an event's act, done, is the event
pub advances : (base : ℕ) (m : Machine) → Valid base m → (e : Event) {act : Act} → act_on base m.mem m.state e ≡ act
    → {r : Reply} {m' : Machine} → Does base act m r m' → Advances base e m r m'
unfolding answer_of memory_of next_of
advances base m v e is a =
    let d = act_valid base m v e ∙ is in
    record {
      outcome = rw d (ap (λ (r : Reply). r.outcome) a.reply);
      broke = rw d (ap (λ (r : Reply). r.broke) a.reply);
      machine = rw d (ap₂ (λ (s : State) (l : List ℕ). record { state = s; mem = l }) a.state a.memory);
    }

-- so the answer to it is the reply with the state afterwards
pub answered : (base : ℕ) (s : State) (mem : List ℕ) {e : Event} {r : Reply} {m' : Machine} → Advances base e (record { state = s; mem = mem }) r m'
    → (record { outcome = r.outcome; broke = r.broke; state = m'.state } ≡ answer_of base mem s e) × (m'.mem ≡ memory_of base mem s e)
unfolding next_of
answered base s mem {e} {r} {m'} a = (
  ap₂ (λ (o : Outcome) (k : ℕ). record { outcome = o; broke = k; state = m'.state }) a.outcome a.broke
      ∙ ap (λ (n : State). record { outcome = (answer_of base mem s e).outcome; broke = (answer_of base mem s e).broke; state = n })
      (ap (λ (m : Machine). m.state) a.machine),
  ap (λ (m : Machine). m.mem) a.machine,
)

pub take_events : (k n : ℕ) (body : List ℕ) → k ≤ n → take k (first_events n body) ≡ first_events k body
unfolding first_events
take_events zero n body h = refl
take_events (suc k) zero body h = absurd (omega arith)
take_events (suc k) (suc n) body h = ap (λ (l : List Event). event_of (take 24 body) ∷ l) (take_events k n (drop 24 body) (omega arith))

-- an event whose bytes are cut out of a body
pub event_cut : (i : ℕ) (body : List ℕ) {e : Event} → e ≡ event_of (take (i * 24 + 24 - i * 24) (drop (i * 24) body))
    → e ≡ event_of (take 24 (drop (i * 24) body))
event_cut i body p =
    let width : i * 24 + 24 - i * 24 ≡ 24 = omega arith in
    rw width at p

-- one event more of a body
pub events_more : (n i : ℕ) (body : List ℕ) → i < n
    → first_events (n - i) (drop (i * 24) body) ≡ event_of (take 24 (drop (i * 24) body)) ∷ first_events (n - (i + 1)) (drop ((i + 1) * 24) body)
unfolding first_events
events_more n i body h =
    let e : n - i ≡ suc (n - (i + 1)) = omega arith in
    let f : (i + 1) * 24 ≡ i * 24 + 24 = omega arith in
    rw (e, f, drop-drop 24 (i * 24) body)

-- the event e, performed on m, leaves m': the run of the events after it from there is the run from m
pub run_more : (base : ℕ) (m : Machine) {m' : Machine} {es left : List Event} {e next : Event} → es ≡ next ∷ left → e ≡ next → m' ≡ next_of base m e
    → run_of base m' left ≡ run_of base m es
unfolding run_of
run_more base m h pe pm = rw (h, pm, pe)
