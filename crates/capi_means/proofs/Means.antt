-- What the contracts of events and runs come to for a caller who performs one after another. Assumes nothing; that buffers hold bytes (IsBytes), which
-- the theorems ask, their type says.
use Rattle.std.specs.Prelude.{Ok, Err, None}
use mathlib.Core.Path.{◌≡◌, refl, sym, ap, ap₂, ◌∙◌, subst}
use mathlib.Core.Bool.{Bool, true, false, cond}
use mathlib.Core.List.{List, [], ◌∷◌}
use Prim.Native.Nat.{ℕ, ◌+◌, ◌*◌, ◌%◌, ◌≤◌, ◌<◌}
use native.Mathlib.Omega.{arith}
use lib.Dec.{eqb}
use lib.ListN.{length, get_or, take}
use borrow.Author.Tests.{eqb-true, eqb-false}
use Rattle.word.specs.Bytes.{IsBytes}
use Rattle.word.specs.Memory.{part}
use Rattle.word.proofs.TestLaws.{bool_cases}
use Rattle.machine.specs.Rules.{Shaped}
use Rattle.machine.specs.State.{refusal_of}
use Rattle.machine.specs.declared.State.{State}
use Rattle.layout.specs.Layout.{state_size, state_in, state_over}
use Rattle.layout.proofs.Back.{count_in, settings_in_lem, register_in, pc_in, reservation_in_lem, shaped_in, ranged_in}
use Rattle.layout.proofs.Back.{count_kept, settings_kept, register_kept, pc_kept, reservation_kept, read_back}
use Rattle.effect.specs.Execute.{reg_at}
use Rattle.events.specs.Events.{Checked, checked_of, events_of}
use Rattle.events.specs.declared.Event.{Event}
use Rattle.model.specs.Perform.{Machine, answer_of, next_of, run_of}
use Rattle.model.specs.Run.{Result, refused_run, performed_run, performed_count, run_checked, result_of}
use Rattle.model.specs.declared.Answer.{Answer}
use Rattle.model.specs.declared.Outcome.{Outcome}
use Rattle.model.specs.declared.Outcome.TheVariants.{Retired, ScStored, ScFailed, Trap, Refused}
use Rattle.model.proofs.Frame.{count_next, settings_next, shaped_next, unused_reg, unused_pc, unused_res, count_run, settings_run, shaped_run}
use Rattle.reach.proofs.Ranges.{ranged_answer, ranged_run}
use Rattle.answers.proofs.Refused.{kind, unretired_keeps}
use Rattle.capi.specs.Events.{state_if, code_of, is_retired, PerformedOn, RunTold, RanOn, HartKept, Called, Calls}

-- two sizes are right, or not
pub sized : {P : Type 0} (a m b n : ℕ) → (a ≡ m → b ≡ n → P) → (((a ≡ m) × (b ≡ n) → ⊥) → P) → P
sized a m b n f g =
    bool_cases (eqb a m)
    (λ p. bool_cases (eqb b n) (λ q. f (eqb-true a m p) (eqb-true b n q)) (λ q. g (λ h. eqb-false b n q h.1)))
    (λ p. g (λ h. eqb-false a m p h.0))

-- ---- unused harts

pub same_hart : (h : ℕ) (state : List ℕ) → HartKept h state state
same_hart h state = record { registers = λ r k. refl; pc = refl; reservation = refl }

-- a hart that a state doesn't use, and whose registers and pc are those of the bytes, keeps its bytes
pub over_kept : (state : List ℕ) → length state ≡ state_size → IsBytes state → (s : State) → Shaped s → (h : ℕ) → h < 8 → s.count ≤ h
    → ((r : ℕ) → reg_at s.x h r ≡ reg_at (state_in state).x h r) → get_or s.pc h 0 ≡ get_or (state_in state).pc h 0
    → HartKept h state (state_over state s)
unfolding reg_at
over_kept state whole bytes s shaped h l u x pc = record {
  registers =
      λ r k.
      let q : h * 32 + r % 32 ≡ 32 * h + r = omega arith in
      register_kept state whole s shaped bytes (32 * h + r) (omega arith)
      (ap (λ (n : ℕ). get_or s.x n 0) (sym q) ∙ x r ∙ ap (λ (n : ℕ). get_or (state_in state).x n 0) q ∙ register_in state (32 * h + r) (omega arith));
  pc = pc_kept state whole s shaped bytes h l (pc ∙ pc_in state h l);
  reservation =
      let q : 2120 + 24 * h + 0 ≡ 2120 + 24 * h = omega arith in
      subst (λ (b : ℕ). part (state_over state s) b 24 ≡ part state b 24) q (reservation_kept state whole s shaped h 0 24 u (omega arith));
}

-- ---- an event

unretired : (o : Outcome) → 256 ≤ code_of o → is_retired o ≡ false
unretired Retired h = absurd (omega arith)
unretired ScStored h = absurd (omega arith)
unretired ScFailed h = absurd (omega arith)
unretired (Trap cause value) h = refl
unretired (Refused number) h = refl

kind_of_lem : (o : Outcome) → is_retired o ≡ false → 0 < kind o
kind_of_lem Retired e = let z : ◌≡◌ {A = ℕ} 0 1 = cc in absurd (omega arith)
kind_of_lem ScStored e = let z : ◌≡◌ {A = ℕ} 0 1 = cc in absurd (omega arith)
kind_of_lem ScFailed e = let z : ◌≡◌ {A = ℕ} 0 1 = cc in absurd (omega arith)
kind_of_lem (Trap cause value) e = omega arith
kind_of_lem (Refused number) e = omega arith

module _ (e : Event) (base : ℕ) (state mem value : List ℕ) (r : ℕ) (state' mem' value' : List ℕ)
    (p : PerformedOn e base state mem value r state' mem' value') where
  abbrev answer : Answer
  answer = answer_of base mem (state_in state) e

  -- An answer of 256 or more, be it a trap, a refusal or a wrong size, leaves state and memory as they were.
  pub unretired_stays : 256 ≤ r → (state' ≡ state) × (mem' ≡ mem)
  unretired_stays h =
      sized (length state) state_size (length value) 8
      (λ l k.
      let t = p.right l k in
      let f = unretired answer.outcome (omega (arith, t.answer)) in (
        t.bytes ∙ ap (λ (b : Bool). state_if b state answer.state) f,
        t.memory ∙ (unretired_keeps base mem (state_in state) e (kind_of_lem answer.outcome f)).1,
      ))
      (λ w. ((p.wrong w).1, (p.wrong w).2))

  module _ (whole : length state ≡ state_size) (eight : length value ≡ 8) (bytes : IsBytes state) where
    -- what holds of the bytes as they were, and of those with the answer's state put over them
    by_answer : (P : List ℕ → Type 0) → (is_retired answer.outcome ≡ false → P state) → P (state_over state answer.state) → P state'
    by_answer P f g = subst P (sym (p.right whole eight).bytes) (go (is_retired answer.outcome) refl)
      where
        go : (b : Bool) → is_retired answer.outcome ≡ b → P (state_if b state answer.state)
        go true q = g
        go false q = f q

    -- What the bytes mean afterwards is the state of the model's answer, from which the next call takes up.
    pub event_means : IsBytes mem → state_in state' ≡ answer.state
    unfolding next_of
    event_means b =
        let m : Machine = record { state = state_in state; mem = mem } in
        by_answer (λ (l : List ℕ). state_in l ≡ answer.state)
        (λ f. sym (unretired_keeps base mem (state_in state) e (kind_of_lem answer.outcome f)).0)
        (read_back state whole answer.state (ranged_answer base mem b (state_in state) e (ranged_in state bytes))
        (sym (count_next base m e ∙ count_in state)) (sym (settings_next base m e ∙ settings_in_lem state))
        (λ k u l. unused_res base m e k (rw (count_next base m e) at u) ∙ reservation_in_lem state k l))

    -- 01: "unused harts' fields aren't looked at and never change": none of their bytes does
    pub event_unused : (h : ℕ) → (state_in state).count ≤ h → h < 8 → HartKept h state state'
    unfolding next_of
    event_unused h u l =
        let m : Machine = record { state = state_in state; mem = mem } in
        by_answer (HartKept h state) (λ f. same_hart h state)
        (over_kept state whole bytes answer.state (shaped_next base m e (shaped_in state)) h l (rw (count_next base m e) u)
        (λ i. unused_reg base m e h i u) (unused_pc base m e h u))

    -- the count keeps its bytes
    pub event_count : part state' 0 8 ≡ part state 0 8
    unfolding next_of
    event_count =
        let m : Machine = record { state = state_in state; mem = mem } in
        by_answer (λ (l : List ℕ). part l 0 8 ≡ part state 0 8) (λ f. refl)
        (count_kept state whole answer.state (shaped_next base m e (shaped_in state)))

    -- and so do the settings, which stand from 2312 on
    pub event_settings : (b n : ℕ) → 2312 ≤ b → part state' b n ≡ part state b n
    unfolding next_of
    event_settings b n h =
        let m : Machine = record { state = state_in state; mem = mem } in
        by_answer (λ (l : List ℕ). part l b n ≡ part state b n) (λ f. refl)
        (settings_kept state whole answer.state (shaped_next base m e (shaped_in state)) b n h)

-- ---- a run

-- a run is refused, or performs some events
result_all : (base : ℕ) (mem : List ℕ) (s : State) (body : List ℕ) (budget : ℕ) (P : Result → Type 0)
    → ((number place : ℕ) → P (refused_run number place s mem))
    → ((n : ℕ) (es : List Event) → P (performed_run n (run_of base (record { state = s; mem = mem }) es)))
    → P (result_of base mem s body budget)
unfolding result_of
result_all base mem s body budget P f g = go (eqb (refusal_of base (length mem) s) 0)
  where
    checked : (c : Checked) → P (run_checked c base mem s body budget)
    checked (Ok x) = g (performed_count body budget) (take (performed_count body budget) (events_of body))
    checked (Err place) = f 11 place

    go : (t : Bool)
        → P (cond t (run_checked (checked_of s.count base (length mem) body) base mem s body budget) (refused_run (refusal_of base (length mem) s) 0 s mem))
    go true = checked (checked_of s.count base (length mem) body)
    go false = f (refusal_of base (length mem) s) 0

module _ (base : ℕ) (k : ℕ) where
  pub run_res : (m : Machine) (es : List Event) → m.state.count ≤ k → get_or (run_of base m es).state.res k None ≡ get_or m.state.res k None
  unfolding run_of
  run_res m [] u = refl
  run_res m (e ∷ es) u = run_res (next_of base m e) es (rw (count_next base m e) u) ∙ unused_res base m e k u

  pub run_reg : (r : ℕ) (m : Machine) (es : List Event) → m.state.count ≤ k → reg_at (run_of base m es).state.x k r ≡ reg_at m.state.x k r
  unfolding run_of
  run_reg r m [] u = refl
  run_reg r m (e ∷ es) u = run_reg r (next_of base m e) es (rw (count_next base m e) u) ∙ unused_reg base m e k r u

  pub run_pc : (m : Machine) (es : List Event) → m.state.count ≤ k → get_or (run_of base m es).state.pc k 0 ≡ get_or m.state.pc k 0
  unfolding run_of
  run_pc m [] u = refl
  run_pc m (e ∷ es) u = run_pc (next_of base m e) es (rw (count_next base m e) u) ∙ unused_pc base m e k u

module _ (body : List ℕ) (budget base : ℕ) (state mem told : List ℕ) (r : ℕ) (state' mem' told' : List ℕ)
    (p : RanOn body budget base state mem told r state' mem' told') where
  -- A refused run and a wrong size leave state and memory as they were.
  pub refused_stays : 256 ≤ r → (state' ≡ state) × (mem' ≡ mem)
  refused_stays h =
      sized (length state) state_size (length told) 16
      (λ l k.
      result_all base mem (state_in state) body budget (λ (a : Result). RunTold a state r state' mem' told' → (state' ≡ state) × (mem' ≡ mem))
      (λ number place t. (t.bytes, t.memory)) (λ n es t. absurd (omega (arith, t.answer))) (p.right l k))
      (λ w. ((p.wrong w).1, (p.wrong w).2))

  module _ (whole : length state ≡ state_size) (sixteen : length told ≡ 16) (bytes : IsBytes state) where
    abbrev before : Machine
    before = record { state = state_in state; mem = mem }

    -- What the bytes mean afterwards is the state of the model's run.
    pub run_means : IsBytes mem → state_in state' ≡ (result_of base mem (state_in state) body budget).ran.state
    run_means b =
        result_all base mem (state_in state) body budget (λ (a : Result). RunTold a state r state' mem' told' → state_in state' ≡ a.ran.state)
        (λ number place t. ap state_in t.bytes)
        (λ n es t.
        ap state_in t.bytes
        ∙ read_back state whole (run_of base before es).state (ranged_run base before b (ranged_in state bytes) es)
        (sym (count_run base before es ∙ count_in state)) (sym (settings_run base before es ∙ settings_in_lem state))
        (λ k u l. run_res base k before es (rw (count_run base before es) at u) ∙ reservation_in_lem state k l))
        (p.right whole sixteen)

    -- and no byte of an unused hart changes
    pub run_unused : (h : ℕ) → (state_in state).count ≤ h → h < 8 → HartKept h state state'
    run_unused h u l =
        result_all base mem (state_in state) body budget (λ (a : Result). RunTold a state r state' mem' told' → HartKept h state state')
        (λ number place t. subst (HartKept h state) (sym t.bytes) (same_hart h state))
        (λ n es t.
        subst (HartKept h state) (sym t.bytes)
        (over_kept state whole bytes (run_of base before es).state (shaped_run base before (shaped_in state) es) h l (rw (count_run base before es) u)
        (λ i. run_reg base h i before es u) (run_pc base h before es u)))
        (p.right whole sixteen)

    -- a part that no state put over the bytes writes
    part_kept : (b n : ℕ) → ((s : State) → Shaped s → part (state_over state s) b n ≡ part state b n) → part state' b n ≡ part state b n
    part_kept b n over =
        result_all base mem (state_in state) body budget (λ (a : Result). RunTold a state r state' mem' told' → part state' b n ≡ part state b n)
        (λ number place t. ap (λ (l : List ℕ). part l b n) t.bytes)
        (λ k es t. ap (λ (l : List ℕ). part l b n) t.bytes ∙ over (run_of base before es).state (shaped_run base before (shaped_in state) es))
        (p.right whole sixteen)

    -- and the count keeps its bytes
    pub run_count : part state' 0 8 ≡ part state 0 8
    run_count = part_kept 0 8 (count_kept state whole)

    -- and so do the settings
    pub run_settings : (b n : ℕ) → 2312 ≤ b → part state' b n ≡ part state b n
    run_settings b n h = part_kept b n (λ s shaped. settings_kept state whole s shaped b n h)

-- ---- calls one after another

next : (base : ℕ) (e : Event) (state mem : List ℕ) (r : ℕ) (s m : List ℕ) → length state ≡ state_size → IsBytes state → IsBytes mem
    → Called base e state mem r s m
    → ◌≡◌ {A = Machine} (record { state = state_in s; mem = m }) (next_of base (record { state = state_in state; mem = mem }) e)
unfolding next_of
next base e state mem r s m whole bytes b c =
    let p = c.performed in
    ap₂ (λ (t : State) (l : List ℕ). record { state = t; mem = l })
    (event_means e base state mem c.value r s m c.value' p whole c.eight bytes b) (p.right whole c.eight).memory

-- Calls one after another perform events one after another: what the bytes mean at the end is the machine after them.
pub calls_mean : (base : ℕ) (es : List Event) (state mem state' mem' : List ℕ) → length state ≡ state_size → IsBytes state → IsBytes mem
    → Calls base es state mem state' mem'
    → ◌≡◌ {A = Machine} (record { state = state_in state'; mem = mem' }) (run_of base (record { state = state_in state; mem = mem }) es)
unfolding Calls run_of
calls_mean base [] state mem state' mem' whole bytes b c =
    ap₂ (λ (s m : List ℕ). record { state = state_in s; mem = m }) c.0 c.1
calls_mean base (e ∷ es) state mem state' mem' whole bytes b (r, s, m, c, rest) =
    calls_mean base es s m state' mem' c.whole c.bytes c.memory rest
    ∙ ap (λ (n : Machine). run_of base n es) (next base e state mem r s m whole bytes b c)
