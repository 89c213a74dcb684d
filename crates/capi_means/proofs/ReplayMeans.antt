-- What the contract of a replay comes to for a caller. Assumes nothing; that buffers hold bytes (IsBytes), which the theorems ask, their type says.
use Rattle.std.specs.Prelude.{Option, Some, None, Ok, Err}
use mathlib.Core.Path.{◌≡◌, refl, sym, ap, ◌∙◌, subst}
use mathlib.Core.Bool.{Bool, true, false}
use mathlib.Core.List.{List, [], ◌∷◌}
use Prim.Native.Nat.{ℕ, ◌/◌, ◌%◌, ◌≤◌, ◌<◌}
use native.Mathlib.Omega.{arith}
use lib.Dec.{eqb}
use lib.ListN.{length}
use Rattle.word.specs.Bytes.{IsBytes}
use Rattle.word.specs.Memory.{part}
use Rattle.word.proofs.ChooseLaws.{cond_all}
use Rattle.machine.specs.State.{refusal_of}
use Rattle.machine.specs.declared.State.{State}
use Rattle.layout.specs.Layout.{state_size, state_in, state_over}
use Rattle.layout.proofs.Back.{count_in, settings_in_lem, reservation_in_lem, shaped_in, ranged_in, count_kept, settings_kept, read_back}
use Rattle.events.specs.declared.Event.{Event}
use Rattle.events.specs.declared.Event.TheVariants.{Step}
use Rattle.model.specs.Perform.{Machine, run_of}
use Rattle.model.proofs.Frame.{count_run, settings_run, shaped_run}
use Rattle.reach.proofs.Ranges.{ranged_run}
use Rattle.steplog.specs.declared.Row.{Row}
use Rattle.rows.specs.Row.{Told, told_of, stepped}
use Rattle.rows.specs.Replay.{readings, End, end_by, end_of, Result, ended, refused_replay, replay_of}
use Rattle.rows.specs.declared.Stop.{Stop}
use Rattle.rows.specs.declared.Stop.TheVariants as S
use Rattle.replay_words.proofs.ReplayWords.{refused_exactly, refused_keeps}
use Rattle.capi.specs.Events.{state_if, HartKept}
use Rattle.rows.specs.Numbers.{stop_code}
use Rattle.capi.specs.Replay.{is_replayed, SmallStop, ReplayedOn}
use Rattle.capi.proofs.ReplayLaws.{small_replay}
use Rattle.capi_means.proofs.Means.{sized, same_hart, over_kept, run_res, run_reg, run_pc}

-- ---- a replay is a run of the steps of its rows

-- the machine where rows end is the one after some events
end_run : (base : ℕ) (m : Machine) (rs : List (Option Row)) → (es : List Event) × ((end_of base m rs).machine ≡ run_of base m es)
unfolding end_of run_of stepped
end_run base m [] = ([], refl)
end_run base m (r ∷ rs) = go r (told_of base m r) (end_of base (stepped base m r) rs) (end_run base (stepped base m r) rs)
  where
    go : (r : Option Row) (t : Told) (rest : End) → (es : List Event) × (rest.machine ≡ run_of base (stepped base m r) es)
        → (es : List Event) × ((end_by t m rest).machine ≡ run_of base m es)
    go None (Ok x) rest e = e
    go (Some row) (Ok x) rest (es, e) = (Step row.hart ∷ es, e)
    go r (Err s) rest e = ([], refl)

module _ (base : ℕ) (mem : List ℕ) (s : State) (log : List ℕ) where
  abbrev IsRun : Result → Type 0
  IsRun a = (es : List Event) × (◌≡◌ {A = Machine} (record { state = a.replayed.state; mem = a.mem }) (run_of base (record { state = s; mem = mem }) es))

  replay_run : IsRun (replay_of base mem s log)
  unfolding replay_of run_of
  replay_run =
      let rows = readings s.count (length log / 48) log in
      let end = end_of base (record { state = s; mem = mem }) rows in
      cond_all IsRun (eqb (refusal_of base (length mem) s) 0) _ (refused_replay (refusal_of base (length mem) s) s mem)
      (cond_all IsRun (eqb (length log % 48) 0) _ (refused_replay 12 s mem)
      (cond_all IsRun (eqb (length log) 0) (refused_replay 13 s mem) (ended end) ([], refl)
      (end_run base (record { state = s; mem = mem }) rows))
      ([], refl))
      ([], refl)

  -- and one that is refused leaves what was given
  refused_stop : (t : Stop) → SmallStop t → is_replayed t ≡ false → (n : ℕ) × (t ≡ S.Refused (record { number = n; place = 0 }))
  refused_stop S.Agreed k e = let z : ⊥ = cc in absurd z
  refused_stop S.Form k e = let z : ⊥ = cc in absurd z
  refused_stop (S.Pc board model) k e = let z : ⊥ = cc in absurd z
  refused_stop (S.Word board model) k e = let z : ⊥ = cc in absurd z
  refused_stop (S.Rd board model) k e = let z : ⊥ = cc in absurd z
  refused_stop (S.Value board model) k e = let z : ⊥ = cc in absurd z
  refused_stop (S.Trap cause value) k e = let z : ⊥ = cc in absurd z
  refused_stop (S.Refused r) k e = (r.number, ap (λ (p : ℕ). S.Refused (record { number = r.number; place = p })) k.1)

  unreplayed : is_replayed (replay_of base mem s log).replayed.stop ≡ false
      → ((replay_of base mem s log).replayed.state ≡ s) × ((replay_of base mem s log).mem ≡ mem)
  unreplayed e =
      let q = refused_stop (replay_of base mem s log).replayed.stop (small_replay base mem s log) e in
      let k = refused_keeps base mem s log q.0 ((refused_exactly base mem s log q.0 0).0 q.1).1 in
      (ap (λ (a : Result). a.replayed.state) k, ap (λ (a : Result). a.mem) k)

-- an answer of 512 or more is that of a refusal
refused_code : (t : Stop) → SmallStop t → 512 ≤ stop_code t → is_replayed t ≡ false
refused_code S.Agreed k h = absurd (omega arith)
refused_code S.Form k h = absurd (omega arith)
refused_code (S.Pc board model) k h = absurd (omega arith)
refused_code (S.Word board model) k h = absurd (omega arith)
refused_code (S.Rd board model) k h = absurd (omega arith)
refused_code (S.Value board model) k h = absurd (omega arith)
refused_code (S.Trap cause value) k h = absurd (omega (arith, k))
refused_code (S.Refused r) k h = refl

-- ---- a call

module _ (log : List ℕ) (base : ℕ) (state mem told : List ℕ) (r : ℕ) (state' mem' told' : List ℕ)
    (p : ReplayedOn log base state mem told r state' mem' told') where
  abbrev result : Result
  result = replay_of base mem (state_in state) log

  -- A refused replay and a wrong size leave state and memory as they were. (A stop, which is below 512, does not.)
  pub refused_replay_stays : 512 ≤ r → (state' ≡ state) × (mem' ≡ mem)
  refused_replay_stays h =
      sized (length state) state_size (length told) 24
      (λ l k.
      let t = p.right l k in
      let f = refused_code result.replayed.stop (small_replay base mem (state_in state) log) (omega (arith, t.answer)) in (
        t.bytes ∙ ap (λ (b : Bool). state_if b state result.replayed.state) f,
        t.memory ∙ (unreplayed base mem (state_in state) log f).1,
      ))
      (λ w. ((p.wrong w).1, (p.wrong w).2))

  module _ (whole : length state ≡ state_size) (room : length told ≡ 24) (bytes : IsBytes state) where
    abbrev before : Machine
    before = record { state = state_in state; mem = mem }

    -- what holds of the bytes as they were, and of those with the state after any events put over them
    by_run : (P : List ℕ → Type 0) → (is_replayed result.replayed.stop ≡ false → P state)
        → ((es : List Event) → result.replayed.state ≡ (run_of base before es).state → P (state_over state (run_of base before es).state)) → P state'
    by_run P f g = subst P (sym (p.right whole room).bytes) (go (is_replayed result.replayed.stop) refl)
      where
        go : (b : Bool) → is_replayed result.replayed.stop ≡ b → P (state_if b state result.replayed.state)
        go true q =
            let run = replay_run base mem (state_in state) log in
            let e : result.replayed.state ≡ (run_of base before run.0).state = ap (λ (m : Machine). m.state) run.1 in
            subst (λ (s : State). P (state_over state s)) (sym e) (g run.0 e)
        go false q = f q

    -- What the bytes mean afterwards is the state of the model's replay, after exactly the rows before the stop.
    pub replay_means : IsBytes mem → state_in state' ≡ result.replayed.state
    replay_means b =
        by_run (λ (l : List ℕ). state_in l ≡ result.replayed.state) (λ f. sym (unreplayed base mem (state_in state) log f).0)
        (λ es e.
        read_back state whole (run_of base before es).state (ranged_run base before b (ranged_in state bytes) es)
        (sym (count_run base before es ∙ count_in state)) (sym (settings_run base before es ∙ settings_in_lem state))
        (λ k u l. run_res base k before es (rw (count_run base before es) at u) ∙ reservation_in_lem state k l)
        ∙ sym e)

    -- and no byte of an unused hart changes
    pub replay_unused : (h : ℕ) → (state_in state).count ≤ h → h < 8 → HartKept h state state'
    replay_unused h u l =
        by_run (HartKept h state) (λ f. same_hart h state)
        (λ es e.
        over_kept state whole bytes (run_of base before es).state (shaped_run base before (shaped_in state) es) h l (rw (count_run base before es) u)
        (λ i. run_reg base h i before es u) (run_pc base h before es u))

    -- and the count keeps its bytes
    pub replay_count : part state' 0 8 ≡ part state 0 8
    replay_count =
        by_run (λ (l : List ℕ). part l 0 8 ≡ part state 0 8) (λ f. refl)
        (λ es e. count_kept state whole (run_of base before es).state (shaped_run base before (shaped_in state) es))

    -- and so do the settings
    pub replay_settings : (b n : ℕ) → 2312 ≤ b → part state' b n ≡ part state b n
    replay_settings b n h =
        by_run (λ (l : List ℕ). part l b n ≡ part state b n) (λ f. refl)
        (λ es e. settings_kept state whole (run_of base before es).state (shaped_run base before (shaped_in state) es) b n h)
