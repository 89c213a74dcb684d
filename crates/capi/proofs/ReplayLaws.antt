-- The numbers of a replay are small, and what is written is what an answer says. Assumes nothing.
use Rattle.std.specs.Prelude.{Option, Some, None, Ok, Err}
use mathlib.Core.Path.{◌≡◌, refl, ◌∙◌}
use mathlib.Core.Bool.{Bool, ◌&&◌, not}
use mathlib.Core.List.{List, [], ◌∷◌}
use Prim.Native.Nat.{ℕ, ◌/◌, ◌%◌}
use native.Mathlib.Omega.{arith}
use lib.Dec.{eqb}
use lib.ListN.{length}
use Rattle.word.proofs.ChooseLaws.{cond_all}
use Rattle.machine.specs.State.{refusal_of}
use Rattle.machine.specs.declared.State.{State}
use Rattle.events.specs.declared.Event.TheVariants.{Step}
use Rattle.model.specs.Perform.{Machine, outcome_at}
use Rattle.model.specs.declared.Outcome.{Outcome}
use Rattle.model.specs.declared.Outcome.TheVariants as O
use Rattle.steplog.specs.declared.Row.{Row}
use Rattle.rows.specs.Row.{Told, pc_at, word_at, fetchable, rd_at, value_after, told_as, told_by, told_by_word, told_by_pc, told_of, stepped}
use Rattle.rows.specs.Replay.{readings, End, end_by, end_of, Result, ended, refused_replay, replay_of}
use Rattle.rows.specs.declared.Stop.TheVariants as S
use Rattle.rows.specs.declared.Replayed.{Replayed}
use Rattle.capi.specs.Events.{state_if, Small}
use Rattle.capi.specs.Replay.{is_replayed, SmallStop}
use Rattle.capi.proofs.EventLaws.{small_answer, small_refusal}

-- ---- the numbers are small

abbrev SmallTold : Told → Type 0
SmallTold (Ok x) = Unit {0}
SmallTold (Err s) = SmallStop s

module _ (base : ℕ) (m : Machine) (r : Row) where
  abbrev h : ℕ
  h = r.hart

  small_shown : (d v : ℕ) → SmallTold (told_as r d v)
  unfolding told_as
  small_shown d v =
      cond_all SmallTold (eqb r.rd d) _ (Err (S.Rd r.rd d))
      (cond_all SmallTold (eqb r.value v) (Ok tt) (Err (S.Value r.value v)) tt tt) tt

  small_outcome : (o : Outcome) → Small o → (d v : ℕ) → SmallTold (told_by o r d v)
  unfolding told_by
  small_outcome (O.Trap cause value) k d v = k
  small_outcome (O.Refused number) k d v = (omega arith, refl)
  small_outcome O.Retired k d v = small_shown d v
  small_outcome O.ScStored k d v = small_shown d v
  small_outcome O.ScFailed k d v = small_shown d v

  small_pc : SmallTold (told_by_pc base m r)
  unfolding told_by_pc told_by_word
  small_pc =
      cond_all SmallTold (eqb r.pc (pc_at base m h)) _ (Err (S.Pc r.pc (pc_at base m h)))
      (cond_all SmallTold (fetchable base m h && not (eqb r.word (word_at base m h))) (Err (S.Word r.word (word_at base m h))) _ tt
      (small_outcome (outcome_at base m (Step h)) (small_answer base m.mem m.state (Step h)) (rd_at base m h) (value_after base m h))) tt

small_told : (base : ℕ) (m : Machine) (read : Option Row) → SmallTold (told_of base m read)
unfolding told_of
small_told base m None = tt
small_told base m (Some r) = small_pc base m r

small_end : (base : ℕ) (m : Machine) (rs : List (Option Row)) → SmallStop (end_of base m rs).stop
unfolding end_of
small_end base m [] = tt
small_end base m (r ∷ rs) = go (told_of base m r) (small_told base m r) (end_of base (stepped base m r) rs) (small_end base (stepped base m r) rs)
  where
    go : (t : Told) → SmallTold t → (rest : End) → SmallStop rest.stop → SmallStop (end_by t m rest).stop
    go (Ok x) k rest e = e
    go (Err s) k rest e = k

module _ (base : ℕ) (mem : List ℕ) (s : State) (log : List ℕ) where
  abbrev SmallResult : Result → Type 0
  SmallResult a = SmallStop a.replayed.stop

  pub small_replay : SmallResult (replay_of base mem s log)
  unfolding replay_of
  small_replay =
      let end = end_of base (record { state = s; mem = mem }) (readings s.count (length log / 48) log) in
      cond_all SmallResult (eqb (refusal_of base (length mem) s) 0) _ (refused_replay (refusal_of base (length mem) s) s mem)
      (cond_all SmallResult (eqb (length log % 48) 0) _ (refused_replay 12 s mem)
      (cond_all SmallResult (eqb (length log) 0) (refused_replay 13 s mem) (ended end) (omega arith, refl)
      (small_end base (record { state = s; mem = mem }) (readings s.count (length log / 48) log)))
      (omega arith, refl))
      (omega (arith, small_refusal base mem s), refl)

-- ---- what is written

-- the bytes of a state written if a flag says so, where the flag and the state are those of an answer
pub replay_written : (state : List ℕ) (a b : Replayed) → a ≡ b → (t : Bool) → t ≡ is_replayed a.stop → (new : List ℕ)
    → new ≡ state_if t state a.state → new ≡ state_if (is_replayed b.stop) state b.state
replay_written state a b p t f new e = e ∙ rw (f, p)
