-- Replays of a log from states that differ at most in unused harts end alike. Assumes nothing.
use mathlib.Core.Path.{◌≡◌, refl, sym, ap, ap₂, subst, ◌∙◌}
use mathlib.Core.Bool.{Bool, cond, ◌&&◌, not}
use mathlib.Core.List.{List}
use Prim.Native.Nat.{ℕ, zero, suc, ◌/◌, ◌%◌, ◌<◌}
use lib.Dec.{eqb}
use lib.ListN.{length, take, drop}
use Rattle.std.specs.Prelude.{Option, None, Some, Ok, Err}
use Rattle.word.proofs.TestLaws.{bool_cases}
use Rattle.reserve.specs.Range.{inside_of}
use Rattle.settings.specs.Settings.{xlen_of}
use Rattle.machine.specs.Rules.{Shaped}
use Rattle.machine.specs.State.{refusal_of}
use Rattle.machine.specs.declared.State.{State}
use Rattle.isa.specs.Narrow.{decode_at}
use Rattle.effect.specs.Execute.{reg_at}
use Rattle.effect.specs.Memory.{value_at}
use Rattle.events.specs.declared.Event.TheVariants.{Step}
use Rattle.model.specs.Agree.{Agree, Alike}
use Rattle.model.specs.Perform.{Machine, outcome_at, next_of}
use Rattle.model.specs.declared.Reply.{Reply}
use Rattle.model.specs.declared.Outcome.{Outcome}
use Rattle.model.proofs.Agree.{refusal_agree, alike_next}
use Rattle.model.proofs.Frame.{count_next, shaped_next}
use Rattle.steplog.specs.Row.{reading_of}
use Rattle.steplog.specs.declared.Row.{Row}
use Rattle.reach.specs.Rd.{shown_rd}
use Rattle.rows.specs.Row.{Told, pc_at, word_at, fetchable, rd_at, value_after, told_by, told_by_word, told_by_pc, told_of, stepped}
use Rattle.rows.specs.Replay.{readings, End, end_by, end_of, ended, refused_replay, replay_of}
use Rattle.rows.specs.declared.Stop.TheVariants as S
use Rattle.rows.proofs.ReplayLaws.{count_stepped}
use Rattle.replay_words.specs.Alike.{AlikeReplays}
use Rattle.replay_words.proofs.RowWords.{Counted, counted}

-- what is told of a row, by what the model has for it
abbrev told : Row → ℕ → Bool → ℕ → Outcome → ℕ → ℕ → Told
told r pc fetched word o d v =
    cond (eqb r.pc pc) (cond (fetched && not (eqb r.word word)) (Err (S.Word r.word word)) (told_by o r d v)) (Err (S.Pc r.pc pc))

module _ (base : ℕ) (m n : Machine) (p : Shaped m.state) (q : Shaped n.state) (a : Alike m n) where
  module _ (r : Row) (l : r.hart < m.state.count) where
    abbrev h : ℕ
    h = r.hart

    same_pc : pc_at base m h ≡ pc_at base n h
    same_pc = a.states.pcs h l

    same_word : word_at base m h ≡ word_at base n h
    same_word = ap₂ (λ (mem : List ℕ) (pc : ℕ). value_at base mem pc 4) a.memory same_pc

    same_fetched : fetchable base m h ≡ fetchable base n h
    same_fetched = ap₂ (λ (mem : List ℕ) (pc : ℕ). inside_of base (length mem) pc 4) a.memory same_pc

    same_rd : rd_at base m h ≡ rd_at base n h
    same_rd = ap₂ (λ (k w : ℕ). shown_rd (decode_at k w)) (ap xlen_of a.states.settings) same_word

    same_value : value_after base m h ≡ value_after base n h
    same_value =
        let below : h < (next_of base m (Step h)).state.count = rw (count_next base m (Step h)) l in
        (alike_next base m n p q a (Step h)).1.states.registers h below (rd_at base m h)
        ∙ ap (reg_at (next_of base n (Step h)).state.x h) same_rd

    row_alike : told_by_pc base m r ≡ told_by_pc base n r
    unfolding told_by_pc told_by_word
    row_alike =
        let o = outcome_at base m (Step h) in
        ap₂ (λ (pc : ℕ) (f : Bool). told r pc f (word_at base m h) o (rd_at base m h) (value_after base m h)) same_pc same_fetched
        ∙ ap₂ (λ (w : ℕ) (x : Outcome). told r (pc_at base n h) (fetchable base n h) w x (rd_at base m h) (value_after base m h)) same_word
        (ap (λ (y : Reply). y.outcome) (alike_next base m n p q a (Step h)).0)
        ∙ ap₂ (λ (d v : ℕ). told r (pc_at base n h) (fetchable base n h) (word_at base n h) (outcome_at base n (Step h)) d v) same_rd same_value

  told_alike : (read : Option Row) → Counted m.state.count read → told_of base m read ≡ told_of base n read
  unfolding told_of
  told_alike None l = refl
  told_alike (Some r) l = row_alike r l

  -- the machines after the row
  stepped_alike : (read : Option Row) → Alike (stepped base m read) (stepped base n read)
  unfolding stepped
  stepped_alike None = a
  stepped_alike (Some r) = (alike_next base m n p q a (Step r.hart)).1

shaped_stepped : (base : ℕ) (m : Machine) → Shaped m.state → (read : Option Row) → Shaped (stepped base m read).state
unfolding stepped
shaped_stepped base m p None = p
shaped_stepped base m p (Some r) = shaped_next base m (Step r.hart) p

-- where rows end
pub record EndAlike (d e : End) : Type 0 where
  pub stop : d.stop ≡ e.stop
  pub rows : d.rows ≡ e.rows
  pub machines : Alike d.machine e.machine

one_more : (t : Told) (m n : Machine) → Alike m n → (d e : End) → EndAlike d e → EndAlike (end_by t m d) (end_by t n e)
one_more (Ok u) m n a d e x = record { stop = x.stop; rows = ap suc x.rows; machines = x.machines }
one_more (Err s) m n a d e x = record { stop = refl; rows = refl; machines = a }

end_alike : (base count k : ℕ) (log : List ℕ) (m n : Machine) → count ≡ m.state.count → Shaped m.state → Shaped n.state → Alike m n
    → EndAlike (end_of base m (readings count k log)) (end_of base n (readings count k log))
unfolding end_of readings
end_alike base count zero log m n c p q a = record { stop = refl; rows = refl; machines = a }
end_alike base count (suc k) log m n c p q a =
    let read = reading_of count (take 48 log) in
    let first = told_alike base m n p q a read (subst (λ (j : ℕ). Counted j read) c (counted count (take 48 log))) in
    let m' = stepped base m read in
    let n' = stepped base n read in
    let rest = end_alike base count k (drop 48 log) m' n' (c ∙ sym (count_stepped base m read)) (shaped_stepped base m p read) (shaped_stepped base n q read)
    (stepped_alike base m n p q a read) in
    subst (λ (t : Told). EndAlike (end_by (told_of base m read) m (end_of base m' (readings count k (drop 48 log))))
    (end_by t n (end_of base n' (readings count k (drop 48 log))))) first
    (one_more (told_of base m read) m n a _ _ rest)

module _ (base : ℕ) (mem : List ℕ) (s t : State) (a : Agree s t) (p : Shaped s) (q : Shaped t) (log : List ℕ) where
  abbrev m : Machine
  m = record { state = s; mem = mem }

  abbrev n : Machine
  n = record { state = t; mem = mem }

  refused_alike : (number : ℕ) → AlikeReplays (refused_replay number s mem) (refused_replay number t mem)
  refused_alike number = record { stop = refl; rows = refl; memory = refl; states = a }

  rows_alike : AlikeReplays (ended (end_of base m (readings s.count (length log / 48) log))) (ended (end_of base n (readings t.count (length log / 48) log)))
  rows_alike =
      let x = end_alike base s.count (length log / 48) log m n refl p q (record { memory = refl; states = a }) in
      subst (λ (c : ℕ). AlikeReplays (ended (end_of base m (readings s.count (length log / 48) log))) (ended (end_of base n (readings c (length log / 48) log))))
      a.counts (record { stop = x.stop; rows = x.rows; memory = x.machines.memory; states = x.machines.states })

  -- The states differ at most in unused harts: so the replays end alike.
  pub replay_alike : AlikeReplays (replay_of base mem s log) (replay_of base mem t log)
  unfolding replay_of
  replay_alike =
      rw (← refusal_agree base (length mem) s t a)
      (bool_cases (eqb (refusal_of base (length mem) s) 0)
      (λ y.
      rw y
      (bool_cases (eqb (length log % 48) 0)
      (λ w. rw w (bool_cases (eqb (length log) 0) (λ z. rw z (refused_alike 13)) (λ z. rw z rows_alike)))
      (λ w. rw w (refused_alike 12))))
      (λ y. rw y (refused_alike (refusal_of base (length mem) s))))
