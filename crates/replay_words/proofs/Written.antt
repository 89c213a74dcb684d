-- A log that the model writes of steps that don't trap agrees in every row, and a log that agrees is the one that the model writes. Assumes nothing;
-- that a state's numbers have 64 bits and a memory is of bytes (Ranged, IsBytes), which the first theorem asks, their types say.
use mathlib.Core.Path.{◌≡◌, refl, sym, ap, ap₂, subst, ◌∙◌}
use mathlib.Core.List.{List, [], ◌∷◌, ◌++◌}
use Prim.Native.Nat.{ℕ, zero, suc, ◌-◌, ◌*◌, ◌/◌, ◌<◌}
use native.Mathlib.Omega.{arith}
use lib.Dec.{eqb, ltb}
use borrow.Author.Tests.{eqb-true, ltb-true}
use lib.ListN.{length, take, drop, length-append, length-drop, take-append-drop}
use lib.Seq.{take_at, drop_at}
use Rattle.std.specs.Prelude.{Option, None, Some, Ok, Err}
use Rattle.word.specs.Bytes.{IsBytes}
use Rattle.word.proofs.MemoryLaws.{part_lt}
use Rattle.word.proofs.TestLaws.{bool_cases}
use Rattle.isa.specs.Narrow.{decode_at}
use Rattle.isa.proofs.NarrowLaws.{regs_at}
use Rattle.reserve.specs.Range.{Inside}
use Rattle.reserve.proofs.RangeLaws.{inside_of_lem}
use Rattle.machine.specs.State.{refusal_of}
use Rattle.machine.specs.Ranged.{Ranged}
use Rattle.machine.specs.declared.State.{State}
use Rattle.machine.proofs.StateLaws.{refusal_0}
use Rattle.effect.specs.Effect.{Exec, trap}
use Rattle.effect.specs.Execute.{reg_at}
use Rattle.effect.specs.Memory.{value_at}
use Rattle.events.specs.declared.Event.TheVariants.{Step}
use Rattle.model.specs.Perform.{Machine, xlen, fetch_of, step_of, of_exec, act_on, act_of, answer_of, outcome_at, next_of, run_of}
use Rattle.model.specs.Valid.{Valid}
use Rattle.model.specs.Act.{outcome_of}
use Rattle.model.specs.Retired.{IsRetired}
use Rattle.model.specs.declared.Outcome.TheVariants as O
use Rattle.model.proofs.Valid.{valid_next}
use Rattle.model.proofs.Frame.{count_next}
use Rattle.reach.proofs.Ranges.{ranged_answer, bytes_memory}
use Rattle.steplog.specs.Row.{row_of, Fits, reading_of}
use Rattle.steplog.specs.declared.Row.{Row}
use Rattle.steplog.proofs.RoundTrip.{length_row, row_reads_back, read_was_written}
use Rattle.reach.proofs.ReachLaws.{rd_below}
use Rattle.rows.specs.Row.{Told, pc_at, word_at, fetchable, told_of, stepped}
use Rattle.rows.specs.Replay.{readings, End, end_by, end_of, Result, ended, replay_of}
use Rattle.rows.specs.declared.Stop.TheVariants as S
use Rattle.rows.proofs.RowLaws.{step_outcome}
use Rattle.replay_words.specs.Reasons.{RowAgrees}
use Rattle.replay_words.specs.Written.{model_row, log_of, steps_of, Retiring, WrittenBy}
use Rattle.replay_words.proofs.RowWords.{AgreesAs, counted, told_agreeing, row_agrees}
use Rattle.replay_words.proofs.LogWords.{stop_number}
use Rattle.replay_words.proofs.ReplayWords.{replays, agreed_as}
use Rattle.replay_words.proofs.Cut.{Other, other}

-- ---- the rows of steps that retire fit their fields

-- a step that retires isn't refused
pub retired_valid : (base : ℕ) (m : Machine) (h : ℕ) → IsRetired (outcome_at base m (Step h)) → Valid base m × (h < m.state.count)
unfolding answer_of act_of act_on
retired_valid base m h i =
    let number = refusal_of base (length m.mem) m.state in
    let o = outcome_at base m (Step h) in
    bool_cases (eqb number 0)
    (λ r.
    bool_cases (ltb h m.state.count) (λ l. ((refusal_0 base (length m.mem) m.state).0 (eqb-true _ _ r), ltb-true _ _ l))
    (λ l. let refused : o ≡ O.Refused 3 = rw (r, l) in absurd (subst IsRetired refused i)))
    (λ r. let refused : o ≡ O.Refused number = rw r in absurd (subst IsRetired refused i))

model_fits : (base : ℕ) (m : Machine) (h : ℕ) → Ranged m.state → IsBytes m.mem → IsRetired (outcome_at base m (Step h))
    → Fits m.state.count (model_row base m h)
unfolding value_at reg_at next_of
model_fits base m h ranged bytes i =
    let v = retired_valid base m h i in
    let rd = rd_below (decode_at (xlen m) (word_at base m h)) (regs_at (xlen m) (word_at base m h)) in
    record {
      counted = v.1;
      hart = omega (arith, v.1, v.0.1.1);
      pc = ranged.pcs h;
      word = part_lt m.mem (pc_at base m h - base) 4 bytes;
      rd = omega (arith, rd);
      value = (ranged_answer base m.mem bytes m.state (Step h) ranged).registers _;
    }

-- ---- what the model writes agrees

pub length_log : (base : ℕ) (m : Machine) (hs : List ℕ) → length (log_of base m hs) ≡ length hs * 48
unfolding log_of
length_log base m [] = refl
length_log base m (h ∷ hs) =
    let row = row_of (model_row base m h) in
    let rest = log_of base (next_of base m (Step h)) hs in
    length-append row rest ∙ omega (arith, length_row (model_row base m h), length_log base (next_of base m (Step h)) hs)

model_agrees : (base : ℕ) (m : Machine) (h : ℕ) → IsRetired (outcome_at base m (Step h)) → RowAgrees base m (model_row base m h)
model_agrees base m h i = record { pc = refl; word = λ f. refl; retired = i; rd = refl; value = refl }

written_ends : (base : ℕ) (m : Machine) → Ranged m.state → IsBytes m.mem → (hs : List ℕ) → Retiring base m hs
    → end_of base m (readings m.state.count (length hs) (log_of base m hs))
    ≡ record { stop = S.Agreed; rows = length hs; machine = run_of base m (steps_of hs) }
unfolding end_of readings log_of steps_of Retiring run_of stepped next_of
written_ends base m ranged bytes [] w = refl
written_ends base m ranged bytes (h ∷ hs) w =
    let count = m.state.count in
    let r = model_row base m h in
    let next = next_of base m (Step h) in
    let log = log_of base next hs in
    let v = retired_valid base m h w.0 in
    let first : reading_of count (take 48 (row_of r ++ log)) ≡ Some r =
    ap (reading_of count) (take_at (row_of r) log 48 (length_row r)) ∙ row_reads_back count r (model_fits base m h ranged bytes w.0) in
    let behind : drop 48 (row_of r ++ log) ≡ log = drop_at (row_of r) log 48 (length_row r) in
    let told : told_of base m (Some r) ≡ Ok tt = told_agreeing base m v.0 (Some r) v.1 (model_agrees base m h w.0) in
    let same : count ≡ next.state.count = sym (count_next base m (Step h)) in
    let ranged-next = ranged_answer base m.mem bytes m.state (Step h) ranged in
    let rest = written_ends base next ranged-next (bytes_memory base m.mem bytes m.state (Step h)) hs w.1 in
    ap₂ (λ (q : Option Row) (l : List ℕ). end_of base m (q ∷ readings count (length hs) l)) first behind
    ∙ ap (λ (t : Told). end_by t m (end_of base next (readings count (length hs) log))) told
    ∙ ap (λ (k : ℕ). end_by (Ok tt) m (end_of base next (readings k (length hs) log))) same
    ∙ ap (end_by (Ok tt) m) rest

module _ (base : ℕ) (mem : List ℕ) (s : State) where
  abbrev start : Machine
  start = record { state = s; mem = mem }

  -- A log that the model writes of one step or more that don't trap agrees in every row, and leads where the steps do.
  pub written_agrees : (h : ℕ) (hs : List ℕ) → Ranged s → IsBytes mem → Retiring base start (h ∷ hs)
      → replay_of base mem s (log_of base start (h ∷ hs))
      ≡ ended (record { stop = S.Agreed; rows = length (h ∷ hs); machine = run_of base start (steps_of (h ∷ hs)) })
  unfolding Retiring
  written_agrees h hs ranged bytes w =
      let v = (retired_valid base start h w.0).0 in
      let log = log_of base start (h ∷ hs) in
      let long = length_log base start (h ∷ hs) in
      let n : length log / 48 ≡ length (h ∷ hs) = omega (arith, long) in
      replays base mem s log (record { memory = v.0; state = v.1; whole = omega (arith, long); some = omega (arith, long) })
      ∙ ap (λ (k : ℕ). ended (end_of base start (readings s.count k log))) n
      ∙ ap ended (written_ends base start ranged bytes (h ∷ hs) w)

-- ---- what agrees was written by the model

-- a step that retires was fetched
pub retired_fetched : (base : ℕ) (m : Machine) → Valid base m → (h : ℕ) → h < m.state.count → IsRetired (outcome_at base m (Step h))
    → Inside base (length m.mem) (pc_at base m h) 4
unfolding fetch_of
retired_fetched base m v h l i =
    bool_cases (fetchable base m h) (λ t. inside_of_lem base (length m.mem) (pc_at base m h) 4 t)
    (λ f.
    let traps : step_of base m.mem m.state h ≡ trap 1 (pc_at base m h) = rw f in
    absurd (subst IsRetired (step_outcome base m v h l ∙ ap (λ (e : Exec). outcome_of (of_exec h e)) traps) i))

-- a row that agrees is the model's
is_model : (base : ℕ) (m : Machine) → Valid base m → (r : Row) → r.hart < m.state.count → RowAgrees base m r → r ≡ model_row base m r.hart
is_model base m v r l a =
    let h = r.hart in
    rw (a.pc, a.word (retired_fetched base m v h l a.retired), a.rd, a.value) refl

-- rows that end agreed begin with one that agrees
agrees_first : (m : Machine) (rest : End) (t : Told) → Other t → (end_by t m rest).stop ≡ S.Agreed → t ≡ Ok tt
agrees_first m rest (Ok x) o e = refl
agrees_first m rest (Err s) o e = absurd (o (ap stop_number e))

-- one row that agrees, and the log behind it
module _ (base : ℕ) (m : Machine) (v : Valid base m) (n : ℕ) (log : List ℕ) where
  abbrev count : ℕ
  count = m.state.count

  abbrev behind : List ℕ
  behind = drop 48 log

  row_and_rest : ((m' : Machine) → Valid base m' → (end_of base m' (readings m'.state.count n behind)).stop ≡ S.Agreed → WrittenBy base m' behind)
      → (q : Option Row) → reading_of count (take 48 log) ≡ q → AgreesAs base m q
      → (end_of base (stepped base m q) (readings count n behind)).stop ≡ S.Agreed → WrittenBy base m log
  unfolding log_of Retiring stepped
  row_and_rest rec None e a x = absurd a
  row_and_rest rec (Some r) e a x =
      let h = r.hart in
      let next = next_of base m (Step h) in
      let w = read_was_written count (take 48 log) r e in
      let is = is_model base m v r w.0.counted a in
      let same_count = sym (count_next base m (Step h)) in
      let ends = subst (λ (k : ℕ). (end_of base next (readings k n behind)).stop ≡ S.Agreed) same_count x in
      let rest = rec next (valid_next base m v (Step h)) ends in
      record {
        harts = h ∷ rest.harts;
        retiring = (a.retired, rest.retiring);
        same = sym (take-append-drop 48 log) ∙ ap₂ ◌++◌ (w.1 ∙ ap row_of is) rest.same;
      }

by_model : (base : ℕ) (m : Machine) → Valid base m → (n : ℕ) (log : List ℕ) → length log ≡ n * 48
    → (end_of base m (readings m.state.count n log)).stop ≡ S.Agreed → WrittenBy base m log
unfolding end_of readings log_of Retiring
by_model base m v zero [] e a = record { harts = []; retiring = tt; same = refl }
by_model base m v zero (b ∷ log) e a = absurd (omega arith)
by_model base m v (suc n) log e a =
    let read = reading_of m.state.count (take 48 log) in
    let rest = end_of base (stepped base m read) (readings m.state.count n (drop 48 log)) in
    let left : length (drop 48 log) ≡ n * 48 = length-drop 48 log ∙ omega arith in
    let told = agrees_first m rest (told_of base m read) (other base m read) a in
    let agreeing = (row_agrees base m v read (counted m.state.count (take 48 log))).0 told in
    let ends = subst (λ (t : Told). (end_by t m rest).stop ≡ S.Agreed) told a in
    row_and_rest base m v n log (λ m' v' x. by_model base m' v' n (drop 48 log) left x) read refl agreeing ends

module _ (base : ℕ) (mem : List ℕ) (s : State) (log : List ℕ) where
  -- A log that agrees in every row is the one that the model writes of its rows' harts.
  pub agreed_was_written : (replay_of base mem s log).replayed.stop ≡ S.Agreed → WrittenBy base (record { state = s; mem = mem }) log
  agreed_was_written e =
      let ok = ((agreed_as base mem s log).0 e).0 in
      let whole : length log ≡ length log / 48 * 48 = omega (arith, ok.whole) in
      let stop = sym (ap (λ (r : Result). r.replayed.stop) (replays base mem s log ok)) ∙ e in
      by_model base (record { state = s; mem = mem }) (ok.memory, ok.state) (length log / 48) log whole stop
