-- A log cut at a row: replaying its parts one after the other, up to the one that stops, is replaying it whole, and the counts add. Assumes nothing.
use mathlib.Core.Path.{◌≡◌, refl, sym, ap, subst, ◌∙◌}
use mathlib.Core.Logic.{◌⊎◌, ⊎_elim}
use mathlib.Core.Bool.{Bool, cond, ◌&&◌, not}
use mathlib.Core.List.{List, [], ◌∷◌, ◌++◌}
use Prim.Native.Nat.{ℕ, zero, suc, ◌+◌, ◌*◌, ◌/◌, ◌%◌, ◌<◌}
use native.Mathlib.Omega.{arith}
use lib.Dec.{eqb}
use lib.ListN.{length, take, drop, length-append, length-drop}
use lib.Seq.{take-append-le, drop-append-le}
use Rattle.std.specs.Prelude.{Option, None, Some, Ok, Err}
use Rattle.word.proofs.ChooseLaws.{cond_all}
use Rattle.machine.specs.declared.State.{State}
use Rattle.events.specs.declared.Event.TheVariants.{Step}
use Rattle.model.specs.Perform.{Machine, outcome_at}
use Rattle.model.specs.Valid.{Valid}
use Rattle.model.specs.declared.Outcome.{Outcome}
use Rattle.model.specs.declared.Outcome.TheVariants as O
use Rattle.steplog.specs.Row.{reading_of}
use Rattle.steplog.specs.declared.Row.{Row}
use Rattle.rows.specs.Row.{Told, pc_at, word_at, fetchable, rd_at, value_after, told_as, told_by, told_by_step, told_by_word, told_by_pc, told_of, stepped}
use Rattle.rows.specs.Replay.{readings, End, end_by, end_of, Result, ended, replay_of, joined}
use Rattle.rows.specs.declared.Stop.{Stop}
use Rattle.rows.specs.declared.Stop.TheVariants as S
use Rattle.rows.proofs.ReplayLaws.{further, further_none}
use Rattle.replay_words.specs.Reasons.{Replayable, RefusedBy, OfRow}
use Rattle.replay_words.proofs.RowWords.{counted}
use Rattle.replay_words.proofs.LogWords.{stop_number, read_at, after_rows, valid_at, count_at}
use Rattle.replay_words.proofs.ReplayWords.{replays, agreed_as, after_count, stopped_exactly, refused_keeps, refused_agreed_or_stopped}

-- ---- no row stops a replay by saying that all agreed

abbrev pub Other : Told → Type 0
Other (Ok x) = Unit {0}
Other (Err s) = stop_number s ≡ 0 → ⊥

-- a test with such a stop on one side
else_stops : (t : Bool) (x : Told) (s : Stop) → Other x → stop_number s ≡ 1 → Other (cond t x (Err s))
else_stops t x s p e = cond_all Other t x (Err s) p (λ z. omega arith)

then_stops : (t : Bool) (x : Told) (s : Stop) → Other x → stop_number s ≡ 1 → Other (cond t (Err s) x)
then_stops t x s p e = cond_all Other t (Err s) x (λ z. omega arith) p

module _ (base : ℕ) (m : Machine) (r : Row) where
  abbrev h : ℕ
  h = r.hart

  other_shown : (d v : ℕ) → Other (told_as r d v)
  unfolding told_as
  other_shown d v = else_stops (eqb r.rd d) _ (S.Rd r.rd d) (else_stops (eqb r.value v) (Ok tt) (S.Value r.value v) tt refl) refl

  other_outcome : (o : Outcome) (d v : ℕ) → Other (told_by o r d v)
  unfolding told_by
  other_outcome (O.Trap cause value) d v = λ z. omega arith
  other_outcome (O.Refused number) d v = λ z. omega arith
  other_outcome O.Retired d v = other_shown d v
  other_outcome O.ScStored d v = other_shown d v
  other_outcome O.ScFailed d v = other_shown d v

  other_word_lem : Other (told_by_word base m r)
  unfolding told_by_word
  other_word_lem =
      then_stops (fetchable base m h && not (eqb r.word (word_at base m h))) (told_by_step base m r)
      (S.Word r.word (word_at base m h)) (other_outcome (outcome_at base m (Step h)) (rd_at base m h) (value_after base m h)) refl

  other_pc_lem : Other (told_by_pc base m r)
  unfolding told_by_pc
  other_pc_lem = else_stops (eqb r.pc (pc_at base m h)) (told_by_word base m r) (S.Pc r.pc (pc_at base m h)) other_word_lem refl

pub other : (base : ℕ) (m : Machine) (read : Option Row) → Other (told_of base m read)
unfolding told_of
other base m None = λ z. omega arith
other base m (Some r) = other_pc_lem base m r

-- ---- rows, and more rows

end_append : (base : ℕ) (m : Machine) (rs more : List (Option Row)) → (end_of base m rs).stop ≡ S.Agreed
    → end_of base m (rs ++ more) ≡ further (end_of base m rs).rows (end_of base (end_of base m rs).machine more)
unfolding end_of
end_append base m [] more e = sym (further_none (end_of base m more))
end_append base m (r ∷ rs) more e = go (told_of base m r) (other base m r) (λ a. end_append base (stepped base m r) rs more a) e
  where
    next : Machine
    next = stepped base m r

    go : (t : Told) → Other t
        → ((end_of base next rs).stop ≡ S.Agreed
        → end_of base next (rs ++ more) ≡ further (end_of base next rs).rows (end_of base (end_of base next rs).machine more))
        → (end_by t m (end_of base next rs)).stop ≡ S.Agreed
        → end_by t m (end_of base next (rs ++ more))
        ≡ further (end_by t m (end_of base next rs)).rows (end_of base (end_by t m (end_of base next rs)).machine more)
    go (Ok x) o rest e =
        let x = end_of base next rs in
        let y = end_of base x.machine more in
        let count : suc (x.rows + y.rows) ≡ suc x.rows + y.rows = omega arith in
        ap (end_by (Ok tt) m) (rest e) ∙ ap (λ (k : ℕ). record { stop = y.stop; rows = k; machine = y.machine }) count
    go (Err s) o rest e = absurd (o (ap stop_number e))

-- rows that stop are told alike with more rows behind them
end_stop_append : (base : ℕ) (m : Machine) (rs more : List (Option Row)) → ((end_of base m rs).stop ≡ S.Agreed → ⊥)
    → end_of base m (rs ++ more) ≡ end_of base m rs
unfolding end_of
end_stop_append base m [] more n = absurd (n refl)
end_stop_append base m (r ∷ rs) more n = go (told_of base m r) (λ x. end_stop_append base (stepped base m r) rs more x) n
  where
    next : Machine
    next = stepped base m r

    go : (t : Told) → (((end_of base next rs).stop ≡ S.Agreed → ⊥) → end_of base next (rs ++ more) ≡ end_of base next rs)
        → ((end_by t m (end_of base next rs)).stop ≡ S.Agreed → ⊥) → end_by t m (end_of base next (rs ++ more)) ≡ end_by t m (end_of base next rs)
    go (Ok u) rest x = ap (end_by (Ok tt) m) (rest x)
    go (Err s) rest x = refl

readings-append : (count n more : ℕ) (a b : List ℕ) → length a ≡ n * 48
    → readings count (n + more) (a ++ b) ≡ readings count n a ++ readings count more b
unfolding readings
readings-append count zero more [] b e = let z : 0 + more ≡ more = omega arith in ap (λ (k : ℕ). readings count k b) z
readings-append count zero more (x ∷ a) b e = absurd (omega arith)
readings-append count (suc n) more a b e =
    let front : take 48 (a ++ b) ≡ take 48 a = take-append-le 48 a b (omega arith) in
    let back : drop 48 (a ++ b) ≡ drop 48 a ++ b = drop-append-le 48 a b (omega arith) in
    let left : length (drop 48 a) ≡ n * 48 = length-drop 48 a ∙ omega arith in
    let all : suc n + more ≡ suc (n + more) = omega arith in
    rw (all, front, back) (ap (λ (l : List (Option Row)). reading_of count (take 48 a) ∷ l) (readings-append count n more (drop 48 a) b left))

-- ---- a log and its parts

module _ (base : ℕ) (mem : List ℕ) (s : State) (a b : List ℕ) where
  abbrev first : Result
  first = replay_of base mem s a

  -- the second part, from where the first one ended
  abbrev second : Result
  second = replay_of base first.mem first.replayed.state b

  abbrev start : Machine
  start = record { state = s; mem = mem }

  -- the rows of the whole are those of both parts
  both_parts : Replayable base mem s a → length b % 48 ≡ 0
      → replay_of base mem s (a ++ b)
      ≡ ended (end_of base start (readings s.count (length a / 48) a ++ readings s.count (length b / 48) b))
  both_parts ok whole =
      let long = length-append a b in
      let n = length a / 48 in
      let size : length (a ++ b) % 48 ≡ 0 = omega (arith, long, ok.whole, whole) in
      let more : 0 < length (a ++ b) = omega (arith, long, ok.some) in
      let rows : length (a ++ b) / 48 ≡ n + length b / 48 = omega (arith, long, ok.whole, whole) in
      let fits : length a ≡ n * 48 = omega (arith, ok.whole) in
      replays base mem s (a ++ b) (record { memory = ok.memory; state = ok.state; whole = size; some = more })
      ∙ ap (λ (k : ℕ). ended (end_of base start (readings s.count k (a ++ b)))) rows
      ∙ ap (λ (l : List (Option Row)). ended (end_of base start l)) (readings-append s.count n (length b / 48) a b fits)

  -- Where the first part stops at a row, the whole is told as that part is, whatever rows are behind it.
  module _ (o : OfRow first.replayed.stop) (whole : length b % 48 ≡ 0) where
    stopped_ok : Replayable base mem s a
    stopped_ok =
        ⊎_elim
        (λ (n : (number : ℕ) × RefusedBy base mem s a number).
        absurd (subst (λ (x : Result). OfRow x.replayed.stop) (refused_keeps base mem s a n.0 n.1) o))
        (λ (f : Ended). ⊎_elim (λ (x : EndsAgreed). absurd (subst (λ (q : Result). OfRow q.replayed.stop) x.1 o))
        (λ (x : EndsStopped). ((stopped_exactly base mem s a x.0 x.1 x.2).0 (x.4, x.3)).0) f)
        (refused_agreed_or_stopped base mem s a)
      where
        EndsAgreed : Type 0
        EndsAgreed = (m' : Machine) × (first ≡ ended (record { stop = S.Agreed; rows = length a / 48; machine = m' }))

        EndsStopped : Type 0
        EndsStopped = (k : ℕ) × (t : Stop) × (m' : Machine) × OfRow t × (first ≡ ended (record { stop = t; rows = k; machine = m' }))

        Ended : Type 0
        Ended = EndsAgreed ⊎ EndsStopped

    pub cut_after_stop : replay_of base mem s (a ++ b) ≡ first
    cut_after_stop =
        let is = replays base mem s a stopped_ok in
        let stops : (end_of base start (readings s.count (length a / 48) a)).stop ≡ S.Agreed → ⊥ =
        λ z. subst OfRow (ap (λ (x : Result). x.replayed.stop) is ∙ z) o in
        both_parts stopped_ok whole ∙ ap ended (end_stop_append base start _ _ stops) ∙ sym is

  -- 02 [1]: "The count is the number of rows before the stop". The first part agreed, and the second one is of whole rows and not empty
  module _ (agreed : first.replayed.stop ≡ S.Agreed) (whole : length b % 48 ≡ 0) (some : 0 < length b) where
    ok : Replayable base mem s a
    ok = ((agreed_as base mem s a).0 agreed).0

    abbrev e : End
    e = end_of base start (readings s.count (length a / 48) a)

    is_first : first ≡ ended e
    is_first = replays base mem s a ok

    -- the machine between them
    between : record { state = first.replayed.state; mem = first.mem } ≡ e.machine
    between = ap (λ (x : Result). record { state = x.replayed.state; mem = x.mem }) is_first

    at_end : e.machine ≡ after_rows base start (read_at s.count a) first.replayed.rows
    at_end = sym between ∙ (after_count base mem s a ok).1

    valid_end : Valid base e.machine
    valid_end = subst (Valid base) (sym at_end) (valid_at base start (ok.memory, ok.state) (read_at s.count a) (λ j. counted s.count _) _)

    count_end : e.machine.state.count ≡ s.count
    count_end =
        ap (λ (m : Machine). m.state.count) at_end ∙ count_at base start (ok.memory, ok.state) (read_at s.count a) (λ j. counted s.count _) _

    -- the second part, from that machine
    is_second : second ≡ ended (end_of base e.machine (readings s.count (length b / 48) b))
    is_second =
        let m : Machine = record { state = first.replayed.state; mem = first.mem } in
        let v = subst (Valid base) (sym between) valid_end in
        let count = ap (λ (x : Machine). x.state.count) between ∙ count_end in
        replays base m.mem m.state b (record { memory = v.0; state = v.1; whole = whole; some = some })
        ∙ ap (λ (x : Machine). ended (end_of base x (readings m.state.count (length b / 48) b))) between
        ∙ ap (λ (k : ℕ). ended (end_of base e.machine (readings k (length b / 48) b))) count

    is_whole : replay_of base mem s (a ++ b) ≡ ended (further e.rows (end_of base e.machine (readings s.count (length b / 48) b)))
    is_whole =
        let stop : e.stop ≡ S.Agreed = sym (ap (λ (x : Result). x.replayed.stop) is_first) ∙ agreed in
        both_parts ok whole
        ∙ ap ended (end_append base start (readings s.count (length a / 48) a) (readings s.count (length b / 48) b) stop)

    -- Replaying the parts one after the other is replaying the whole; the counts add.
    pub cut_at_row : replay_of base mem s (a ++ b) ≡ joined first.replayed.rows second
    cut_at_row =
        let rest = ended (end_of base e.machine (readings s.count (length b / 48) b)) in
        is_whole ∙ ap (λ (x : Result). joined x.replayed.rows rest) (sym is_first)
        ∙ ap (joined first.replayed.rows) (sym is_second)
