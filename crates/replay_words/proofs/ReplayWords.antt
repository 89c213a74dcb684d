-- A replay: refused by 1, 2, 12 or 13, or it ends as 02 [1] says. Assumes nothing.
use mathlib.Core.Path.{◌≡◌, refl, sym, ap, subst, ◌∙◌}
use mathlib.Core.Logic.{◌↔◌, ◌⊎◌, inl, inr, ⊎_elim}
use mathlib.Core.List.{List}
use Prim.Native.Nat.{ℕ, zero, suc, ◌/◌, ◌%◌, ◌<◌, ◌≤◌}
use native.Mathlib.Omega.{arith}
use lib.Dec.{eqb}
use lib.ListN.{length}
use borrow.Author.Tests.{eq-eqb, ne_eqb, eqb-true, eqb-false}
use Rattle.std.specs.Prelude.{Option, None, Some}
use Rattle.word.proofs.TestLaws.{bool_cases, not_zero}
use Rattle.word.proofs.WordLaws.{split_lt}
use Rattle.refusal.specs.declared.Refusal.{Refusal}
use Rattle.machine.specs.State.{memory_ok, state_ok, refusal_of}
use Rattle.machine.specs.Rules.{MemoryRules, StateRules}
use Rattle.machine.specs.declared.State.{State}
use Rattle.machine.proofs.StateLaws.{refusal_0, refusal_1, refusal_2}
use Rattle.model.specs.Perform.{Machine, next_of}
use Rattle.model.specs.Valid.{Valid}
use Rattle.events.specs.declared.Event.TheVariants.{Step}
use Rattle.steplog.specs.Row.{IsRow}
use Rattle.steplog.specs.declared.Row.{Row}
use Rattle.steplog.proofs.RoundTrip.{is_row_lem, no_row_lem}
use Rattle.rows.specs.Row.{stepped}
use Rattle.rows.specs.Replay.{End, readings, end_of, Result, ended, refused_replay, replay_of}
use Rattle.rows.specs.declared.Stop.{Stop}
use Rattle.rows.specs.declared.Stop.TheVariants as S
use Rattle.replay_words.specs.Reasons.{RowAgrees, row_bytes, Agreeing, Stopping, no_row, is_row, AgreeTo, Replayable, RefusedBy, memory, state, cut, empty, OfRow}
use Rattle.replay_words.proofs.RowWords.{AgreesAs, StopsAs, Counted, counted}
use Rattle.replay_words.proofs.LogWords.{stop_number, stopping_number, read_at, after_rows, AgreeBefore, rows_from, rows_are, count_at, ends_agreed, ends_stopped, ends}

of_row : (t : Stop) → OfRow t → stop_number t ≡ 1
of_row S.Agreed o = absurd o
of_row S.Form o = refl
of_row (S.Pc board model) o = refl
of_row (S.Word board model) o = refl
of_row (S.Trap cause value) o = refl
of_row (S.Rd board model) o = refl
of_row (S.Value board model) o = refl
of_row (S.Refused r) o = absurd o

row_of : (t : Stop) → stop_number t ≡ 1 → OfRow t
row_of S.Agreed o = absurd (omega arith)
row_of S.Form o = tt
row_of (S.Pc board model) o = tt
row_of (S.Word board model) o = tt
row_of (S.Trap cause value) o = tt
row_of (S.Rd board model) o = tt
row_of (S.Value board model) o = tt
row_of (S.Refused r) o = absurd (omega arith)

module _ (base : ℕ) (mem : List ℕ) (s : State) (log : List ℕ) where
  -- the machine before the first row, the rows, and how many there are
  abbrev start : Machine
  start = record { state = s; mem = mem }

  abbrev row : ℕ → Option Row
  row = read_at s.count log

  abbrev all : ℕ
  all = length log / 48

  abbrev at : ℕ → Machine
  at k = after_rows base start row k

  abbrev r : Result
  r = replay_of base mem s log

  abbrev end : Stop → ℕ → Machine → End
  end t k m = record { stop = t; rows = k; machine = m }

  -- ---- refused or replayed

  pub replays : Replayable base mem s log → r ≡ ended (end_of base start (readings s.count all log))
  unfolding replay_of
  replays ok =
      let none = (refusal_0 base (length mem) s).1 (ok.memory, ok.state) in
      rw (none, eq-eqb (length log % 48) 0 ok.whole, ne_eqb (length log) 0 (λ z. omega (arith, ok.some)))

  refuses : (number : ℕ) → RefusedBy base mem s log number → r ≡ refused_replay number s mem
  unfolding replay_of
  refuses number (memory e n) = rw ((refusal_1 base (length mem) s).1 n, e) refl
  refuses number (state e mr n) = rw ((refusal_2 base (length mem) s).1 (mr, n), e) refl
  refuses number (cut e mr sr n) = rw ((refusal_0 base (length mem) s).1 (mr, sr), ne_eqb (length log % 48) 0 n, e) refl
  refuses number (empty e mr sr n) =
      rw ((refusal_0 base (length mem) s).1 (mr, sr), eq-eqb (length log % 48) 0 (ap (λ (k : ℕ). k % 48) n), eq-eqb (length log) 0 n, e) refl

  abbrev IsRefused : Type 0
  IsRefused = (number : ℕ) × RefusedBy base mem s log number

  replayable_or_not : Replayable base mem s log ⊎ IsRefused
  unfolding refusal_of
  replayable_or_not =
      bool_cases (memory_ok s.settings base (length mem))
      (λ m. bool_cases (state_ok base (length mem) s) (λ t. by_log ((refusal_0 base (length mem) s).0 (rw (m, t) refl)))
      (λ f. let p = (refusal_2 base (length mem) s).0 (rw (m, f) refl) in inr (2, state refl p.0 p.1)))
      (λ f. inr (1, memory refl ((refusal_1 base (length mem) s).0 (rw f refl))))
    where
      by_log : MemoryRules s.settings base (length mem) × StateRules base (length mem) s → Replayable base mem s log ⊎ IsRefused
      by_log p =
          bool_cases (eqb (length log % 48) 0)
          (λ w. bool_cases (eqb (length log) 0) (λ z. inr (13, empty refl p.0 p.1 (eqb-true (length log) 0 z)))
          (λ z. let some : 0 < length log = not_zero (length log) (eqb-false (length log) 0 z) in
          inl (record { memory = p.0; state = p.1; whole = eqb-true (length log % 48) 0 w; some = some })))
          (λ w. inr (12, cut refl p.0 p.1 (eqb-false (length log % 48) 0 w)))

  -- ---- the claims

  module _ (ok : Replayable base mem s log) where
    rows_of_log : r ≡ ended (end_of base start (rows_from row 0 all))
    rows_of_log = replays ok ∙ ap (λ (l : List (Option Row)). ended (end_of base start l)) (rows_are s.count log 0 all)

    is_counted : (j : ℕ) → Counted s.count (row j)
    is_counted j = counted s.count _

    -- where all rows agree
    pub all_agree : AgreeBefore base start row all → r ≡ ended (end S.Agreed all (at all))
    all_agree a = rows_of_log ∙ ap ended (ends_agreed base start (ok.memory, ok.state) row is_counted all a)

    -- where row k is the first that doesn't
    pub first_stop : (k : ℕ) → k < all → AgreeBefore base start row k → (t : Stop) → StopsAs base (at k) (row k) t → r ≡ ended (end t k (at k))
    first_stop k b a t f = rows_of_log ∙ ap ended (ends_stopped base start (ok.memory, ok.state) row is_counted all k b a t f)

    pub one_of_both : AgreeBefore base start row all
        ⊎ ((k : ℕ) × (t : Stop) × (k < all) × AgreeBefore base start row k × StopsAs base (at k) (row k) t)
    one_of_both = ends base start (ok.memory, ok.state) row is_counted all

  abbrev machine_in : Result → Machine
  machine_in x = record { state = x.replayed.state; mem = x.mem }

  stop_in_lem : {e : Result} → r ≡ e → r.replayed.stop ≡ e.replayed.stop
  stop_in_lem q = ap (λ (x : Result). x.replayed.stop) q

  -- two answers whose stops are of another kind
  differ : {P : Type 0} {t u : Stop} → t ≡ u → (a b : ℕ) → stop_number t ≡ a → stop_number u ≡ b → (a ≡ b → ⊥) → P
  differ q a b x y n = absurd (n (sym x ∙ ap stop_number q ∙ y))

  -- in terms of readings: a replay says that all rows agreed exactly if it isn't refused and every row agrees
  pub agreed_as : (r.replayed.stop ≡ S.Agreed) ↔ (Replayable base mem s log × AgreeBefore base start row all)
  agreed_as = (
    λ e. ⊎_elim
        (λ (ok : Replayable base mem s log).
        ⊎_elim (λ (a : AgreeBefore base start row all). (ok, a))
        (λ (f : (k : ℕ) × (t : Stop) × (k < all) × AgreeBefore base start row k × StopsAs base (at k) (row k) t).
        differ (sym e ∙ stop_in_lem (first_stop ok f.0 f.2 f.3 f.1 f.4)) 0 1 refl (stopping_number base (at f.0) (row f.0) f.1 f.4)
        (λ z. omega arith))
        (one_of_both ok))
        (λ (n : IsRefused). differ (sym e ∙ stop_in_lem (refuses n.0 n.1)) 0 2 refl refl (λ z. omega arith)) replayable_or_not,
    λ p. stop_in_lem (all_agree p.0 p.1),
  )

  -- Not refused, it has the state and the memory after exactly the rows that it counts.
  pub after_count : Replayable base mem s log → (r.replayed.rows ≤ all) × (record { state = r.replayed.state; mem = r.mem } ≡ at r.replayed.rows)
  after_count ok =
      ⊎_elim
      (λ (a : AgreeBefore base start row all). rw (all_agree ok a) (omega arith, refl))
      (λ (f : (j : ℕ) × (u : Stop) × (j < all) × AgreeBefore base start row j × StopsAs base (at j) (row j) u).
      rw (first_stop ok f.0 f.2 f.3 f.1 f.4) (omega (arith, f.2), refl))
      (one_of_both ok)

  -- ---- in words

  -- row k as it reads, and its bytes
  abbrev bytes : ℕ → List ℕ
  bytes k = row_bytes log k

  module _ (v : Valid base start) where
    same_count : (k : ℕ) → (at k).state.count ≡ s.count
    same_count k = count_at base start v row (λ j. counted s.count _) k

    read_is : (k : ℕ) (q : Row) → row k ≡ Some q → IsRow (at k).state.count (bytes k) q
    read_is k q e = subst (λ (c : ℕ). IsRow c (bytes k) q) (sym (same_count k)) ((is_row_lem s.count (bytes k) q).0 e)

    is_read : (k : ℕ) (q : Row) → IsRow (at k).state.count (bytes k) q → row k ≡ Some q
    is_read k q i = (is_row_lem s.count (bytes k) q).1 (subst (λ (c : ℕ). IsRow c (bytes k) q) (same_count k) i)

    stops_words : (k : ℕ) (t : Stop) → StopsAs base (at k) (row k) t → Stopping base (at k) (bytes k) t
    stops_words k t = go (row k) refl
      where
        go : (q : Option Row) → row k ≡ q → StopsAs base (at k) q t → Stopping base (at k) (bytes k) t
        go None e f = no_row f (λ x i. let none : None ≡ Some x = sym e ∙ is_read k x i in cc)
        go (Some x) e f = is_row x (read_is k x e) f

    words_stop : (k : ℕ) (t : Stop) → Stopping base (at k) (bytes k) t → StopsAs base (at k) (row k) t
    words_stop k t (no_row e n) =
        let form = (no_row_lem s.count (bytes k)).1 (λ x i. n x (read_is k x ((is_row_lem s.count (bytes k) x).1 i))) in
        subst (λ (q : Option Row). StopsAs base (at k) q t) (sym form) e
    words_stop k t (is_row x i f) = subst (λ (q : Option Row). StopsAs base (at k) q t) (sym (is_read k x i)) f

    -- a row that agrees, and where its step leads
    one_agrees : (k : ℕ) → AgreesAs base (at k) (row k) → (a : Agreeing base (at k) (bytes k)) × (at (suc k) ≡ next_of base (at k) (Step a.row.hart))
    unfolding after_rows stepped
    one_agrees k = go (row k) refl
      where
        go : (q : Option Row) → row k ≡ q → AgreesAs base (at k) q
            → (a : Agreeing base (at k) (bytes k)) × (stepped base (at k) (row k) ≡ next_of base (at k) (Step a.row.hart))
        go None e a = absurd a
        go (Some x) e a = (record { row = x; is = read_is k x e; agrees = a }, ap (stepped base (at k)) e)

    agree_to : (k : ℕ) → AgreeBefore base start row k → AgreeTo base start log k (at k)
    unfolding AgreeTo after_rows
    agree_to zero a = refl
    agree_to (suc k) a =
        let one = one_agrees k (a k (omega arith)) in
        (at k, one.0, agree_to k (λ j b. a j (omega arith)), one.1)

    to_agree : (k : ℕ) (m' : Machine) → AgreeTo base start log k m' → AgreeBefore base start row k × (m' ≡ at k)
    unfolding AgreeTo after_rows stepped
    to_agree zero m' e = (λ j b. absurd (omega arith), e)
    to_agree (suc k) m' (here, a, before, e) =
        let rest = to_agree k here before in
        let x = a.row in
        let is = subst (λ (n : Machine). IsRow n.state.count (bytes k) x) rest.1 a.is in
        let agrees : AgreesAs base (at k) (Some x) = subst (λ (n : Machine). RowAgrees base n x) rest.1 a.agrees in
        let last = subst (AgreesAs base (at k)) (sym (is_read k x is)) agrees in (
          λ j b. ⊎_elim (λ (c : j < k). rest.0 j c)
              (λ (c : k ≤ j). let same : k ≡ j = omega arith in subst (λ (i : ℕ). AgreesAs base (at i) (row i)) same last) (split_lt j k),
          e ∙ ap (λ (n : Machine). next_of base n (Step x.hart)) rest.1 ∙ sym (ap (stepped base (at k)) (is_read k x is)),
        )

  valid : Replayable base mem s log → Valid base start
  valid ok = (ok.memory, ok.state)

  -- A replay ends agreed, with the count of all rows and the machine m', exactly if it isn't refused, and all rows agree and lead to m'.
  pub agreed_exactly : (m' : Machine) → (r ≡ ended (end S.Agreed all m')) ↔ (Replayable base mem s log × AgreeTo base start log all m')
  agreed_exactly m' = (
    λ e.
        let a = agreed_as.0 (stop_in_lem e) in
        let here = ap machine_in (sym e ∙ all_agree a.0 a.1) in
        (a.0, subst (AgreeTo base start log all) (sym here) (agree_to (valid a.0) all a.1)),
    λ p.
        let a = to_agree (valid p.0) all m' p.1 in
        all_agree p.0 a.0 ∙ ap (λ (m : Machine). ended (end S.Agreed all m)) (sym a.1),
  )

  -- It stops with t at row k, which is also the count of rows before, at machine m', exactly if it isn't refused, the log has a row k, the rows before it
  -- agree and lead to m', and row k stops it there with t.
  pub stopped_exactly : (k : ℕ) (t : Stop) (m' : Machine) → ((r ≡ ended (end t k m')) × OfRow t)
      ↔ (Replayable base mem s log × (k < all) × AgreeTo base start log k m' × Stopping base m' (bytes k) t)
  stopped_exactly k t m' = (
    λ e. ⊎_elim
        (λ (ok : Replayable base mem s log).
        ⊎_elim
        (λ (a : AgreeBefore base start row all).
        differ (sym (stop_in_lem e.0) ∙ stop_in_lem (all_agree ok a)) 1 0 (of_row t e.1) refl (λ z. omega arith))
        (λ (f : (j : ℕ) × (u : Stop) × (j < all) × AgreeBefore base start row j × StopsAs base (at j) (row j) u).
        let q = sym (first_stop ok f.0 f.2 f.3 f.1 f.4) ∙ e.0 in
        let same_row = ap (λ (x : Result). x.replayed.rows) q in
        let same_stop = ap (λ (x : Result). x.replayed.stop) q in
        let here = ap machine_in q in (
          ok,
          subst (λ (j : ℕ). j < all) same_row f.2,
          subst (λ (m : Machine). AgreeTo base start log k m) here
              (subst (λ (j : ℕ). AgreeTo base start log j (at f.0)) same_row (agree_to (valid ok) f.0 f.3)),
          subst (λ (m : Machine). Stopping base m (bytes k) t) here
              (subst (λ (j : ℕ). Stopping base (at f.0) (bytes j) t) same_row
              (subst (Stopping base (at f.0) (bytes f.0)) same_stop (stops_words (valid ok) f.0 f.1 f.4))),
        ))
        (one_of_both ok))
        (λ (n : IsRefused). differ (sym (stop_in_lem e.0) ∙ stop_in_lem (refuses n.0 n.1)) 1 2 (of_row t e.1) refl (λ z. omega arith)) replayable_or_not,
    λ p.
        let a = to_agree (valid p.0) k m' p.2 in
        let f = words_stop (valid p.0) k t (subst (λ (m : Machine). Stopping base m (bytes k) t) a.1 p.3) in (
          first_stop p.0 k p.1 a.0 t f ∙ ap (λ (m : Machine). ended (end t k m)) (sym a.1),
          row_of t (stopping_number base (at k) (row k) t f),
        ),
  )

  -- It is refused by a number exactly if that number's rule is the first that applies, with the place 0; then it counts no row, and nothing changes.
  pub refused_exactly : (number place : ℕ) → (r.replayed.stop ≡ S.Refused (record { number = number; place = place })) ↔ ((place ≡ 0) × RefusedBy base mem s log number)
  refused_exactly number place = (
    λ e. ⊎_elim
        (λ (ok : Replayable base mem s log).
        ⊎_elim (λ (a : AgreeBefore base start row all). differ (sym e ∙ stop_in_lem (all_agree ok a)) 2 0 refl refl (λ z. omega arith))
        (λ (f : (k : ℕ) × (t : Stop) × (k < all) × AgreeBefore base start row k × StopsAs base (at k) (row k) t).
        differ (sym e ∙ stop_in_lem (first_stop ok f.0 f.2 f.3 f.1 f.4)) 2 1 refl (stopping_number base (at f.0) (row f.0) f.1 f.4)
        (λ z. omega arith))
        (one_of_both ok))
        (λ (n : IsRefused).
        let same = sym (stop_in_lem (refuses n.0 n.1)) ∙ e in
        let told : ◌≡◌ {A = Refusal} (record { number = n.0; place = 0 }) (record { number = number; place = place }) = cc in
        (sym (ap (λ (q : Refusal). q.place) told), subst (RefusedBy base mem s log) (ap (λ (q : Refusal). q.number) told) n.1)) replayable_or_not,
    λ n. stop_in_lem (refuses number n.1) ∙ ap (λ (p : ℕ). S.Refused (record { number = number; place = p })) (sym n.0),
  )

  pub refused_keeps : (number : ℕ) → RefusedBy base mem s log number → r ≡ refused_replay number s mem
  refused_keeps number n = refuses number n

  -- There is no other answer: a replay is refused, ends agreed, or stops at a row.
  pub refused_agreed_or_stopped :
      ((number : ℕ) × RefusedBy base mem s log number)
      ⊎ (((m' : Machine) × (r ≡ ended (end S.Agreed all m')))
      ⊎ ((k : ℕ) × (t : Stop) × (m' : Machine) × OfRow t × (r ≡ ended (end t k m'))))
  refused_agreed_or_stopped =
      ⊎_elim
      (λ (ok : Replayable base mem s log).
      inr (⊎_elim (λ (a : AgreeBefore base start row all). inl (at all, all_agree ok a))
      (λ (f : (k : ℕ) × (t : Stop) × (k < all) × AgreeBefore base start row k × StopsAs base (at k) (row k) t).
      inr (
        f.0,
        f.1,
        at f.0,
        row_of f.1 (stopping_number base (at f.0) (row f.0) f.1 f.4),
        first_stop ok f.0 f.2 f.3 f.1 f.4,
      ))
      (one_of_both ok)))
      (λ (n : IsRefused). inl n) replayable_or_not
