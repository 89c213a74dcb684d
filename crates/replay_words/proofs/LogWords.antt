-- Rows one after another: where they end, and why. Assumes nothing.
use mathlib.Core.Path.{◌≡◌, refl, sym, ap, subst, ◌∙◌}
use mathlib.Core.Logic.{◌⊎◌, inl, inr, ⊎_elim}
use mathlib.Core.List.{List, [], ◌∷◌}
use Prim.Native.Nat.{ℕ, zero, suc, ◌+◌, ◌*◌, ◌<◌, ◌≤◌}
use native.Mathlib.Omega.{arith}
use lib.ListN.{drop}
use lib.Seq.{drop-drop}
use Rattle.std.specs.Prelude.{Option, None, Some, Ok, Err}
use Rattle.word.specs.Memory.{part}
use Rattle.word.proofs.WordLaws.{split_lt}
use Rattle.model.specs.Perform.{Machine}
use Rattle.model.specs.Valid.{Valid}
use Rattle.steplog.specs.Row.{reading_of}
use Rattle.steplog.specs.declared.Row.{Row}
use Rattle.rows.specs.Row.{Told, told_of, stepped}
use Rattle.rows.specs.Replay.{readings, End, end_by, end_of}
use Rattle.rows.specs.declared.Stop.{Stop}
use Rattle.rows.specs.declared.Stop.TheVariants as S
use Rattle.rows.proofs.ReplayLaws.{valid_stepped, count_stepped}
use Rattle.replay_words.specs.Reasons.{Reason, other_pc, other_word, trapped, other_rd, other_value, row_bytes}
use Rattle.replay_words.proofs.RowWords.{AgreesAs, StopsAs, Counted, told_agreeing, told_stopping, either}

-- no reason says that all agreed
abbrev pub stop_number : Stop → ℕ
stop_number S.Agreed = 0
stop_number S.Form = 1
stop_number (S.Pc board model) = 1
stop_number (S.Word board model) = 1
stop_number (S.Trap cause value) = 1
stop_number (S.Rd board model) = 1
stop_number (S.Value board model) = 1
stop_number (S.Refused r) = 2

reason_number : (base : ℕ) (m : Machine) (r : Row) (place : ℕ) (s : Stop) → Reason base m r place s → stop_number s ≡ 1
reason_number base m r place s (other_pc e q d) = ap stop_number q
reason_number base m r place s (other_word e q i d) = ap stop_number q
reason_number base m r place s (trapped cause value e q t) = ap stop_number q
reason_number base m r place s (other_rd e q d) = ap stop_number q
reason_number base m r place s (other_value e q d) = ap stop_number q

pub stopping_number : (base : ℕ) (m : Machine) (read : Option Row) (s : Stop) → StopsAs base m read s → stop_number s ≡ 1
stopping_number base m None s e = ap stop_number e
stopping_number base m (Some r) s f = reason_number base m r f.place s f.applies

-- ---- the rows of a log, by their numbers

-- row k of a log as it reads
abbrev pub read_at : ℕ → List ℕ → ℕ → Option Row
read_at count log k = reading_of count (row_bytes log k)

-- the machine after the first k rows: row by row its hart has stepped
unfoldable pub after_rows : ℕ → Machine → (ℕ → Option Row) → ℕ → Machine
after_rows base m row zero = m
after_rows base m row (suc k) = stepped base (after_rows base m row k) (row k)

-- each of the first k rows agrees with the machine that the rows before it left
abbrev pub AgreeBefore : ℕ → Machine → (ℕ → Option Row) → ℕ → Type 0
AgreeBefore base m row k = (j : ℕ) → j < k → AgreesAs base (after_rows base m row j) (row j)

-- n rows from row i on
unfoldable pub rows_from : (ℕ → Option Row) → ℕ → ℕ → List (Option Row)
rows_from row i zero = []
rows_from row i (suc n) = row i ∷ rows_from row (suc i) n

pub rows_are : (count : ℕ) (log : List ℕ) (i n : ℕ) → readings count n (drop (i * 48) log) ≡ rows_from (read_at count log) i n
unfolding readings rows_from part
rows_are count log i zero = refl
rows_are count log i (suc n) =
    let next : i * 48 + 48 ≡ suc i * 48 = omega arith in
    let tail = ap (readings count n) (drop-drop 48 (i * 48) log ∙ ap (λ (k : ℕ). drop k log) next) ∙ rows_are count log (suc i) n in
    ap (λ (l : List (Option Row)). read_at count log i ∷ l) tail

-- ---- where they end

module _ (base : ℕ) (m : Machine) (v : Valid base m) (row : ℕ → Option Row) (l : (j : ℕ) → Counted m.state.count (row j)) where
  -- the machine before row j
  abbrev pub at : ℕ → Machine
  at j = after_rows base m row j

  pub valid_at : (j : ℕ) → Valid base (at j)
  unfolding after_rows
  valid_at zero = v
  valid_at (suc j) = valid_stepped base (at j) (valid_at j) (row j)

  pub count_at : (j : ℕ) → (at j).state.count ≡ m.state.count
  unfolding after_rows
  count_at zero = refl
  count_at (suc j) = count_stepped base (at j) (row j) ∙ count_at j

  counted_at : (j : ℕ) → Counted (at j).state.count (row j)
  counted_at j = subst (λ (k : ℕ). Counted k (row j)) (sym (count_at j)) (l j)

  agrees_at : (j : ℕ) → AgreesAs base (at j) (row j) → told_of base (at j) (row j) ≡ Ok tt
  agrees_at j a = told_agreeing base (at j) (valid_at j) (row j) (counted_at j) a

  stops_at : (j : ℕ) (s : Stop) → StopsAs base (at j) (row j) s → told_of base (at j) (row j) ≡ Err s
  stops_at j s f = told_stopping base (at j) (valid_at j) (row j) (counted_at j) s f

  -- each of the k rows from row i on agrees
  abbrev Agree : ℕ → ℕ → Type 0
  Agree i k = (j : ℕ) → i ≤ j → j < i + k → AgreesAs base (at j) (row j)

  abbrev pub end : Stop → ℕ → Machine → End
  end s k x = record { stop = s; rows = k; machine = x }

  end_agreed : (i n : ℕ) → Agree i n → end_of base (at i) (rows_from row i n) ≡ end S.Agreed n (at (i + n))
  unfolding end_of rows_from after_rows
  end_agreed i zero a = let same : i ≡ i + 0 = omega arith in ap (λ (k : ℕ). end S.Agreed 0 (at k)) same
  end_agreed i (suc n) a =
      let here = agrees_at i (a i (omega arith) (omega arith)) in
      let rest = end_agreed (suc i) n (λ j b c. a j (omega arith) (omega arith)) in
      let next : suc i + n ≡ i + suc n = omega arith in
      ap (λ (t : Told). end_by t (at i) (end_of base (stepped base (at i) (row i)) (rows_from row (suc i) n))) here
      ∙ ap (end_by (Ok tt) (at i)) rest ∙ ap (λ (k : ℕ). end S.Agreed (suc n) (at k)) next

  end_stopped : (i n k : ℕ) → k < n → Agree i k → (s : Stop) → StopsAs base (at (i + k)) (row (i + k)) s
      → end_of base (at i) (rows_from row i n) ≡ end s k (at (i + k))
  unfolding end_of rows_from after_rows
  end_stopped i zero k b a s f = absurd (omega arith)
  end_stopped i (suc n) zero b a s f =
      let same : i + 0 ≡ i = omega arith in
      let here = stops_at i s (subst (λ (k : ℕ). StopsAs base (at k) (row k) s) same f) in
      ap (λ (t : Told). end_by t (at i) (end_of base (stepped base (at i) (row i)) (rows_from row (suc i) n))) here
      ∙ ap (λ (k : ℕ). end s 0 (at k)) (sym same)
  end_stopped i (suc n) (suc k) b a s f =
      let next : i + suc k ≡ suc i + k = omega arith in
      let here = agrees_at i (a i (omega arith) (omega arith)) in
      let first = subst (λ (j : ℕ). StopsAs base (at j) (row j) s) next f in
      let rest = end_stopped (suc i) n k (omega arith) (λ j c d. a j (omega arith) (omega arith)) s first in
      ap (λ (t : Told). end_by t (at i) (end_of base (stepped base (at i) (row i)) (rows_from row (suc i) n))) here
      ∙ ap (end_by (Ok tt) (at i)) rest ∙ ap (λ (j : ℕ). end s (suc k) (at j)) (sym next)

  -- the first row of n that stops, and why
  pub record FirstStop (i n : ℕ) : Type 0 where
    pub number : ℕ
    pub below : number < n
    pub before : Agree i number
    pub stop : Stop
    pub stops : StopsAs base (at (i + number)) (row (i + number)) stop

  -- row i agrees, and those behind it
  one_more : (i n : ℕ) → AgreesAs base (at i) (row i) → Agree (suc i) n → Agree i (suc n)
  one_more i n a all j b c =
      ⊎_elim (λ (d : i < j). all j (omega arith) (omega arith))
      (λ (d : j ≤ i). let e : i ≡ j = omega arith in subst (λ (k : ℕ). AgreesAs base (at k) (row k)) e a) (split_lt i j)

  all_or_first : (i n : ℕ) → Agree i n ⊎ FirstStop i n
  all_or_first i zero = inl (λ j b c. absurd (omega arith))
  all_or_first i (suc n) = go (either base (at i) (valid_at i) (row i) (counted_at i)) (all_or_first (suc i) n)
    where
      go : AgreesAs base (at i) (row i) ⊎ ((s : Stop) × StopsAs base (at i) (row i) s) → Agree (suc i) n ⊎ FirstStop (suc i) n
          → Agree i (suc n) ⊎ FirstStop i (suc n)
      go (inr f) rest =
          let same : i ≡ i + 0 = omega arith in
          inr (record {
            number = 0;
            below = omega arith;
            before = λ j b c. absurd (omega arith);
            stop = f.0;
            stops = subst (λ (k : ℕ). StopsAs base (at k) (row k) f.0) same f.1;
          })
      go (inl a) (inl all) = inl (one_more i n a all)
      go (inl a) (inr g) =
          let next : suc i + g.number ≡ i + suc g.number = omega arith in
          inr (record {
            number = suc g.number;
            below = omega (arith, g.below);
            before = one_more i g.number a g.before;
            stop = g.stop;
            stops = subst (λ (k : ℕ). StopsAs base (at k) (row k) g.stop) next g.stops;
          })

  -- ---- the claims, of n rows from the first on

  module _ (n : ℕ) where
    abbrev pub e : End
    e = end_of base m (rows_from row 0 n)

    from_first : (k : ℕ) → AgreeBefore base m row k → Agree 0 k
    from_first k a j b c = a j (omega arith)

    to_first : (k : ℕ) → Agree 0 k → AgreeBefore base m row k
    to_first k a j c = a j (omega arith) (omega arith)

    pub ends_agreed : AgreeBefore base m row n → e ≡ end S.Agreed n (at n)
    unfolding after_rows
    ends_agreed a = end_agreed 0 n (from_first n a) ∙ let z : 0 + n ≡ n = omega arith in ap (λ (k : ℕ). end S.Agreed n (at k)) z

    pub ends_stopped : (k : ℕ) → k < n → AgreeBefore base m row k → (s : Stop) → StopsAs base (at k) (row k) s → e ≡ end s k (at k)
    unfolding after_rows
    ends_stopped k b a s f =
        let z : k ≡ 0 + k = omega arith in
        end_stopped 0 n k b (from_first k a) s (subst (λ (j : ℕ). StopsAs base (at j) (row j) s) z f) ∙ ap (λ (j : ℕ). end s k (at j)) (sym z)

    -- one of both
    pub ends : AgreeBefore base m row n ⊎ ((k : ℕ) × (s : Stop) × (k < n) × AgreeBefore base m row k × StopsAs base (at k) (row k) s)
    ends =
        ⊎_elim (λ (a : Agree 0 n). inl (to_first n a))
        (λ (g : FirstStop 0 n).
        let z : 0 + g.number ≡ g.number = omega arith in
        inr (g.number, g.stop, g.below, to_first g.number g.before, subst (λ (j : ℕ). StopsAs base (at j) (row j) g.stop) z g.stops))
        (all_or_first 0 n)
