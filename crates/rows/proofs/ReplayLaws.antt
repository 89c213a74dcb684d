-- Rows one after another. Assumes nothing.
use mathlib.Core.Path.{◌≡◌, refl, ap}
use Rattle.std.specs.Prelude.{Ok, Err, Option, None, Some}
use mathlib.Core.List.{List, ◌∷◌, ◌++◌}
use Prim.Native.Nat.{ℕ, suc, ◌+◌, ◌-◌, ◌*◌, ◌/◌, ◌<◌}
use native.Mathlib.Omega.{arith}
use lib.ListN.{length, take, drop, length-append}
use lib.Seq.{take_at, drop_at, drop-drop}
use Rattle.word.specs.Memory.{part}
use Rattle.word.proofs.MemoryLaws.{lent_part}
use Rattle.events.specs.declared.Event.TheVariants.{Step}
use Rattle.model.specs.Perform.{Machine}
use Rattle.model.specs.Valid.{Valid}
use Rattle.model.proofs.Valid.{valid_next}
use Rattle.model.proofs.Frame.{count_next}
use Rattle.steplog.specs.Row.{reading_of}
use Rattle.steplog.specs.declared.Row.{Row}
use Rattle.rows.specs.Row.{told_of, stepped}
use Rattle.rows.specs.Replay.{readings, End, end_of}
use Rattle.rows.specs.declared.Stop.{Stop}

-- the same end, with k rows more before it
abbrev pub further : ℕ → End → End
further k e = record { stop = e.stop; rows = k + e.rows; machine = e.machine }

pub further_none : (e : End) → further 0 e ≡ e
further_none e = ap (λ (k : ℕ). record { stop = e.stop; rows = k; machine = e.machine }) (omega arith)

-- a row whose bytes are cut out of a log
pub row_cut : (i : ℕ) (log : List ℕ) → take (i * 48 + 48 - i * 48) (drop (i * 48) log) ≡ take 48 (drop (i * 48) log)
unfolding part
row_cut i log = lent_part log (i * 48) 48

-- one row more of a log
pub readings_more : (count n i : ℕ) (log : List ℕ) → i < n
    → readings count (n - i) (drop (i * 48) log)
    ≡ reading_of count (take 48 (drop (i * 48) log)) ∷ readings count (n - (i + 1)) (drop ((i + 1) * 48) log)
unfolding readings
readings_more count n i log h =
    let e : n - i ≡ suc (n - (i + 1)) = omega arith in
    let f : (i + 1) * 48 ≡ i * 48 + 48 = omega arith in
    rw (e, f, drop-drop 48 (i * 48) log)

-- the first row of a log, and the rows behind it
pub one_more : (row more : List ℕ) → length row ≡ 48 → length (row ++ more) / 48 ≡ suc (length more / 48)
one_more row more h = omega (arith, length-append row more, h)

pub readings_next : (count : ℕ) (row more : List ℕ) → length row ≡ 48
    → readings count (length (row ++ more) / 48) (row ++ more) ≡ reading_of count row ∷ readings count (length more / 48) more
unfolding readings
readings_next count row more h = rw (one_more row more h, take_at row more 48 h, drop_at row more 48 h)

module _ (base : ℕ) (m : Machine) (r : Option Row) (rs : List (Option Row)) (i : ℕ) where
  -- a row that agrees, and those behind it
  pub end_more : told_of base m r ≡ Ok tt → {after : Machine} → after ≡ stepped base m r
      → further (i + 1) (end_of base after rs) ≡ further i (end_of base m (r ∷ rs))
  unfolding end_of
  end_more told e =
      let rest = end_of base (stepped base m r) rs in
      let count : i + 1 + rest.rows ≡ i + suc rest.rows = omega arith in
      rw (e, told) (ap (λ (k : ℕ). record { stop = rest.stop; rows = k; machine = rest.machine }) count)

  -- a row that stops
  pub end_stop : {s : Stop} → told_of base m r ≡ Err s → record { stop = s; rows = i; machine = m } ≡ further i (end_of base m (r ∷ rs))
  unfolding end_of
  end_stop {s} told = rw told (ap (λ (k : ℕ). record { stop = s; rows = k; machine = m }) (omega arith))

pub valid_stepped : (base : ℕ) (m : Machine) → Valid base m → (r : Option Row) → Valid base (stepped base m r)
unfolding stepped
valid_stepped base m v None = v
valid_stepped base m v (Some r) = valid_next base m v (Step r.hart)

-- a row's step keeps the number of harts
pub count_stepped : (base : ℕ) (m : Machine) (r : Option Row) → (stepped base m r).state.count ≡ m.state.count
unfolding stepped
count_stepped base m None = refl
count_stepped base m (Some r) = count_next base m (Step r.hart)
