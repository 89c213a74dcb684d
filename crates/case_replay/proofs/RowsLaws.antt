-- No more rows come before a stop than a log has. Assumes nothing.
use mathlib.Core.Path.{◌≡◌, refl, ap}
use mathlib.Core.List.{List, [], ◌∷◌}
use Prim.Native.Nat.{ℕ, zero, suc, ◌/◌, ◌%◌, ◌≤◌}
use native.Mathlib.Omega.{arith}
use lib.Dec.{eqb}
use lib.ListN.{length, drop}
use Rattle.word.proofs.ChooseLaws.{cond_all}
use Rattle.machine.specs.State.{refusal_of}
use Rattle.machine.specs.declared.State.{State}
use Rattle.model.specs.Perform.{Machine}
use Rattle.std.specs.Prelude.{Option, Ok, Err}
use Rattle.steplog.specs.declared.Row.{Row}
use Rattle.rows.specs.Row.{Told, told_of, stepped}
use Rattle.rows.specs.Replay.{readings, End, end_by, end_of, Result, replay_of}

length-readings : (count n : ℕ) (log : List ℕ) → length (readings count n log) ≡ n
unfolding readings
length-readings count zero log = refl
length-readings count (suc n) log = ap suc (length-readings count n (drop 48 log))

end_le : (base : ℕ) (m : Machine) (rs : List (Option Row)) → (end_of base m rs).rows ≤ length rs
unfolding end_of
end_le base m [] = omega arith
end_le base m (r ∷ rs) = go (told_of base m r) (end_of base (stepped base m r) rs) (end_le base (stepped base m r) rs)
  where
    go : (t : Told) (e : End) → e.rows ≤ length rs → (end_by t m e).rows ≤ suc (length rs)
    go (Ok x) e h = omega arith
    go (Err s) e h = omega arith

abbrev Within : List ℕ → Result → Type 0
Within log r = r.replayed.rows ≤ length log / 48

pub rows_le : (base : ℕ) (mem : List ℕ) (s : State) (log : List ℕ) → (replay_of base mem s log).replayed.rows ≤ length log / 48
unfolding replay_of
rows_le base mem s log =
    let within = end_le base (record { state = s; mem = mem }) (readings s.count (length log / 48) log) in
    cond_all (Within log) (eqb (refusal_of base (length mem) s) 0) _ _
    (cond_all (Within log) (eqb (length log % 48) 0) _ _
    (cond_all (Within log) (eqb (length log) 0) _ _ (omega arith) (omega (arith, within, length-readings s.count (length log / 48) log)))
    (omega arith)) (omega arith)
