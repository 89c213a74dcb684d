-- A log replayed.
use Rattle.std.specs.Prelude.{ℕ, zero, suc, ◌+◌, ◌/◌, ◌%◌, cond, Ok, Err, List, [], ◌∷◌, eqb, length, take, drop, Option}
use Rattle.machine.specs.State.{refusal_of}
use Rattle.machine.specs.declared.State.{State}
use Rattle.model.specs.Perform.{Machine}
use Rattle.steplog.specs.Row.{reading_of}
use Rattle.steplog.specs.declared.Row.{Row}
use Rattle.rows.specs.Row.{Told, told_of, stepped}
use Rattle.rows.specs.declared.Stop.{Stop}
use Rattle.rows.specs.declared.Stop.TheVariants.{Agreed, Refused}
use Rattle.rows.specs.declared.Replayed.{Replayed}

-- the first n rows of a log, each of 48 bytes, as they read
unfoldable pub readings : ℕ → ℕ → List ℕ → List (Option Row)
readings count zero log = []
readings count (suc n) log = reading_of count (take 48 log) ∷ readings count n (drop 48 log)

-- where a replay ends: the stop, the number of rows before it, and the machine after exactly those
pub record End : Type 0 where
  pub stop : Stop
  pub rows : ℕ
  pub machine : Machine

-- 02 [1]: "Give the row's number, from 0, and the reason"; "The count is the number of rows before the stop, and the state and memory are the ones
-- after exactly those." A row that agrees is one more than there are in the rest
abbrev pub end_by : Told → Machine → End → End
end_by (Ok x) m rest = record { stop = rest.stop; rows = suc rest.rows; machine = rest.machine }
end_by (Err s) m rest = record { stop = s; rows = 0; machine = m }

-- rows one after another, each on the machine that the row before left; "else say all rows agreed"
unfoldable pub end_of : ℕ → Machine → List (Option Row) → End
end_of base m [] = record { stop = Agreed; rows = 0; machine = m }
end_of base m (r ∷ rs) = end_by (told_of base m r) m (end_of base (stepped base m r) rs)

-- what a replay answers, and the memory it leaves
pub record Result : Type 0 where
  pub replayed : Replayed
  pub mem : List ℕ

abbrev pub ended : End → Result
ended e = record { replayed = record { stop = e.stop; rows = e.rows; state = e.machine.state }; mem = e.machine.mem }

-- 01: "A refusal returns its number, the state as given, and memory unchanged."
abbrev pub refused_replay : ℕ → State → List ℕ → Result
refused_replay number s mem = record { replayed = record { stop = Refused (record { number = number; place = 0 }); rows = 0; state = s }; mem = mem }

-- 02 [1]: "Refusals: 12, log length not a multiple of 48, after 11; 13, a log of no rows, after 12." 1 and 2 come first
unfoldable pub replay_of : ℕ → List ℕ → State → List ℕ → Result
replay_of base mem s log =
    cond (eqb (refusal_of base (length mem) s) 0)
    (cond (eqb (length log % 48) 0)
    (cond (eqb (length log) 0)
    (refused_replay 13 s mem)
    (ended (end_of base (record { state = s; mem = mem }) (readings s.count (length log / 48) log))))
    (refused_replay 12 s mem))
    (refused_replay (refusal_of base (length mem) s) s mem)

-- the same answer, with n rows more before its end: that of a part of a log, where the n rows before the part agreed
abbrev pub joined : ℕ → Result → Result
joined n r =
    record { replayed = record { stop = r.replayed.stop; rows = n + r.replayed.rows; state = r.replayed.state }; mem = r.mem }
