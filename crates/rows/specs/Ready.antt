-- What the code knows of a row before its step is performed.
use Rattle.std.specs.Prelude.{◌≡◌, ℕ, ◌<◌, length}
use Rattle.reserve.specs.Range.{Inside}
use Rattle.model.specs.Perform.{Machine}
use Rattle.model.specs.Valid.{Valid}
use Rattle.steplog.specs.declared.Row.{Row}
use Rattle.rows.specs.Row.{pc_at, word_at}

-- the row's step can be performed: the machine is one that 1 and 2 don't refuse, the hart is below the count, and pc and word are the model's
pub record Ready (base : ℕ) (m : Machine) (r : Row) : Type 0 where
  pub valid : Valid base m
  pub counted : r.hart < m.state.count
  pub pc : r.pc ≡ pc_at base m r.hart
  pub inside : Inside base (length m.mem) r.pc 4
  pub word : r.word ≡ word_at base m r.hart
