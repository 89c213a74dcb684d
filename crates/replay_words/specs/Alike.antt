-- Replays that end alike (01, refusal 2: "unused harts' fields aren't looked at and never change").
use Rattle.std.specs.Prelude.{◌≡◌}
use Rattle.model.specs.Agree.{Agree}
use Rattle.rows.specs.Replay.{Result}

-- Two replays of a log end alike: the same stop, the same count of rows, the same memory, and states that agree on the used harts.
pub record AlikeReplays (a b : Result) : Type 0 where
  pub stop : a.replayed.stop ≡ b.replayed.stop
  pub rows : a.replayed.rows ≡ b.replayed.rows
  pub memory : a.mem ≡ b.mem
  pub states : Agree a.replayed.state b.replayed.state
