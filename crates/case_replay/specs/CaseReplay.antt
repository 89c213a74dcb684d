-- A log replayed from a case file (02 [1]: "Please replay a log from a case's harts and memory.").
-- The file is changed in place: its memory body is the memory afterwards, and no other byte changes.
-- The case's events are checked, since 11 comes before 12, and not performed.
use Rattle.std.specs.Prelude.{ℕ, ◌-◌, List, Result, Ok, Err}
use Rattle.word.specs.Memory.{part, splice}
use Rattle.refusal.specs.declared.Refusal.{Refusal}
use Rattle.settings.specs.Boards.{default_board}
use Rattle.settings.specs.declared.Board.{Board}
use Rattle.casefile.specs.Case.{case_on}
use Rattle.casefile.specs.Harts.{no_state}
use Rattle.casefile.specs.declared.Case.{Case}
use Rattle.rows.specs.Replay.{Result as ReplayResult, replay_of}
use Rattle.rows.specs.declared.Replayed.{Replayed}
use Rattle.rows.specs.declared.Stop.TheVariants as S

-- what the replay answers, and the bytes of the file afterwards
pub record FileResult : Type 0 where
  pub replayed : Replayed
  pub file : List ℕ

-- the file whose memory body, which starts at m, is the memory that a replay leaves
abbrev pub left_at : List ℕ → ℕ → ReplayResult → FileResult
left_at file m r = record { replayed = r.replayed; file = splice file m r.mem }

-- by what the file is read as. 02 [1]: "Refusals: 12, log length not a multiple of 48, after 11": 7 to 11 come first, and leave every byte
abbrev pub case_replay : List ℕ → List ℕ → Result Case Refusal → FileResult
case_replay file log (Err r) = record { replayed = record { stop = S.Refused r; rows = 0; state = no_state }; file = file }
case_replay file log (Ok c) = left_at file c.memory (replay_of c.base (part file c.memory (c.events - c.memory)) c.state log)

-- on a board
unfoldable pub file_replay_on : Board → List ℕ → List ℕ → FileResult
file_replay_on board file log = case_replay file log (case_on board file)

-- and where none is given
abbrev pub file_replay : List ℕ → List ℕ → FileResult
file_replay file log = file_replay_on default_board file log
