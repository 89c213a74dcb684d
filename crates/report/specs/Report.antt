-- The program's whole output for any bytes (01, "The program reads a case from standard input and writes lines"; "its budget is all events").
-- RULES 9.
use Rattle.std.specs.Prelude.{ℕ, ◌-◌, List, ◌++◌, Result, Ok, Err, length, drop}
use Rattle.word.specs.Memory.{part}
use Rattle.machine.specs.declared.State.{State}
use Rattle.events.specs.Events.{events_of}
use Rattle.settings.specs.Boards.{default_board}
use Rattle.settings.specs.declared.Board.{Board}
use Rattle.casefile.specs.Case.{case_on}
use Rattle.casefile.specs.declared.Case.{Case}
use Rattle.refusal.specs.declared.Refusal.{Refusal}
use Rattle.text.specs.Ascii.{ascii}
use Rattle.text.specs.Number.{decimal_of}
use Rattle.lines.specs.Lines.{lines_of}

-- 01: "a refused file gives one line, `refused`, number, place"
unfoldable pub refused_line : ℕ → ℕ → List ℕ
refused_line number place = ascii "refused " ++ (decimal_of number ++ (ascii " " ++ (decimal_of place ++ ascii "\n")))

-- `case 2 harts 128 bytes 5 events`
unfoldable pub case_line : ℕ → ℕ → ℕ → List ℕ
case_line harts bytes events =
    ascii "case " ++ (decimal_of harts ++ (ascii " harts " ++ (decimal_of bytes ++ (ascii " bytes " ++ (decimal_of events ++ ascii " events\n")))))

-- `end 5`
unfoldable pub end_line : ℕ → List ℕ
end_line events = ascii "end " ++ (decimal_of events ++ ascii "\n")

-- the lines of a case: its memory and events are given
unfoldable pub lines_of_case : ℕ → State → List ℕ → List ℕ → List ℕ
lines_of_case base s mem body =
    case_line s.count (length mem) (length (events_of body))
    ++ (lines_of base (record { state = s; mem = mem }) 0 (events_of body) ++ end_line (length (events_of body)))

-- by what the file is read as
abbrev pub text_of_case : List ℕ → Result Case Refusal → List ℕ
text_of_case file (Err r) = refused_line r.number r.place
text_of_case file (Ok c) = lines_of_case c.base c.state (part file c.memory (c.events - c.memory)) (drop c.events file)

-- on a board
unfoldable pub report_on : Board → List ℕ → List ℕ
report_on board file = text_of_case file (case_on board file)

-- and where none is given
abbrev pub report_of : List ℕ → List ℕ
report_of file = report_on default_board file
