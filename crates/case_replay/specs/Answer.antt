-- The text of a replay (02 [1]: "Give the row's number, from 0, and the reason: the field and both values for a difference, cause and value for a trap,
-- nothing more for bad form; else say all rows agreed. The count is the number of rows before the stop").
use Rattle.std.specs.Prelude.{ℕ, ◌/◌, List, ◌++◌, length}
use Prim.Native.String.{String}
use Rattle.text.specs.Ascii.{ascii}
use Rattle.text.specs.Number.{decimal_of, digits_from}
use Rattle.model.specs.declared.Outcome.TheVariants as O
use Rattle.lines.specs.Lines.{said_of}
use Rattle.report.specs.Report.{refused_line, end_line}
use Rattle.rows.specs.declared.Stop.{Stop}
use Rattle.rows.specs.declared.Stop.TheVariants.{Agreed, Form, Pc, Word, Trap, Rd, Value, Refused}
use Rattle.rows.specs.declared.Replayed.{Replayed}
use Rattle.case_replay.specs.CaseReplay.{file_replay}

-- `log 5 rows`: how many rows the log has
unfoldable pub log_line : ℕ → List ℕ
log_line all = ascii "log " ++ (decimal_of all ++ ascii " rows\n")

-- the three lines of a replay that isn't refused; what is told stands in the second. k is the number of rows before the stop
abbrev pub three_lines : ℕ → ℕ → List ℕ → List ℕ
three_lines all k told = log_line all ++ (told ++ (ascii "\n" ++ end_line k))

-- "the row's number, from 0, and the reason": as many rows come before it
abbrev pub row_told : ℕ → List ℕ → List ℕ
row_told k reason = ascii "row " ++ (decimal_of k ++ reason)

-- "the field and both values for a difference": the board's and the model's, in so many digits of a base
abbrev pub difference : String → ℕ → ℕ → ℕ → ℕ → List ℕ
difference field base digits board model = ascii field ++ (digits_from base digits board ++ (ascii " " ++ digits_from base digits model))

-- pc, value and a trap's value in 16 hexadecimal digits, word in 8, rd in two decimal digits, as they stand in a row. "cause and value for a trap" as in the
-- lines of a run; "nothing more for bad form; else say all rows agreed"
unfoldable pub answer_text : ℕ → ℕ → Stop → List ℕ
answer_text all k (Refused r) = refused_line r.number r.place
answer_text all k Agreed = three_lines all k (ascii "agreed " ++ decimal_of k)
answer_text all k Form = three_lines all k (row_told k (ascii " form"))
answer_text all k (Pc board model) = three_lines all k (row_told k (difference " pc " 16 16 board model))
answer_text all k (Word board model) = three_lines all k (row_told k (difference " word " 16 8 board model))
answer_text all k (Trap cause value) = three_lines all k (row_told k (said_of (O.Trap cause value)))
answer_text all k (Rd board model) = three_lines all k (row_told k (difference " rd " 10 2 board model))
answer_text all k (Value board model) = three_lines all k (row_told k (difference " value " 16 16 board model))

abbrev pub replayed_text : ℕ → Replayed → List ℕ
replayed_text all r = answer_text all r.rows r.stop

-- the whole text for a file and a log, whatever bytes they are
unfoldable pub replay_text_of : List ℕ → List ℕ → List ℕ
replay_text_of file log = replayed_text (length log / 48) (file_replay file log).replayed
