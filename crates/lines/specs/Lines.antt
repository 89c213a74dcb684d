-- The lines of a run (01: "The program reads a case from standard input and writes lines, compared byte for byte").
-- RULES 9.
use Rattle.std.specs.Prelude.{ℕ, suc, cond, List, [], ◌∷◌, ◌++◌, eqb, drop}
use Rattle.text.specs.Ascii.{ascii}
use Rattle.text.specs.Number.{decimal_of, hex_from, hex_of}
use Rattle.events.specs.declared.Event.{Event}
use Rattle.events.specs.declared.Event.TheVariants.{Step, Device, Yield}
use Rattle.machine.specs.declared.State.{State}
use Rattle.model.specs.Perform.{Machine, reply_at, next_of}
use Rattle.model.specs.declared.Reply.{Reply}
use Rattle.model.specs.declared.Outcome.{Outcome}
use Rattle.model.specs.declared.Outcome.TheVariants.{Retired, ScStored, ScFailed, Trap, Refused}

-- who: `h0` a step, `d` a device write, `y0` a yield
abbrev pub who_of : Event → List ℕ
who_of (Step h) = ascii "h" ++ decimal_of h
who_of (Device a n v) = ascii "d"
who_of (Yield h) = ascii "y" ++ decimal_of h

-- what came of it. 01: "The line of a trap ends in `trap`, the cause, and the value in 16 lower-case hex digits". The form ` refused N` never shows in a
-- report: no event of a case that is read is refused (report/proofs/NoRefusal: no_refused_line).
abbrev pub said_of : Outcome → List ℕ
said_of Retired = ascii " ok"
said_of ScStored = ascii " sc 0"
said_of ScFailed = ascii " sc 1"
said_of (Trap cause value) = ascii " trap " ++ (decimal_of cause ++ (ascii " " ++ hex_of value))
said_of (Refused number) = ascii " refused " ++ decimal_of number

-- 02 [3]: "An event line gets ` broke` and two lower-case hex digits where the set isn't empty, before the line end." Only lines
-- of ` ok` and ` sc 0` have it (broken/proofs/Broken: broke_outcome).
unfoldable pub broke_text : ℕ → List ℕ
broke_text broke = cond (eqb broke 0) [] (ascii " broke " ++ hex_from 2 broke)

-- the line of event number k
unfoldable pub line_of : ℕ → Event → Reply → List ℕ
line_of k e r = decimal_of k ++ (ascii " " ++ (who_of e ++ (said_of r.outcome ++ (broke_text r.broke ++ ascii "\n"))))

-- one line for every event, in order, from number k on
unfoldable pub lines_of : ℕ → Machine → ℕ → List Event → List ℕ
lines_of base m k [] = []
lines_of base m k (e ∷ es) = line_of k e (reply_at base m e) ++ lines_of base (next_of base m e) (suc k) es

-- the machine whose memory is what stands in a buffer from a place on
abbrev pub behind : State → ℕ → List ℕ → Machine
behind s from out = record { state = s; mem = drop from out }
