-- The report of a case that is read, without a line that tells of a refusal: 11 has tried its events "by 3, 4 or 5 or its zeros or kind" before any is
-- performed.
-- RULES 9.
use Rattle.std.specs.Prelude.{◌≡◌, List, [], ◌∷◌, ◌++◌, ℕ, suc, ◌-◌, length}
use Rattle.word.specs.Memory.{part}
use Rattle.events.specs.declared.Event.{Event}
use Rattle.model.specs.Perform.{Machine}
use Rattle.model.specs.Retired.{Refuses}
use Rattle.model.specs.declared.Reply.{Reply}
use Rattle.casefile.specs.declared.Case.{Case}
use Rattle.lines.specs.Lines.{line_of}
use Rattle.report.specs.Report.{case_line, end_line}

-- the machine that a file's case starts from
abbrev pub machine_in : List ℕ → Case → Machine
machine_in file c = record { state = c.state; mem = part file c.memory (c.events - c.memory) }

-- the text is a line for each of the events, numbered from k on, each with an outcome that isn't a refusal: `ok`, `sc 0`, `sc 1` or a trap; with or
-- without a set of harts behind it (which one: broken/proofs/Shown)
unfoldable pub UnrefusedLines : ℕ → List Event → List ℕ → Type 0
UnrefusedLines k [] text = text ≡ []
UnrefusedLines k (e ∷ es) text =
    (r : Reply) × (Refuses r.outcome → ⊥) × (rest : List ℕ) × (text ≡ line_of k e r ++ rest) × UnrefusedLines (suc k) es rest

-- the text is the first line of a case, a line without a refusal for each of its events, and the last line
pub record UnrefusedReport (harts bytes : ℕ) (events : List Event) (text : List ℕ) : Type 0 where
  pub lines : List ℕ
  pub unrefused : UnrefusedLines 0 events lines
  pub whole : text ≡ case_line harts bytes (length events) ++ (lines ++ end_line (length events))
