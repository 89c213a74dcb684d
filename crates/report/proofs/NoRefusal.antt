-- No event of a case that is read is refused, so no line of its report tells of a refusal: on every board that is allowed. Assumes nothing.
use Rattle.std.specs.Prelude.{Ok}
use mathlib.Core.Path.{◌≡◌, refl, sym, ap, ◌∙◌, subst}
use mathlib.Core.List.{List, [], ◌∷◌}
use Prim.Native.Nat.{ℕ, suc, ◌-◌}
use native.Mathlib.Omega.{arith}
use lib.ListN.{length, drop}
use Rattle.word.specs.Memory.{part}
use Rattle.word.proofs.MemoryLaws.{length_part}
use Rattle.machine.proofs.StateLaws.{refusal_0}
use Rattle.events.specs.Events.{checked_of, events_of}
use Rattle.events.specs.declared.Event.{Event}
use Rattle.model.specs.Perform.{Machine, next_of, reply_at}
use Rattle.model.specs.Valid.{Valid}
use Rattle.settings.specs.Boards.{default_board, BoardRules}
use Rattle.settings.specs.declared.Board.{Board}
use Rattle.settings.proofs.SettingsLaws.{default_board_allowed}
use Rattle.casefile.specs.Case.{case_on, case_of, SoundCase}
use Rattle.casefile.specs.declared.Case.{Case}
use Rattle.casefile.proofs.CaseLaws.{case_sound_on}
use Rattle.answers.specs.Good.{NoneRefused}
use Rattle.answers.proofs.Good.{good_run}
use Rattle.lines.specs.Lines.{lines_of}
use Rattle.report.specs.Report.{lines_of_case, text_of_case, report_on, report_of}
use Rattle.report.specs.NoRefusal.{machine_in, UnrefusedLines, UnrefusedReport}

lines_unrefused : (base : ℕ) (m : Machine) (k : ℕ) (es : List Event) → NoneRefused base m es → UnrefusedLines k es (lines_of base m k es)
unfolding NoneRefused UnrefusedLines lines_of
lines_unrefused base m k [] f = refl
lines_unrefused base m k (e ∷ es) f =
    (reply_at base m e, f.0, lines_of base (next_of base m e) (suc k) es, refl, lines_unrefused base (next_of base m e) (suc k) es f.1)

-- a file that is read as a case
module _ (board : Board) (ok : BoardRules board) (file : List ℕ) (c : Case) (read : case_on board file ≡ Ok c) where
  sound : SoundCase file (Ok c)
  sound = subst (SoundCase file) read (case_sound_on board ok file)

  size : length (part file c.memory (c.events - c.memory)) ≡ c.events - c.memory
  size = length_part file c.memory (c.events - c.memory) (omega (arith, sound.1, sound.2))

  valid : Valid c.base (machine_in file c)
  valid = (refusal_0 c.base (length (part file c.memory (c.events - c.memory))) c.state).0 (rw size sound.4)

  -- every event of the case's run is answered without a refusal
  pub none_refused_on : NoneRefused c.base (machine_in file c) (events_of (drop c.events file))
  none_refused_on =
      good_run c.base (machine_in file c) valid (drop c.events file)
      (subst (λ (n : ℕ). checked_of c.state.count c.base n (drop c.events file) ≡ Ok tt) (sym size) sound.5)

  -- and no line of its report is that of a refusal
  pub no_refused_line_on : UnrefusedReport c.state.count (c.events - c.memory) (events_of (drop c.events file)) (report_on board file)
  unfolding report_on lines_of_case
  no_refused_line_on =
      record {
        lines = lines_of c.base (machine_in file c) 0 (events_of (drop c.events file));
        unrefused = lines_unrefused c.base (machine_in file c) 0 (events_of (drop c.events file)) none_refused_on;
        whole = ap (text_of_case file) read ∙ rw size;
      }

-- ---- and where no board is given

module _ (file : List ℕ) (c : Case) (read : case_of file ≡ Ok c) where
  pub none_refused : NoneRefused c.base (machine_in file c) (events_of (drop c.events file))
  none_refused = none_refused_on default_board default_board_allowed file c read

  pub no_refused_line : UnrefusedReport c.state.count (c.events - c.memory) (events_of (drop c.events file)) (report_of file)
  no_refused_line = no_refused_line_on default_board default_board_allowed file c read
