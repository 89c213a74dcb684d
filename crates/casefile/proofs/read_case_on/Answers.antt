use Rattle.std.proofs.Common.{sym, ap, subst, ◌∙◌}
use Rattle.casefile.specs.Case.{case_on, parts_of, SoundCase}
use Rattle.casefile.proofs.CaseLaws.{case_sound_on}
use Rattle.casefile.proofs.read_case_on.Goals as goal

pub returns-clause-sound_case : goal.returns-clause-sound_case
unfolding case_on
returns-clause-sound_case c =
    let file = c.args.file.now in
    let value = c.read_bodies.ensures ∙ ap (parts_of c.args.board file) (sym c.in_ok-bodies.was ∙ c.read_table.ensures) in
    subst (SoundCase file) (sym value) (case_sound_on c.args.board c.requires file)
