use Rattle.std.proofs.Common.{ap, ◌∙◌}
use Rattle.settings.specs.Settings.{granule_of}
use Rattle.casefile.proofs.HartsLaws.{granule_allowed}
use Rattle.casefile.proofs.memory_ok.Goals as goal

pub remainder-requires : goal.remainder-requires
remainder-requires c =
    granule_allowed c.args.board c.args.harts.now _ c.requires.board_rules (c.granule-granule.ensures ∙ ap granule_of c.read_settings-settings.ensures)
