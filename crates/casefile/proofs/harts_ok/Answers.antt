use Rattle.std.proofs.Common.{◌≡◌, rules, sym, ap, ◌∙◌}
use Rattle.settings.specs.Settings.{granule_of}
use Rattle.casefile.specs.Harts.{harts_ok}
use Rattle.casefile.proofs.HartsLaws.{granule_allowed, harts_exact}
use Rattle.casefile.proofs.harts_ok.Goals as goal

pub remainder-requires : goal.remainder-requires
remainder-requires c =
    granule_allowed c.args.board c.args.body.now _ c.requires (c.granule-granule.ensures ∙ ap granule_of c.read_settings.ensures)

pub returns-then-pcs_ok-clause-rules : goal.returns-then-pcs_ok-clause-rules
unfolding harts_ok
returns-then-pcs_ok-clause-rules c =
    let value : c.halves_ok.result ≡ harts_ok c.args.board c.args.body.now = search rules in
    λ kept. (harts_exact c.args.board c.args.body.now).0 (sym value ∙ kept)
