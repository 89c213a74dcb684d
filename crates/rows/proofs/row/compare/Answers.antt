use Rattle.std.proofs.Common.{sym, ◌∙◌}
use Rattle.steplog.proofs.RoundTrip.{read_was_written}
use Rattle.rows.proofs.row.compare.Goals as goal

pub against-requires : goal.against-requires
against-requires c = (c.requires, (read_was_written _ _ _ (sym c.read_row.ensures ∙ c.in-Some.is)).0.counted)
