use Rattle.std.proofs.Common.{sym, ◌∙◌}
use Rattle.model.proofs.AdvanceLaws.{lent_valid}
use Rattle.rows.proofs.replay.Goals as goal

pub replay_rows-requires : goal.replay_rows-requires
replay_rows-requires c = lent_valid _ _ _ (sym c.refusal.ensures ∙ c.in_default.is)
