use Rattle.settings.proofs.SettingsLaws.{granule_power}
use Rattle.machine.proofs.lent_ok.Goals as goal

pub remainder-requires : goal.remainder-requires
remainder-requires c = rw c.granule-granule.ensures (granule_power c.args.settings c.requires)

pub remainder-requires-then-remainder-eq0 : goal.remainder-requires-then-remainder-eq0
remainder-requires-then-remainder-eq0 c = rw c.granule-granule.ensures (granule_power c.args.settings c.requires)
