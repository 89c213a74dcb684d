use Rattle.arguments.proofs.NumberLaws.{said_most}
use Rattle.arguments.proofs.argument.Goals as goal

pub returns-in-Ok : goal.returns-in-Ok
returns-in-Ok g c = rw c.number_in.ensures (said_most _ c.args.other)
