use mathlib.Core.Path.{ap, ◌∙◌}
use Rattle.word.specs.Bytes.{le}
use Rattle.word.proofs.MemoryLaws.{lent_part}
use Rattle.word.proofs.bytes.load_at.Goals as goal

pub returns : goal.returns
returns c =
    let args = c.args in
    c.load_le.ensures ∙ ap le (lent_part args.mem.now args.at args.n)
