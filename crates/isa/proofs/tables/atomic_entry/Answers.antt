use Rattle.std.proofs.Common.{ap, ◌∙◌, ℕ}
use Rattle.isa.specs.Fields.{funct5_of}
use Rattle.isa.specs.Tables.{atomic_at}
use Rattle.isa.proofs.EntryLaws.{rules}
use Rattle.isa.proofs.tables.atomic_entry.Goals as goal

pub returns : goal.returns
returns c =
    let c5 = c.funct5 in
    let f = c.funct3 in
    (rules c5.result f.result c5.ensures.1 f.ensures.1).1 _ _
    ∙ ap (λ (k : ℕ). atomic_at k f.result) c5.ensures.0 ∙ ap (atomic_at (funct5_of c.args.word)) f.ensures.0
