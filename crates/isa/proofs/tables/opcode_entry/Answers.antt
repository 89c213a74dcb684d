use Rattle.std.proofs.Common.{◌/◌, ◌%◌, ap, ◌∙◌, arith}
use Rattle.isa.specs.Fields.{bits}
use Rattle.isa.specs.Tables.{opcode_at}
use Rattle.isa.proofs.EntryLaws.{rules}
use Rattle.isa.proofs.tables.opcode_entry.Goals as goal

pub returns : goal.returns
returns c =
    let w = c.args.word in
    let f = c.funct3 in
    (rules (w / 4 % 32) f.result (omega arith) f.ensures.1).0 _ _ ∙ ap (opcode_at (bits 6 2 w)) f.ensures.0
