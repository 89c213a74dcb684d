use Rattle.std.proofs.Common.{◌^◌, ◌<◌, length}
use Rattle.word.specs.Bytes.{le}
use Rattle.word.proofs.BytesLaws.{le_lt}
use Rattle.decode_table.proofs.line.Goals as goal

pub overflow_cast-word : goal.overflow_cast-word
overflow_cast-word g c =
    let few : le c.args.bytes.now < 256 ^ length c.args.bytes.now = le_lt c.args.bytes.now (λ i. (c.type_inv.bytes i).fits) in
    record { fits = rw c.load_le.ensures (rw c.requires at few) }
