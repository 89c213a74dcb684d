use Rattle.word.proofs.MemoryLaws.{part_lt}
use Rattle.word.proofs.bytes.field.Goals as goal

pub returns : goal.returns
returns c =
    let x = c.args in record {
      value = c.load_at.ensures;
      upper_bound = rw c.load_at.ensures (part_lt x.file.now x.place 4 (λ i. (c.type_inv.file i).fits));
    }
