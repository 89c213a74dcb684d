use Prim.Native.Nat.{◌+◌}
use native.Mathlib.Omega.{arith}
use Rattle.word.specs.Bytes.{to_le}
use Rattle.word.proofs.BytesLaws.{length-to_le}
use Rattle.boards.proofs.WriteLaws.{splice_next}
use Rattle.boards.proofs.put_entry.Goals as goal

pub returns : goal.returns
returns c =
    let a = c.args in
    rw (c.store_at-2.ensures, c.store_at.ensures)
    (splice_next a.out.now a.place (a.place + 4) (to_le 4 a.start) (to_le 4 4) (omega (arith, length-to_le 4 a.start))
    (omega (arith, length-to_le 4 4)))
