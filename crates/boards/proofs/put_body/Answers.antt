use native.Mathlib.Omega.{arith}
use Rattle.boards.proofs.WriteLaws.{body_whole}
use Rattle.boards.proofs.put_body.Goals as goal

pub returns : goal.returns
returns c =
    let misaligned = c in
    let version = misaligned in
    let size = version in
    let a = size.args in
    rw (misaligned.store_at-3.ensures, version.store_at-2.ensures, size.store_at.ensures)
    (body_whole a.out.now a.place a.board (omega arith))
