use native.Mathlib.Omega.{arith}
use lib.ListN.{length}
use Rattle.boards.proofs.WriteLaws.{file_whole}
use Rattle.boards.proofs.put_file.Goals as goal

pub returns : goal.returns
returns c =
    let a = c.args in
    rw (c.put_bodies.ensures, c.put_entries.ensures, c.store_at-2.ensures, c.store_at.ensures)
    (file_whole a.out.now (length a.boards.now) a.boards.now (omega arith))
