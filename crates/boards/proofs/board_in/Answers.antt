use native.Mathlib.Omega.{arith}
use Rattle.boards.specs.File.{board_at}
use Rattle.boards.proofs.FileLaws.{body_most, start_within, start_most}
use Rattle.boards.proofs.board_in.Goals as goal

pub load_at-requires : goal.load_at-requires
load_at-requires c =
    let a = c.args in
    record {
      n_in_bounds =
          omega (arith, c.start_of-start.ensures, start_within a.table.format a.table.count a.k a.table.count (omega arith), body_most a.table.format);
      n_bound = omega arith;
    }

pub overflow_add-start : goal.overflow_add-start
overflow_add-start c =
    let a = c.args in
    omega (arith, c.start_of-start.ensures, start_most a.table.format a.table.count a.k (omega arith) (omega arith))

pub load_at-requires-2 : goal.load_at-requires-2
load_at-requires-2 c =
    let a = c.args in
    record {
      n_in_bounds =
          omega (arith, c.start_of-start.ensures, start_within a.table.format a.table.count a.k a.table.count (omega arith), body_most a.table.format);
      n_bound = omega arith;
    }

pub misaligned_at-requires : goal.misaligned_at-requires
misaligned_at-requires c =
    let a = c.args in omega (arith, c.start_of-start.ensures, start_within a.table.format a.table.count a.k a.table.count (omega arith))

pub returns : goal.returns
unfolding board_at
returns c = rw (c.load_at.ensures, c.load_at-2.ensures, c.misaligned_at.ensures, c.start_of-start.ensures)
