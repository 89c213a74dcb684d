use native.Mathlib.Omega.{arith}
use Rattle.boards.specs.File.{start_of}
use Rattle.boards.proofs.FileLaws.{start_most}
use Rattle.boards.proofs.start_of.Goals as goal

pub overflow_mul-result-2 : goal.overflow_mul-result-2
unfolding start_of
overflow_mul-result-2 c = let a = c.args in rw c.body_size.ensures (omega (arith, start_most a.format a.count a.k (omega arith) (omega arith)))

pub overflow_add-result-2 : goal.overflow_add-result-2
unfolding start_of
overflow_add-result-2 c = let a = c.args in rw c.body_size.ensures (omega (arith, start_most a.format a.count a.k (omega arith) (omega arith)))

pub returns : goal.returns
unfolding start_of
returns c = rw c.body_size.ensures
