use native.Mathlib.Omega.{arith}
use borrow.Author.Tests.{eq-eqb, ne_eqb}
use Rattle.boards.proofs.FileLaws.{body_else}
use Rattle.boards.proofs.misaligned_at.Goals as goal

pub returns-then-format-eq1 : goal.returns-then-format-eq1
returns-then-format-eq1 c = rw (eq-eqb _ 1 c.if-format-eq1.true)

pub load_at-requires : goal.load_at-requires
load_at-requires c = record {
  n_in_bounds = omega (arith, body_else _ c.if-format-eq1.false);
  n_bound = omega arith;
}

pub returns : goal.returns
returns c = rw (ne_eqb _ 1 c.if-format-eq1.false) c.load_at.ensures
