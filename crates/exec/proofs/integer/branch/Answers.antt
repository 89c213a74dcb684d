use Prim.Native.Nat.{◌%◌}
use lib.Dec.{eqb}
use Rattle.word.proofs.TestLaws.{bool_cases}
use Rattle.effect.specs.Integer.{exec_branch}
use Rattle.exec.proofs.integer.branch.Goals as goal

-- setting x0 is setting none
pub returns-then-taken : goal.returns-then-taken
unfolding exec_branch
returns-then-taken c = λ h.
    rw (c.if-taken.true, c.go_to.ensures h) (bool_cases (eqb (c.args.to % 4) 0) (λ t. rw t) (λ f. rw f))
