use Rattle.board_choice.proofs.pick.Goals as goal

pub returns-in-Some-clause-allowed : goal.returns-in-Some-clause-allowed
returns-in-Some-clause-allowed g c = let kept = rw c.in_ok-file.was at c.requires in kept.4 c.in-Some.k c.if-k-file.true
