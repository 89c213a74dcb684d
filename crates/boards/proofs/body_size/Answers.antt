use Rattle.boards.proofs.FileLaws.{body_1, body_else}
use mathlib.Core.Path.{sym}
use Rattle.boards.proofs.body_size.Goals as goal

pub returns-then-format-eq1 : goal.returns-then-format-eq1
returns-then-format-eq1 c = sym (body_1 _ c.if-format-eq1.true)

pub returns-else-format-eq1 : goal.returns-else-format-eq1
returns-else-format-eq1 c = sym (body_else _ c.if-format-eq1.false)
