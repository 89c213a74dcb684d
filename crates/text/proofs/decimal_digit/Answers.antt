use borrow.Author.Tests.{lt-ltb}
use Rattle.text.proofs.decimal_digit.Goals as goal

pub returns : goal.returns
returns c = simp (lt-ltb _ _ c.requires)
