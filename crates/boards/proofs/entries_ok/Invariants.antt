use mathlib.Core.Path.{◌≡◌}
use mathlib.Core.Bool.{true}
use Rattle.word.specs.Each.{all_below}
use Rattle.boards.specs.File.{entry_ok}
use Rattle.boards.proofs.entries_ok.Given as goal

abbrev pub invariant-loop-k : goal.invariant-loop-k
invariant-loop-k l = (all_below (entry_ok l.table.file.now l.table.format l.table.count) l.k ≡ true)
