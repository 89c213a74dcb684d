-- An answer of the checker of retry loops as a line: `accepted`, `rejected PLACE REASON` or `refused NUMBER`.
use Rattle.std.specs.Prelude.{List, ◌++◌, ℕ}
use Rattle.text.specs.Ascii.{ascii}
use Rattle.text.specs.Number.{decimal_of}
use Rattle.retry.specs.declared.LoopAnswer.{LoopAnswer}
use Rattle.retry.specs.declared.LoopAnswer.TheVariants.{Accepted, Rejected, Refused}

abbrev pub loop_line : LoopAnswer → List ℕ
loop_line Accepted = ascii "accepted\n"
loop_line (Rejected place reason) = ascii "rejected " ++ (decimal_of place ++ (ascii " " ++ (decimal_of reason ++ ascii "\n")))
loop_line (Refused number) = ascii "refused " ++ (decimal_of number ++ ascii "\n")
