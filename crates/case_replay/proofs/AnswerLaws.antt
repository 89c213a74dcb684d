-- The lines of an answer put together. Assumes nothing.
use mathlib.Core.Path.{◌≡◌}
use mathlib.Core.List.{List, ◌++◌, append_assoc}
use Prim.Native.Nat.{ℕ}
use Rattle.text.specs.Ascii.{ascii}
use Rattle.text.specs.Number.{decimal_of}
use Rattle.text.specs.Put.{Put}
use Rattle.text.proofs.PutLaws.{then, as_text}
use Rattle.report.specs.Report.{end_line}
use Rattle.case_replay.specs.Answer.{log_line, three_lines, row_told}

-- the first line and the row's number, the reason, and the rest
pub told : (all k : ℕ) (reason : List ℕ) {a b c d : List ℕ} {p q r s : ℕ} → Put a p (log_line all ++ (ascii "row " ++ decimal_of k)) b q → Put b q reason c r
    → Put c r (ascii "\n" ++ end_line k) d s → Put a p (three_lines all k (row_told k reason)) d s
told all k reason x y z =
    as_text (regroup (log_line all) (ascii "row ") (decimal_of k) reason (ascii "\n" ++ end_line k)) (then x (then y z))
  where
    regroup : (l r d s e : List ℕ) → (l ++ (r ++ d)) ++ (s ++ e) ≡ l ++ ((r ++ (d ++ s)) ++ e)
    regroup l r d s e = simp append_assoc
