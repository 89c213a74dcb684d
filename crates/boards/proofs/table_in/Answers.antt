use mathlib.Core.Path.{refl, sym, ◌∙◌}
use native.Mathlib.Omega.{arith}
use Rattle.boards.proofs.FileLaws.{whole_table, table_few, table_many, table_long}
use Rattle.boards.proofs.table_in.Goals as goal
use Rattle.boards.proofs.table_in.Goals.{then-count-lt1-via-then-count-lt1, then-count-lt1-via-else-count-lt1+then-count-gt16, then-count-lt1-via-else-count-lt1+else-count-gt16+then-file-start_of}

pub returns-then-count-lt1 : goal.returns-then-count-lt1
returns-then-count-lt1 c =
    elim c.then-count-lt1.branch [
      | then-count-lt1-via-then-count-lt1 w ↦ table_few _ _ _ w.if-count-lt1.true
      | then-count-lt1-via-else-count-lt1+then-count-gt16 w ↦ table_many _ _ _ w.if-count-gt16.true
      | then-count-lt1-via-else-count-lt1+else-count-gt16+then-file-start_of w ↦ table_long _ _ _ (λ e. w.if-file-start_of.true (e ∙ sym w.start_of.ensures))
    ]

pub returns-then-entries_ok : goal.returns-then-entries_ok
returns-then-entries_ok c =
    let whole = whole_table _ _ _ (omega arith) (omega arith) (c.if-file-start_of.false ∙ c.start_of.ensures) in
    (whole ∙ sym c.entries_ok.ensures ∙ c.if-entries_ok.true, refl, refl, refl)

pub returns-else-entries_ok : goal.returns-else-entries_ok
returns-else-entries_ok c =
    let whole = whole_table _ _ _ (omega arith) (omega arith) (c.if-file-start_of.false ∙ c.start_of.ensures) in
    whole ∙ sym c.entries_ok.ensures ∙ c.if-entries_ok.false
