use Rattle.text.proofs.PutLaws.{then}
use Rattle.steplog.specs.Row.{row_of}
use Rattle.steplog.proofs.put_row.Goals as goal

pub returns-clause-put : goal.returns-clause-put
unfolding row_of
returns-clause-put c =
    then c.put_field-pc.ensures.put
    (then c.put_field-word.ensures.put
    (then (rw c.from.ensures at c.put_field-rd.ensures.put) (then c.put_field-value.ensures.put c.put_field.ensures.put)))
