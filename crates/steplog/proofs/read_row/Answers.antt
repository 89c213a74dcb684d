use mathlib.Core.Path.{◌≡◌, sym, ◌∙◌}
use native.Mathlib.Omega.{arith}
use lib.ListN.{length}
use Rattle.word.specs.Memory.{part}
use Rattle.word.proofs.MemoryLaws.{length_part}
use Rattle.word.proofs.TestLaws.{contrary}
use Rattle.steplog.proofs.DigitsLaws.{number_none, number_below}
use Rattle.steplog.proofs.ReadLaws.{form_fails, digits_say, counts, field_is, row_read}
use Rattle.steplog.proofs.read_row.Goals as goal

pub returns-then-part-ne48 : goal.returns-then-part-ne48
returns-then-part-ne48 c = form_fails _ _ (λ f. c.if-part-ne48.true f.long)

pub returns-then-not-between : goal.returns-then-not-between
returns-then-not-between c = form_fails _ _ (λ f. contrary f.between (sym c.between.ensures ∙ c.if-not-between.true))

pub returns-in_err-hart : goal.returns-in_err-hart
unfolding part
returns-in_err-hart c =
    let none = number_none _ _ (sym c.read_number.ensures ∙ c.in_err-hart.was) in
    c.from_residual.ensures ∙ form_fails _ _ (λ f. contrary (digits_say _ f.digits).hart none)

pub returns-in_err-pc : goal.returns-in_err-pc
unfolding part
returns-in_err-pc c =
    let none = number_none _ _ (sym c.read_number-2.ensures ∙ c.in_err-pc.was) in
    c.from_residual-in_err-pc.ensures ∙ form_fails _ _ (λ f. contrary (digits_say _ f.digits).pc none)

pub returns-in_err-word : goal.returns-in_err-word
unfolding part
returns-in_err-word c =
    let none = number_none _ _ (sym c.read_number-3.ensures ∙ c.in_err-word.was) in
    c.from_residual-in_err-word.ensures ∙ form_fails _ _ (λ f. contrary (digits_say _ f.digits).word none)

pub returns-in_err-rd : goal.returns-in_err-rd
unfolding part
returns-in_err-rd c =
    let none = number_none _ _ (sym c.read_number-4.ensures ∙ c.in_err-rd.was) in
    c.from_residual-in_err-rd.ensures ∙ form_fails _ _ (λ f. contrary (digits_say _ f.digits).rd none)

pub returns-in_err-value : goal.returns-in_err-value
unfolding part
returns-in_err-value c =
    let none = number_none _ _ (sym c.read_number-5.ensures ∙ c.in_err-value.was) in
    c.from_residual-in_err-value.ensures ∙ form_fails _ _ (λ f. contrary (digits_say _ f.digits).value none)

pub overflow_cast-word : goal.overflow_cast-word
unfolding part
overflow_cast-word c =
    let p = c.args.part.now in
    let few : length (part p 19 8) ≡ 8 = length_part p 19 8 (omega arith) in
    record { fits = rw few at (number_below 16 (part p 19 8) c.in_ok-word.field-0 (sym c.read_number-3.ensures ∙ c.in_ok-word.was)) }

pub returns-then-count-hart : goal.returns-then-count-hart
unfolding part
returns-then-count-hart c =
    let hart = field_is c.args.part.now 10 0 1 c.in_ok-hart.hart (sym c.read_number.ensures ∙ c.in_ok-hart.was) in
    form_fails _ _ (λ f. let l = counts _ _ _ f hart in omega (arith, l))

pub returns : goal.returns
unfolding part
returns c =
    let p = c.args.part.now in
    row_read c.args.count p _ (omega arith) (sym c.between.ensures ∙ c.if-not-between.false)
    (field_is p 10 0 1 c.in_ok-hart.hart (sym c.read_number.ensures ∙ c.in_ok-hart.was))
    (field_is p 16 2 16 c.in_ok-pc.pc (sym c.read_number-2.ensures ∙ c.in_ok-pc.was))
    (field_is p 16 19 8 c.in_ok-word.field-0 (sym c.read_number-3.ensures ∙ c.in_ok-word.was))
    (field_is p 10 28 2 c.in_ok-rd.rd (sym c.read_number-4.ensures ∙ c.in_ok-rd.was))
    (field_is p 16 31 16 c.in_ok-value.value (sym c.read_number-5.ensures ∙ c.in_ok-value.was))
    (omega arith)
