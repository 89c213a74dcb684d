use Rattle.std.proofs.Common.{ap, ◌∙◌}
use Rattle.model.specs.Perform.{Machine, next_of}
use Rattle.model.specs.declared.Answer.{Answer}
use Rattle.log_maker.proofs.MadeLaws.{made_is}
use Rattle.log_maker.proofs.make_row.Goals as goal

pub returns : goal.returns
unfolding next_of
returns c =
    let step = c.step-a in
    let a = c.args in
    let m : Machine = record { state = a.s; mem = a.mem.now } in record {
      made_value = c.made_by.ensures ∙ made_is a.base m a.h _ _ _ step.ensures.value c.word_of-word.ensures c.row_of-row.ensures;
      state_value = ap (λ (x : Answer). x.state) step.ensures.value;
      mem_after = step.ensures.mem_after;
    }
