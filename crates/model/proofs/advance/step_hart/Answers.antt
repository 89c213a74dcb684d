use Rattle.std.proofs.Common.{ap, ◌∙◌}
use Rattle.model.specs.Perform.{step_of}
use Rattle.model.specs.Advance.{state_by, reply_by}
use Rattle.model.proofs.AdvanceLaws.{state_done, reply_done, leaves_done}
use Rattle.model.proofs.advance.step_hart.Goals as goal

pub returns : goal.returns
returns c =
    let a = c.args in
    let s = a.s.now in
    let e = step_of a.base a.mem.now s a.h in
    let fetched = c.fetch-done.ensures in record {
      reply = c.settle.ensures.reply ∙ ap (λ r. reply_by r s) fetched.answer ∙ reply_done a.h s e;
      state = c.settle.ensures.state_after ∙ ap (λ r. state_by a.h r s) fetched.answer ∙ state_done a.h s e;
      memory = fetched.memory ∙ leaves_done a.h e a.base a.mem.now;
    }
