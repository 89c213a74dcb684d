use Rattle.std.proofs.Common.{length, refl, sym, ◌∙◌}
use Rattle.machine.specs.State.{refusal_of}
use Rattle.machine.proofs.StateLaws.{refused_some}
use Rattle.model.specs.Act.{apply, leaves}
use Rattle.model.specs.Perform.{act_of, answer_of, memory_of}
use Rattle.model.proofs.AdvanceLaws.{lent_valid, answered}
use Rattle.model.proofs.perform.Goals as goal

pub returns-in-Some : goal.returns-in-Some
unfolding answer_of memory_of act_of apply leaves
returns-in-Some c =
    let a = c.args in
    let k = refused_some (refusal_of a.base (length a.mem.now) a.s) c.in-Some.number (sym c.refusal.ensures ∙ c.in-Some.is) in
    record { value = rw (k.1, k.0) refl; mem_after = rw k.1 refl }

pub advance-r-requires : goal.advance-r-requires
advance-r-requires c = lent_valid c.args.base c.args.s c.args.mem.now (sym c.refusal.ensures ∙ c.in_default.is)

pub returns : goal.returns
returns c = let r = answered c.args.base c.args.s c.args.mem.now c.advance-r.ensures in record { value = r.0; mem_after = r.1 }
