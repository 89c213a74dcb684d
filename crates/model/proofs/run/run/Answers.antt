use Rattle.std.proofs.Common.{◌/◌, length, refl, sym, ap, ◌∙◌, Ok, arith}
use Rattle.machine.specs.State.{refusal_of}
use Rattle.machine.proofs.StateLaws.{refused_none, refused_some}
use Rattle.model.specs.Perform.{Machine}
use Rattle.model.specs.Run.{result_of}
use Rattle.model.proofs.AdvanceLaws.{lent_valid, take_events}
use Rattle.model.proofs.run.run.Goals as goal

pub returns-in-Some : goal.returns-in-Some
unfolding result_of
returns-in-Some c =
    let a = c.args in
    let k = refused_some (refusal_of a.base (length a.mem.now) a.s) c.in-Some.number (sym c.refusal.ensures ∙ c.in-Some.is) in
    record { value = rw (k.1, ← k.0) c.refused_run.ensures; mem_after = rw k.1 refl }

pub returns-in-Err : goal.returns-in-Err
unfolding result_of
returns-in-Err c =
    let none = refused_none _ (sym c.refusal.ensures ∙ c.in_default.is) in
    let bad = sym c.check.ensures.value ∙ c.in-Err.is in
    record { value = rw (none, bad) c.refused_run-in-Err.ensures; mem_after = rw (none, bad) refl }

pub perform_first-requires-clause-valid : goal.perform_first-requires-clause-valid
perform_first-requires-clause-valid c = lent_valid c.args.base c.args.s c.args.mem.now (sym c.refusal.ensures ∙ c.in_default.is)

pub returns : goal.returns
unfolding result_of
returns c =
    let a = c.args in
    let n = c.min-n.result in
    let t = take_events n (length a.body.now / 24) a.body.now (omega (arith, c.min-n.ensures)) in
    let none = refused_none _ (sym c.refusal.ensures ∙ c.in_default.is) in
    let good = sym c.check.ensures.value ∙ c.in_default-check.is in
    let p = c.perform_first.ensures in record {
      value = rw (none, good, ← c.min-n.ensures, t) (ap (λ (m : Machine). record { verdict = Ok tt; performed = n; state = m.state }) p);
      mem_after = rw (none, good, ← c.min-n.ensures, t) (ap (λ (m : Machine). m.mem) p);
    }
