use Rattle.std.proofs.Common.{refl, sym, ◌∙◌, arith}
use Rattle.events.proofs.EventLaws.{cut_place, first_bad_next, first_bad_none}
use Rattle.events.proofs.check.Goals as goal

pub returns-then-not-good_event-clause-value : goal.returns-then-not-good_event-clause-value
returns-then-not-good_event-clause-value c =
    let a = c.args in
    let l = c.loop-i in
    let s = c.in-Some.ensures.steps in
    let next = first_bad_next _ _ _ s.0.1.0 (s.0.1.1 ∙ l.invariant.0) a.count a.base a.len a.body.now l.i-iterator.count l.invariant.1 in
    rw (s.1, l.invariant.2, next, ← c.good_event.ensures, c.if-not-good_event.true) refl

pub loop-i-preserved : goal.loop-i-preserved
loop-i-preserved c =
    let a = c.args in
    let l = c.loop-i in
    let s = c.in-Some.ensures.steps in
    let i = l.i-iterator.count in
    let whole = s.0.1.1 ∙ l.invariant.0 in
    let next = first_bad_next _ _ _ s.0.1.0 whole a.count a.base a.len a.body.now i l.invariant.1 in (
      s.0.0 ∙ l.invariant.0,
      rw s.2 (cut_place _ _ _ s.0.1.0 whole a.count a.base a.len a.body.now i l.invariant.1),
      rw (s.2, l.invariant.2, next, ← c.good_event.ensures, c.if-not-good_event.false) refl,
    )

pub returns-clause-value : goal.returns-clause-value
returns-clause-value c =
    let a = c.args in
    let l = c.loop-i in
    rw l.invariant.2 (sym (first_bad_none a.count a.base a.len a.body.now l.i-iterator.iter.rest.now _ (omega (arith, c.in-None.ensures.steps, l.invariant.0))))
