use Rattle.std.proofs.Common.{◌≡◌, ℕ, ◌*◌, ◌-◌, ◌/◌, ◌≤◌, List, length, drop, refl, sym, ap, ◌∙◌, subst, length-drop, arith}
use Rattle.machine.specs.State.{refusal_of}
use Rattle.machine.proofs.StateLaws.{refusal_0}
use Rattle.text.proofs.PutLaws.{none, then, as_text}
use Rattle.events.proofs.EventLaws.{events_next, events_none, cut_count}
use Rattle.model.specs.Perform.{Machine, run_of}
use Rattle.model.specs.Valid.{Valid}
use Rattle.model.proofs.Valid.{valid_next}
use Rattle.model.proofs.AdvanceLaws.{run_more}
use Rattle.lines.specs.Lines.{behind, lines_of}
use Rattle.lines.proofs.LineLaws.{lines_more}
use Rattle.lines.proofs.BehindLaws.{front_behind, front_put, lent_behind, advances_as, reply_same}
use Rattle.lines.proofs.BehindLaws.{back, back_within, back_behind, back_put}
use Rattle.lines.proofs.put_lines.Goals as goal

pub loop-i-init : goal.loop-i-init
loop-i-init c =
    let a = c.args in
    let mem = drop a.from a.out.now in
    let g = c.into_iter-i-iterator.ensures.into_iter_gives in
    let n = c.enumerate-i-items.ensures in
    let k = c.chunks_exact.ensures in
    let unrefused = subst (λ (k : ℕ). refusal_of a.base k a.s ≡ 0) (sym (length-drop a.from a.out.now)) c.requires.s_value in (
      omega arith,
      (refusal_0 a.base (length mem) a.s).0 unrefused,
      rw (g, n.count, n.source, k.rest) (λ o r x. x),
      rw (g, n.source, k.rest) refl,
      rw (g, n.source) k.size,
      rw (g, n.count, n.source, k.rest) (omega arith),
    )

pub advance-r-requires : goal.advance-r-requires
advance-r-requires c =
    let l = c.loop-i in
    subst (λ (mem : List ℕ). Valid c.args.base (record { state = l.state; mem = mem })) (sym (lent_behind l.out c.args.from)) l.invariant.1

pub loop-i-preserved : goal.loop-i-preserved
loop-i-preserved c =
    let a = c.args in
    let l = c.loop-i in
    let body = a.body.now in
    let n = length body / 24 in
    let mem = c.advance-r.new.mem in
    let kept = c.advance-r.auto.mem in
    let line = c.put_line-p in
    let out = back l.out mem a.from in
    let lies : a.from ≤ length l.out = omega (arith, c.requires, l.auto.out) in
    let w : a.from ≤ length out = back_within l.out mem a.from lies kept in
    let left = front_behind out line.new.out a.from w line.auto.out ∙ back_behind l.out mem a.from lies kept in
    let here = behind l.state a.from l.out in
    let more = advances_as (ap (λ (m : List ℕ). record { state = l.state; mem = m }) (lent_behind l.out a.from))
    (ap (λ (m : List ℕ). record { state = c.advance-r.new.s; mem = m }) (sym left)) c.advance-r.ensures in
    let q = more.machine in
    let s = c.in-Some.ensures.steps in
    let i = l.i-iterator.count in
    let whole = s.0.1.1 ∙ l.invariant.4 in
    let count = cut_count _ _ _ s.0.1.0 whole in
    let next = events_next _ _ _ s.0.1.0 whole in
    let e = c.read_event-e.ensures in
    let first : l.p ≤ a.from = omega (arith, c.requires, l.invariant.0, l.invariant.5) in
    let last : line.result ≤ a.from = omega (arith, c.requires, l.invariant.0, l.invariant.5, count, line.ensures.upper_bound) in
    let front = front_put out line.new.out a.from w line.auto.out first last line.ensures.put in
    let put = back_put l.out mem a.from lies kept first front in (
      omega (arith, line.ensures.upper_bound, l.invariant.0, s.2),
      subst (Valid a.base) (sym q) (valid_next a.base here l.invariant.1 c.read_event-e.result),
      λ o r y. l.invariant.2 o r (as_text (sym (rw s.2 (lines_more a.base here _ i c.read_event-e.result _ next e (reply_same more) q))) (then (rw s.1 at put) y)),
      run_more a.base here next e q ∙ l.invariant.3,
      s.0.0 ∙ l.invariant.4,
      omega (arith, s.2, count, l.invariant.5),
    )

pub returns : goal.returns
unfolding run_of lines_of
returns c =
    let a = c.args in
    let l = c.loop-i in
    let none_left = events_none l.i-iterator.iter.rest.now (omega (arith, c.in-None.ensures.steps, l.invariant.4)) in record {
      put = l.invariant.2 l.out l.p (rw none_left (none l.out l.p));
      upper_bound = omega (arith, l.invariant.0, l.invariant.5);
      out_after = ap (λ (m : Machine). m.mem) (rw none_left at l.invariant.3);
    }
