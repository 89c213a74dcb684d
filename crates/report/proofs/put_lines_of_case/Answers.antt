use mathlib.Core.Path.{◌≡◌, sym, ap, subst}
use mathlib.Core.List.{List}
use Prim.Native.Nat.{ℕ, ◌-◌}
use native.Mathlib.Omega.{arith}
use lib.ListN.{length-drop}
use Rattle.machine.specs.State.{refusal_of}
use Rattle.events.specs.Events.{events_of}
use Rattle.events.proofs.EventLaws.{length_events}
use Rattle.text.proofs.PutLaws.{then, as_text}
use Rattle.lines.specs.Lines.{lines_of}
use Rattle.lines.proofs.BehindLaws.{front_length, front_behind, front_put}
use Rattle.report.specs.Report.{lines_of_case}
use Rattle.report.proofs.put_lines_of_case.Goals as goal

pub put_lines-q-requires : goal.put_lines-q-requires
put_lines-q-requires c =
    let a = c.args in
    let pre = c.requires in
    let h = c.put_case-p in
    let long = front_length a.out.now h.new.out a.from pre.body_bound.1 h.auto.out in record {
      body_bound = (omega (arith, h.ensures.upper_bound, pre), omega (arith, long, pre));
      s_value = subst (λ (k : ℕ). refusal_of a.base (k - a.from) a.s ≡ 0) (sym long) pre.s_value;
    }

pub returns : goal.returns
unfolding lines_of_case
returns c =
    let a = c.args in
    let pre = c.requires in
    let h = c.put_case-p in
    let l = c.put_lines-q in
    let e = c.put_end in
    let start = front_put a.out.now h.new.out a.from pre.body_bound.1 h.auto.out (omega arith) (omega (arith, h.ensures.upper_bound, pre)) h.ensures.put in
    let same = front_behind a.out.now h.new.out a.from pre.body_bound.1 h.auto.out in
    let text = as_text (ap (λ (m : List ℕ). lines_of a.base (record { state = a.s; mem = m }) 0 (events_of a.body.now)) same) l.ensures.put in record {
      put = rw (length_events, length-drop) (then start (then text e.ensures.put));
      upper_bound = omega (arith, pre, h.ensures.upper_bound, l.ensures.upper_bound, e.ensures.upper_bound);
    }
