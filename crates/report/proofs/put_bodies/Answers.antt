use Rattle.std.proofs.Common.{◌≡◌, ℕ, ◌-◌, length, take, drop, subst, length-take, length-drop, arith}
use mathlib.Core.Path.{ap₂}
use lib.Seq.{take_all}
use Rattle.word.specs.Memory.{part}
use Rattle.machine.specs.State.{refusal_of}
use Rattle.text.proofs.PutLaws.{as_text}
use Rattle.lines.proofs.BehindLaws.{put_last}
use Rattle.report.specs.Report.{lines_of_case}
use Rattle.report.proofs.put_bodies.Goals as goal

pub put_lines_of_case-requires : goal.put_lines_of_case-requires
put_lines_of_case-requires c =
    let a = c.args in
    let p = c.put_bytes in
    let from = length a.out.now - (a.c.events - a.c.memory) in
    let len : a.c.events - a.c.memory ≡ length p.new.out - from = omega (arith, p.auto.out, c.requires) in record {
      body_bound = (simp (length-take, length-drop) (omega (arith, c.requires)), omega (arith, p.auto.out));
      s_value = subst (λ (n : ℕ). refusal_of a.c.base n a.c.state ≡ 0) len c.requires.sound_case.4;
    }

pub returns : goal.returns
unfolding part
returns c =
    let a = c.args in
    let h = c.requires in
    let f = a.file.now in
    let p = c.put_bytes in
    let r = c.put_lines_of_case in
    let l : length (take (a.c.events - a.c.memory) (drop a.c.memory f)) ≡ a.c.events - a.c.memory = simp (length-take, length-drop) (omega (arith, h)) in
    let m = put_last (omega arith) (omega (arith, p.ensures.end, p.auto.out, l, h)) p.ensures in
    let rest = drop a.c.events f in
    let b = take_all (length f - a.c.events) rest (rw length-drop (omega arith)) in
    let x = as_text (ap₂ (lines_of_case a.c.base a.c.state) m b) r.ensures.put in record {
      put = record { end = x.end; holds = x.holds };
      upper_bound = omega (arith, r.ensures.upper_bound, h);
    }
