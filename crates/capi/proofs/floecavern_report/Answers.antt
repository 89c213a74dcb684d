use Rattle.std.proofs.Common.{◌≡◌, ◌≤◌, length, drop, ◌∙◌, arith}
use lib.Seq.{length-take-le, take-append-le, drop_at}
use Rattle.capi.proofs.floecavern_report.Goals as goal

pub returns : goal.returns
returns c =
    let o = c.args.out.now in
    let p = c.put_report in
    let h : 262144 ≤ length o = c.if-out-lt262144.false in
    let l : length p.new.out ≡ 262144 = p.auto.out ∙ length-take-le 262144 o h in
    record {
      small = λ k. absurd (omega (arith, h, k));
      large = λ _. (
        omega (arith, p.ensures.put.end),
        p.ensures.upper_bound,
        take-append-le p.result p.new.out (drop 262144 o) (omega (arith, l, p.ensures.upper_bound)) ∙ p.ensures.put.holds,
        drop_at p.new.out (drop 262144 o) 262144 l,
      );
    }
