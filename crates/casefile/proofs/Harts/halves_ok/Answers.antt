use Rattle.std.proofs.Common.{◌≡◌, ◌≤◌, ◌^◌, arith, sym}
use borrow.Author.Tests.{eq-eqb, le-ltb}
use Rattle.word.proofs.EachLaws.{all_fails}
use Rattle.casefile.specs.Harts.{number_of}
use Rattle.casefile.proofs.Harts.halves_ok.Goals as goal

pub returns-then-load_at-ge-NARROW : goal.returns-then-load_at-ge-NARROW
returns-then-load_at-ge-NARROW c =
    let big : 2 ^ 32 ≤ number_of c.args.self.body.now c.loop-i.i = omega (arith, c.if-load_at-ge-NARROW.true, c.load_at.ensures) in
    let narrow : c.args.kind ≡ 1 = omega arith in
    rw (eq-eqb _ _ narrow) (sym (all_fails _ c.loop-i.i _ (omega arith) (le-ltb _ _ big)))
