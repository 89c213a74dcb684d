use Rattle.std.proofs.Common.{◌≡◌, sym, ◌∙◌, add-one, arith}
use Rattle.word.proofs.EachLaws.{each_suc}
use Rattle.event_table.specs.Build.{filler}
use Rattle.event_table.proofs.build.fill.Goals as goal

pub loop-i-preserved : goal.loop-i-preserved
loop-i-preserved c =
    let i = c.loop-i.i in
    rw (c.loop-i.invariant, add-one i) (sym (each_suc (λ j _. filler j) i c.args.mem.now 0 (omega arith)))

pub returns : goal.returns
returns c =
    let e : c.loop-i.i ≡ 8192 = omega arith in
    c.loop-i.invariant ∙ rw e
