use Rattle.std.proofs.Common.{◌≡◌, ℕ, replicate, sym, ◌∙◌, add-one, arith}
use lib.ListN.{length-replicate}
use Rattle.word.proofs.EachLaws.{each_suc}
use Rattle.event_table.specs.Build.{pc_at, pcs_of}
use Rattle.event_table.proofs.build.pcs.Goals as goal

pub loop-h-preserved : goal.loop-h-preserved
loop-h-preserved c =
    let a = c.args in
    let l = c.loop-h in
    rw (c.pc_value.ensures, l.invariant, add-one l.h)
    (sym (each_suc (λ h _. pc_at a.count a.base a.x.now h) l.h (replicate 8 0) 0 (omega (arith, length-replicate {A = ℕ} 8 0))))

pub returns : goal.returns
unfolding pcs_of
returns c =
    let e : c.loop-h.h ≡ 8 = omega arith in
    c.loop-h.invariant ∙ rw e
