use Rattle.std.proofs.Common.{◌≡◌, ℕ, replicate, sym, ◌∙◌, add-one, arith}
use lib.ListN.{length-replicate}
use Rattle.word.proofs.EachLaws.{each_suc}
use Rattle.event_table.specs.Build.{register_at, registers_of}
use Rattle.event_table.proofs.build.registers.Goals as goal

pub loop-i-preserved : goal.loop-i-preserved
loop-i-preserved c =
    let a = c.args in
    let l = c.loop-i in (
      omega (arith, l.invariant.0),
      rw (c.register.ensures, l.invariant.0, l.invariant.1, add-one l.i)
          (sym (each_suc (λ i _. register_at a.count i) l.i (replicate 256 0) 0 (omega (arith, length-replicate {A = ℕ} 256 0)))),
    )

pub returns : goal.returns
unfolding registers_of
returns c =
    let e : c.loop-i.i ≡ 256 = omega arith in
    c.loop-i.invariant.1 ∙ rw e
