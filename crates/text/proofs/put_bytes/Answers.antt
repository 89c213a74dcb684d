use mathlib.Core.Path.{◌≡◌, refl}
use native.Mathlib.Nat.{add-zero}
use native.Mathlib.Omega.{arith}
use lib.ListN.{length, length-set}
use lib.Seq.{take_all}
use borrow.Author.Rules.{rules}
use Rattle.text.proofs.PutLaws.{none, more, as_text}
use Rattle.text.proofs.put_bytes.Goals as goal

pub loop-i-init : goal.loop-i-init
loop-i-init c = (search rules, refl, rw add-zero (none _ _))

pub loop-i-preserved : goal.loop-i-preserved
loop-i-preserved c =
    let at = c.loop-i in
    let s = c.args.s.now in
    (omega arith, simp length-set at.invariant.1, more s at.i (omega arith) (omega arith) at.invariant.2)

pub shape_of-out : goal.shape_of-out
shape_of-out c = c.loop-i.invariant.1

pub returns : goal.returns
returns c =
    let at = c.loop-i in
    let s = c.args.s.now in
    let all : at.i ≡ length s = omega arith in
    rw (← all) (as_text (take_all at.i s (omega arith)) at.invariant.2)
