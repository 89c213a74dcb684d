use mathlib.Core.Path.{◌≡◌, ap, ◌∙◌}
use Prim.Native.Nat.{◌/◌, ◌^◌}
use borrow.Author.Tests.{eq-eqb, ne_eqb}
use Rattle.word.specs.Word.{low}
use Rattle.word.proofs.WordLaws.{low_id}
use Rattle.isa.specs.Width.{bits_of}
use Rattle.alu.specs.Pair.{joined}
use Rattle.alu.proofs.PairLaws.{low_half, high_half}
use Rattle.exec.proofs.atomic.retire_pair.Goals as goal

pub returns-then-first-eq0 : goal.returns-then-first-eq0
returns-then-first-eq0 c = rw (eq-eqb _ _ c.if-first-eq0.true) c.retire.ensures

pub returns : goal.returns
unfolding low
returns c =
    let x = c.args in
    let pre = c.requires in
    let p = x.old in
    let k = bits_of x.w in
    let lo : low k (joined x.w p) ≡ p.low = low_half (2 ^ k) p.low p.high pre.0 in
    let hi : low k (joined x.w p / 2 ^ k) ≡ p.high = ap (low k) (high_half (2 ^ k) p.low p.high pre.0) ∙ low_id k p.high pre.1 in
    simp (ne_eqb _ _ c.if-first-eq0.false, lo, hi, c.add.ensures)
