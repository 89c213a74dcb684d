use Rattle.std.proofs.Common.{◌≡◌, ℕ, ◌*◌, ◌%◌, ◌^◌, ◌≤◌, ◌<◌, None, get_or, refl, sym, ap, ◌∙◌, add-one, arith}
use Rattle.std.proofs.Math.Nat.{pow-le-pow_right}
use lib.Seq.{set-get_or}
use Rattle.word.proofs.EachLaws.{each_suc, each_past}
use Rattle.reserve.specs.Reserve.{breaks_of, broken_of}
use Rattle.reserve.specs.Harts.{write_notice, break_slot}
use Rattle.reserve.proofs.BrokenLaws.{broken_below}
use Rattle.reserve.proofs.harts.break_all.Goals as goal
use Rattle.reserve.proofs.harts.break_all.Goals.{then-breaks, else-breaks}

pow_small : (k : ℕ) → k < 8 → 2 ^ k ≤ 256
pow_small k h = let most : k ≤ 8 = omega arith in pow-le-pow_right (omega arith) most

bit_small : (k : ℕ) → k < 8 → 1 * 2 ^ k % 18446744073709551616 ≡ 2 ^ k
bit_small k h = omega (arith, pow_small k h)

pub loop-k-init : goal.loop-k-init
unfolding broken_of
loop-k-init c = (refl, refl)

pub overflow_add-broken : goal.overflow_add-broken
overflow_add-broken c =
    let a = c.args in
    let k = c.loop-k.k in
    omega (arith, pow_small k (omega arith), broken_below a.settings (write_notice a.w) a.res.now k, c.loop-k.invariant.1)

pub loop-k-preserved : goal.loop-k-preserved
unfolding broken_of
loop-k-preserved c =
    let a = c.args in
    let n = write_notice a.w in
    let l = a.res.now in
    let k = c.loop-k.k in
    let i = c.loop-k.invariant in
    let same : get_or c.loop-k.res k None ≡ get_or l k None = rw i.0 (each_past (break_slot a.settings n) k k l None (omega arith)) in
    let broke : breaks_of a.settings k n (get_or l k None) ≡ c.breaks.result = ap (breaks_of a.settings k n) (sym same) ∙ sym c.breaks.ensures in
    let more = each_suc (break_slot a.settings n) k l None (omega arith) in
    elim c.if-breaks.branch [
      | then-breaks w ↦ (
        rw (w.res-is, add-one, more, broke, w.if-breaks.true, i.0),
        rw (w.broken-is, add-one, broke, w.if-breaks.true, i.1, bit_small k (omega arith)),
      )
      | else-breaks w ↦ (
        rw (w.res-is, add-one, more, broke, w.if-breaks.false, ← same, i.0) (sym (set-get_or _ k None)),
        rw (w.broken-is, add-one, broke, w.if-breaks.false, i.1) (omega arith),
      )
    ]
