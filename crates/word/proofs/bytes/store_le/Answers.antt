use Rattle.std.proofs.Common.{◌≡◌, ◌-◌, length, sym, ◌∙◌, append-nil, arith, take_all}
use Rattle.word.specs.Bytes.{to_le}
use Rattle.word.proofs.BytesLaws.{to_le-step}
use Rattle.word.proofs.bytes.store_le.Goals as goal

pub loop-b-preserved : goal.loop-b-preserved
loop-b-preserved c =
    let at = c.loop-b in
    to_le-step at.bytes at.b-index (length c.args.bytes.now) at.rest (omega arith) at.auto.bytes ∙ at.invariant

pub returns : goal.returns
unfolding to_le
returns c =
    let at = c.loop-b in
    let e : length c.args.bytes.now - at.b-index ≡ 0 = omega arith in
    sym (take_all at.b-index at.bytes (omega arith)) ∙ sym (append-nil _) ∙ (rw e at at.invariant)
