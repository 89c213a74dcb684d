use Rattle.std.proofs.Common.{◌≡◌, refl, arith, eq-eqb, ne_eqb}
use Rattle.word.specs.Bytes.{le}
use Rattle.alu.proofs.swap.compare_swap.Goals as goal

pub returns-then-old-want : goal.returns-then-old-want
returns-then-old-want c =
    let x = c.args in
    let old = c.load_le-old.ensures in
    let equal : le x.bytes.now ≡ x.want = omega (arith, old, c.if-old-want.true) in record {
      value = old;
      bytes_after = rw (eq-eqb _ _ equal) c.store_le.ensures;
    }

pub returns-else-old-want : goal.returns-else-old-want
returns-else-old-want c =
    let x = c.args in
    let old = c.load_le-old.ensures in
    let unequal : le x.bytes.now ≡ x.want → ⊥ = λ e. omega (arith, old, e, c.if-old-want.false) in record {
      value = old;
      bytes_after = rw (ne_eqb _ _ unequal) refl;
    }
