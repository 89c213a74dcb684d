use mathlib.Core.Path.{refl, sym, ap, ◌∙◌}
use mathlib.Core.List.{[], ◌∷◌, ◌++◌}
use Prim.Native.Nat.{ℕ, ◌+◌, ◌/◌}
use native.Mathlib.Omega.{arith}
use lib.ListN.{length-set}
use Rattle.text.specs.Number.{decimal_of}
use Rattle.text.proofs.PutLaws.{back_none, back_le, back_more, back_all}
use Rattle.text.proofs.NumberLaws.{decimal_of-le, decimal_last, decimal_more, length_last, length_more}
use Rattle.text.proofs.put_decimal.Goals as goal

pub overflow_add-past : goal.overflow_add-past
overflow_add-past c = omega (arith, c.decimal_length.ensures, decimal_of-le c.args.n)

pub loop-rest-init : goal.loop-rest-init
loop-rest-init c =
    let x = c.args in
    (omega arith, refl, back_none x.out.now x.at (decimal_of x.n) (x.at + c.decimal_length.result) (omega (arith, c.decimal_length.ensures)))

pub overflow_sub-p : goal.overflow_sub-p
overflow_sub-p c =
    let turn = c.loop-rest in
    omega (arith, turn.invariant.2.reached, length_more turn.rest (omega arith) (omega arith))

pub bounds-out-p : goal.bounds-out-p
bounds-out-p c =
    let turn = c.loop-rest in
    let x = c.args in
    omega (arith, turn.invariant.2.reached, turn.invariant.2.last, back_le turn.invariant.2, decimal_of-le x.n, length_more turn.rest (omega arith) (omega arith))

pub loop-rest-preserved : goal.loop-rest-preserved
loop-rest-preserved c =
    let turn = c.loop-rest in
    let x = c.args in (
      omega arith,
      simp length-set turn.invariant.1,
      back_more (decimal_of (turn.rest / 10)) c.decimal_digit.result _
          (decimal_more turn.rest (omega arith) (omega arith) ∙ ap (λ (d : ℕ). decimal_of (turn.rest / 10) ++ (d ∷ [])) (sym c.decimal_digit.ensures))
          (omega (arith, turn.invariant.2.reached, length_more turn.rest (omega arith) (omega arith)))
          (omega (arith, turn.invariant.2.last, decimal_of-le x.n))
          turn.invariant.2,
    )

pub shape_of-out : goal.shape_of-out
shape_of-out c = simp length-set c.loop-rest.invariant.1

pub returns : goal.returns
returns c =
    let turn = c.loop-rest in
    let x = c.args in record {
      put = back_all
          (back_more [] c.decimal_digit-2.result x.at
          (decimal_last turn.rest (omega arith) ∙ ap (λ (d : ℕ). d ∷ []) (sym c.decimal_digit-2.ensures))
          (omega (arith, turn.invariant.2.reached, length_last turn.rest (omega arith)))
          (omega (arith, turn.invariant.2.last, decimal_of-le x.n))
          turn.invariant.2);
      upper_bound = omega (arith, turn.invariant.2.last, decimal_of-le x.n);
    }
