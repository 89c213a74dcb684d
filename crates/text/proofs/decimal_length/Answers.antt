use Prim.Native.Nat.{◌<◌}
use mathlib.Core.Path.{sym}
use native.Mathlib.Omega.{arith}
use Rattle.text.proofs.NumberLaws.{length_last, length_power}
use Rattle.text.proofs.decimal_length.Goals as goal

pub returns-in-Some : goal.returns-in-Some
returns-in-Some c = sym (length_power c.in-Some.k c.args.n c.in-Some.ensures.power_le c.in-Some.ensures.next_power_gt (omega arith))

pub returns-in-None : goal.returns-in-None
returns-in-None c =
    let small : c.args.n < 10 = omega (arith, c.in-None.ensures.none) in
    sym (length_last c.args.n small)
