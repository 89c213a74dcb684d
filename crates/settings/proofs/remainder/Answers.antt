use mathlib.Core.Path.{◌≡◌, sym, subst}
use Prim.Native.Nat.{ℕ, ◌-◌, ◌%◌}
use native.Mathlib.Omega.{arith}
use lib.Bits.{bit_and, and_mask}
use lib.Pow.{pow_pos}
use Rattle.settings.proofs.remainder.Goals as goal

pub overflow_sub-result : goal.overflow_sub-result
overflow_sub-result c = omega (arith, c.requires.1, pow_pos c.requires.0)

pub returns : goal.returns
returns c =
    let n = c.args.n in
    subst (λ (size : ℕ). bit_and n (size - 1) ≡ n % size) (sym c.requires.1) (and_mask n c.requires.0)
