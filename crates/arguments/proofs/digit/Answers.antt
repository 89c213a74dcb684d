use Rattle.std.specs.Prelude.{Some}
use mathlib.Core.Path.{sym, ap, ◌∙◌}
use mathlib.Core.Logic.{⊎_elim}
use Prim.Native.Nat.{◌<◌}
use native.Mathlib.Omega.{arith}
use Rattle.arguments.proofs.NumberLaws.{below_digits, digit_is, above_digits}
use Rattle.arguments.proofs.digit.Goals as goal

pub returns-then-is_ascii_digit : goal.returns-then-is_ascii_digit
returns-then-is_ascii_digit c =
    let inside = c.if-is_ascii_digit.ensures.cases in
    let is = digit_is c.args.c (omega (arith, inside)) (omega (arith, inside)) in
    rw is.0 (ap Some (c.from.ensures ∙ sym is.1))

pub returns-else-is_ascii_digit : goal.returns-else-is_ascii_digit
returns-else-is_ascii_digit c =
    ⊎_elim (λ (h : c.args.c < 48). rw (below_digits c.args.c h)) (λ (h : 57 < c.args.c). rw (above_digits c.args.c (omega (arith, h)))) c.if-is_ascii_digit.ensures.cases
