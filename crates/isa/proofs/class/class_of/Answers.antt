use Rattle.std.proofs.Common.{◌≡◌, ℕ, ◌<◌, ◌/◌, ◌%◌, List, get_or, ap, ◌∙◌, refl, arith, Option}
use mathlib.Core.List.{map}
use borrow.Author.Tests.{eq-eqb, ne_eqb}
use Rattle.std.specs.List.{range_with_len}
use Rattle.std.proofs.lemmas.List.FromFn.{get_or-map-range_with_len}
use Rattle.isa.specs.Decode.{class_of, class_at}
use Rattle.isa.specs.declared.class.Class.{Class}
use Rattle.isa.specs.declared.class.TheConstants.{CLASSES}
use Rattle.isa.proofs.class.class_of.Goals as goal

-- every entry of the code's array
computed : CLASSES ≡ map class_at (range_with_len 0 32)
computed = refl

read : (k : ℕ) (none : Option Class) → k < 32 → get_or CLASSES k none ≡ class_at k
read k none h =
    ap (λ (xs : List (Option Class)). get_or xs k none) computed ∙ get_or-map-range_with_len class_at 0 32 k k none h (omega arith)

pub returns-then-word-eq3 : goal.returns-then-word-eq3
unfolding class_of
returns-then-word-eq3 c =
    let w = c.args.word in
    let low : w / 1 ≡ w = omega arith in
    rw (low, eq-eqb _ _ c.if-word-eq3.true)
    (read (w / 4 % 32) _ (omega arith))

pub returns-else-word-eq3 : goal.returns-else-word-eq3
unfolding class_of
returns-else-word-eq3 c =
    let w = c.args.word in
    let low : w / 1 ≡ w = omega arith in
    rw (low, ne_eqb _ _ c.if-word-eq3.false)
