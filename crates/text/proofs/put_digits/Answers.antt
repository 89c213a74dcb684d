use mathlib.Core.Path.{◌≡◌, sym, ap, ◌∙◌, subst}
use mathlib.Core.List.{List, [], ◌∷◌, ◌++◌}
use Prim.Native.Nat.{ℕ, suc, ◌+◌, ◌-◌, ◌<◌, ◌/◌, ◌%◌}
use native.Mathlib.Nat.{mod-lt}
use native.Mathlib.Omega.{arith}
use lib.ListN.{get_or}
use Rattle.text.specs.Number.{digits_from}
use Rattle.text.proofs.PutLaws.{Back, back_none, back_more, back_all}
use Rattle.text.proofs.NumberLaws.{length_digits, digits_none, digits_more, hex_table, hex_glyph}
use Rattle.text.proofs.put_digits.Goals as goal

pub loop-i-init : goal.loop-i-init
loop-i-init g c =
    let x = c.args in
    let base = g.row.BASE in
    back_none x.out.now x.at (digits_from base x.k x.n) (x.at + x.k) (omega (arith, length_digits base x.k x.n))

pub loop-i-preserved : goal.loop-i-preserved
loop-i-preserved g c =
    let turn = c.loop-i in
    let base = g.row.BASE in
    let j = turn.i - 1 in
    let some : turn.i ≡ suc j = omega arith in
    let small : turn.rest % base < base = mod-lt turn.rest (omega arith) in
    back_more (digits_from base j (turn.rest / base)) (get_or hex_table (turn.rest % base) 0) _
    (ap (λ (m : ℕ). digits_from base m turn.rest) some ∙ digits_more base j turn.rest
    ∙ ap (λ (d : ℕ). digits_from base j (turn.rest / base) ++ (d ∷ [])) (sym (hex_glyph (turn.rest % base) (omega arith))))
    (omega arith)
    (omega arith)
    turn.invariant

pub returns-clause-put : goal.returns-clause-put
returns-clause-put g c =
    let turn = c.loop-i in
    let x = c.args in
    let base = g.row.BASE in
    let none : turn.i ≡ 0 = omega arith in
    let empty : digits_from base turn.i turn.rest ≡ [] = ap (λ (m : ℕ). digits_from base m turn.rest) none ∙ digits_none base turn.rest in
    let text = digits_from base x.k x.n in
    back_all (subst (λ (l : List ℕ). Back x.out.now x.at text l turn.out (x.at + turn.i) (x.at + x.k)) empty turn.invariant)
