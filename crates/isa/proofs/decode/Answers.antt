use Rattle.std.proofs.Common.{◌≡◌, ◌/◌, ◌%◌, arith}
use borrow.Author.Tests.{eq-eqb, ne_eqb}
use Rattle.isa.specs.Tables.{by_tables}
use Rattle.isa.proofs.TablesLaws.{by_tables_lem}
use Rattle.isa.proofs.decode.Goals as goal

pub returns-then-word-eq3 : goal.returns-then-word-eq3
unfolding by_tables
returns-then-word-eq3 c =
    let w = c.args.word in
    let low : w / 1 ≡ w = omega arith in
    let both : w % 4 ≡ 3 = omega arith in
    rw (by_tables_lem w, low, eq-eqb _ _ both, ← c.opcode_entry.ensures) c.decide.ensures

pub returns-else-word-eq3 : goal.returns-else-word-eq3
unfolding by_tables
returns-else-word-eq3 c =
    let w = c.args.word in
    let low : w / 1 ≡ w = omega arith in
    let apart : w % 4 ≡ 3 → ⊥ = λ e. omega (arith, e, c.if-word-eq3.false) in
    rw (by_tables_lem w, low, ne_eqb _ _ apart)
