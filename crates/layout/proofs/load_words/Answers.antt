use Rattle.std.proofs.Common.{◌≡◌, ◌+◌, ◌*◌, length, sym, ◌∙◌, add-one, rules, arith}
use Rattle.word.proofs.EachLaws.{each_suc}
use Rattle.layout.specs.Layout.{word_at}
use Rattle.layout.proofs.LayoutLaws.{each-table}
use Rattle.layout.proofs.load_words.Goals as goal

pub loop-i-preserved : goal.loop-i-preserved
loop-i-preserved c =
    let a = c.args in
    let i = c.loop-i.i in (
      search rules,
      rw (c.load_at.ensures, c.loop-i.invariant.1, add-one) (sym (each_suc (λ k _. word_at a.bytes.now (a.place + 8 * k)) i a.out.now 0 (omega arith))),
    )

pub returns : goal.returns
returns c =
    let a = c.args in
    let e : c.loop-i.i ≡ length a.out.now = omega arith in
    c.loop-i.invariant.1 ∙ rw e (each-table (λ k. word_at a.bytes.now (a.place + 8 * k)) a.out.now)
