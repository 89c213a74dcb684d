use Rattle.std.proofs.Common.{ℕ, List, refl, sym, ap, ◌∙◌, add-one, rules, arith}
use lib.Seq.{take_all}
use Rattle.word.specs.Memory.{splice}
use Rattle.layout.specs.Layout.{word_bytes}
use Rattle.layout.proofs.LayoutLaws.{words_none, words_turn}
use Rattle.layout.proofs.store_words.Goals as goal

pub loop-i-init : goal.loop-i-init
loop-i-init c = (refl, sym (words_none c.args.bytes.now c.args.place))

pub loop-i-preserved : goal.loop-i-preserved
loop-i-preserved c =
    let a = c.args in (
      search rules,
      rw (c.store_at.ensures, c.loop-i.invariant.1, add-one) (words_turn a.bytes.now a.place c.loop-i.i a.words.now (omega arith) (omega arith)),
    )

pub returns : goal.returns
returns c =
    let a = c.args in
    c.loop-i.invariant.1 ∙ ap (λ (l : List ℕ). splice a.bytes.now a.place (word_bytes l)) (take_all c.loop-i.i a.words.now (omega arith))
