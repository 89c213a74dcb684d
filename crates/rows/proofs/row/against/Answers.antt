use Rattle.std.proofs.Common.{sym, ◌∙◌, arith}
use Rattle.reserve.proofs.RangeLaws.{inside_of_lem}
use Rattle.effect.specs.Memory.{value_at}
use Rattle.rows.proofs.ToldLaws.{told_pc, past_pc, told_word, past_word}
use Rattle.rows.proofs.RowLaws.{told_unfetched}
use Rattle.rows.proofs.row.against.Goals as goal

pub returns-then-r-at-clause-value : goal.returns-then-r-at-clause-value
returns-then-r-at-clause-value c = told_pc _ _ _ c.if-r-at.true

pub returns-then-not-inside-clause-value : goal.returns-then-not-inside-clause-value
returns-then-not-inside-clause-value c =
    told_unfetched _ _ _ c.if-r-at.false c.requires.0 c.requires.1 (sym c.inside.ensures ∙ c.if-not-inside.true)

pub overflow_sub-at : goal.overflow_sub-at
overflow_sub-at c = (inside_of_lem _ _ _ _ (sym c.inside.ensures ∙ c.if-not-inside.false)).0

pub load_at-word-requires-clause-n_in_bounds : goal.load_at-word-requires-clause-n_in_bounds
load_at-word-requires-clause-n_in_bounds c =
    let i = inside_of_lem _ _ _ _ (sym c.inside.ensures ∙ c.if-not-inside.false) in
    omega arith

pub returns-then-from-word-clause-value : goal.returns-then-from-word-clause-value
unfolding value_at
returns-then-from-word-clause-value c =
    let inside = sym c.inside.ensures ∙ c.if-not-inside.false in
    rw c.from-then-from-word.ensures (told_word _ _ _ c.if-r-at.false inside c.load_at-word.ensures (rw c.from.ensures at c.if-from-word.true))

pub perform-requires : goal.perform-requires
unfolding value_at
perform-requires c =
    let inside = inside_of_lem _ _ _ _ (sym c.inside.ensures ∙ c.if-not-inside.false) in
    record {
      valid = c.requires.0;
      counted = c.requires.1;
      pc = c.if-r-at.false;
      inside = rw c.if-r-at.false inside;
      word = sym c.from.ensures ∙ c.if-from-word.false ∙ c.load_at-word.ensures;
    }

pub returns-clause-value : goal.returns-clause-value
unfolding value_at
returns-clause-value c =
    let inside = sym c.inside.ensures ∙ c.if-not-inside.false in
    let word = sym c.from.ensures ∙ c.if-from-word.false ∙ c.load_at-word.ensures in
    c.perform.ensures.value ∙ sym (past_pc _ _ _ c.if-r-at.false ∙ past_word _ _ _ inside word)
