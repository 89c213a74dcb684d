use Rattle.std.proofs.Common.{refl, sym, ◌∙◌, arith}
use Rattle.effect.proofs.Fits.{value_lt}
use Rattle.reserve.proofs.RangeLaws.{inside_of_lem}
use Rattle.effect.specs.Memory.{value_at}
use Rattle.model.specs.Perform.{fetch_of}
use Rattle.model.proofs.advance.fetch.Goals as goal

pub returns-then-not-inside : goal.returns-then-not-inside
unfolding fetch_of
returns-then-not-inside c = rw (sym c.inside.ensures ∙ c.if-not-inside.true) (record { answer = refl; memory = refl })

pub overflow_sub-pc : goal.overflow_sub-pc
overflow_sub-pc c = let i = inside_of_lem _ _ _ _ (sym c.inside.ensures ∙ c.if-not-inside.false) in omega arith

pub load_at-word-requires : goal.load_at-word-requires
load_at-word-requires c = let i = inside_of_lem _ _ _ _ (sym c.inside.ensures ∙ c.if-not-inside.false) in omega arith

pub overflow_cast-word : goal.overflow_cast-word
unfolding value_at
overflow_cast-word c =
    let x = c.args in
    record { fits = rw c.load_at-word.ensures (value_lt x.base x.mem.now (λ k. (c.slice_known-1.given k).fits) _ 4) }

pub returns : goal.returns
unfolding fetch_of value_at
returns c =
    let inside = sym c.inside.ensures ∙ c.if-not-inside.false in
    rw (inside, ← c.load_at-word.ensures) c.execute_word.ensures
