use Rattle.std.proofs.Common.{◌%◌, ◌-◌, rules, sym, ◌∙◌, get_or, arith}
use Rattle.word.proofs.MemoryLaws.{part_lt}
use Rattle.reserve.proofs.RangeLaws.{inside_of_lem}
use Rattle.effect.specs.Memory.{value_at}
use Rattle.log_maker.proofs.word_of.Goals as goal

pub returns-then-not-inside : goal.returns-then-not-inside
returns-then-not-inside c = λ e. absurd (cc (c.inside.ensures, c.if-not-inside.true))

pub overflow_sub-at : goal.overflow_sub-at
overflow_sub-at c = (inside_of_lem _ _ _ _ (sym c.inside.ensures ∙ c.if-not-inside.false)).0

pub load_at-requires : goal.load_at-requires
load_at-requires c = let i = inside_of_lem _ _ _ _ (sym c.inside.ensures ∙ c.if-not-inside.false) in omega arith

pub overflow_cast-result : goal.overflow_cast-result
overflow_cast-result c =
    let a = c.args in
    let place = get_or a.s.now.pc (a.h % 8) 0 - a.base in
    record { fits = rw c.load_at.ensures (part_lt a.mem.now place 4 (search rules)) }

pub returns : goal.returns
unfolding value_at
returns c = λ e. c.load_at.ensures
