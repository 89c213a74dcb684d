use mathlib.Core.Path.{◌≡◌, sym, ◌∙◌}
use native.Mathlib.Omega.{arith}
use Rattle.word.proofs.EachLaws.{all_none, all_more, all_fails}
use Rattle.boards.specs.File.{entry_ok}
use Rattle.boards.proofs.entries_ok.Goals as goal

pub loop-k-init : goal.loop-k-init
loop-k-init c = all_none _

pub returns-then-not-entry_ok : goal.returns-then-not-entry_ok
returns-then-not-entry_ok c =
    let a = c.args in
    sym (all_fails (entry_ok a.table.file.now a.table.format a.table.count) c.loop-k.k a.table.count (omega arith)
    (sym c.entry_ok.ensures ∙ c.if-not-entry_ok.true))

pub loop-k-preserved : goal.loop-k-preserved
loop-k-preserved c =
    let a = c.args in
    all_more (entry_ok a.table.file.now a.table.format a.table.count) c.loop-k.k c.loop-k.invariant (sym c.entry_ok.ensures ∙ c.if-not-entry_ok.false)

pub returns : goal.returns
returns c =
    let e : c.loop-k.k ≡ c.args.table.count = omega arith in
    sym (rw e at c.loop-k.invariant)
