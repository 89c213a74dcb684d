use mathlib.Core.Path.{◌≡◌, sym, ◌∙◌}
use native.Mathlib.Omega.{arith}
use native.Mathlib.Numerals.{add-one}
use Rattle.boards.specs.Write.{entry_bytes}
use Rattle.boards.specs.File.{body_size}
use Rattle.boards.proofs.WriteLaws.{blocks_none, blocks_turn, length-entry}
use Rattle.boards.proofs.put_entries.Goals as goal

pub loop-k-init : goal.loop-k-init
loop-k-init c = sym (blocks_none c.args.out.now 8 (entry_bytes c.args.count))

pub loop-k-preserved : goal.loop-k-preserved
unfolding body_size
loop-k-preserved c =
    let a = c.args in
    let l = c.loop-k in
    rw (c.put_entry.ensures, c.start_of.ensures, l.invariant, add-one)
    (blocks_turn 8 (entry_bytes a.count) (length-entry a.count) a.out.now 8 l.k (omega arith))

pub returns : goal.returns
returns c =
    let e : c.loop-k.k ≡ c.args.count = omega arith in
    c.loop-k.invariant ∙ rw e
