use mathlib.Core.Path.{◌≡◌, sym, ◌∙◌}
use native.Mathlib.Omega.{arith}
use native.Mathlib.Numerals.{add-one}
use lib.ListN.{replicate, length-replicate}
use Rattle.word.proofs.EachLaws.{each_suc}
use Rattle.boards.specs.File.{no_board, board_in, boards_in}
use Rattle.boards.proofs.boards_in.Goals as goal

pub loop-k-preserved : goal.loop-k-preserved
loop-k-preserved c =
    let a = c.args in
    let k = c.loop-k.k in
    rw (c.board_in.ensures, c.loop-k.invariant, add-one)
    (sym (each_suc (λ k _. board_in a.table.file.now a.table.format a.table.count k) k (replicate 16 no_board) no_board
    (omega (arith, length-replicate 16 no_board))))

pub returns : goal.returns
unfolding boards_in
returns c =
    let e : c.loop-k.k ≡ c.args.table.count = omega arith in
    c.loop-k.invariant ∙ rw e
