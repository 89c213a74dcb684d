use mathlib.Core.Path.{◌≡◌, sym, ◌∙◌}
use Prim.Native.Nat.{◌*◌, min}
use native.Mathlib.Omega.{arith}
use native.Mathlib.Numerals.{add-one}
use lib.ListN.{replicate, length-replicate}
use Rattle.word.proofs.EachLaws.{each_suc}
use Rattle.boards.specs.File.{no_board}
use Rattle.boards_layout.specs.Boards.{board_from, boards_from}
use Rattle.boards_layout.proofs.load_boards.Goals as goal

pub loop-k-preserved : goal.loop-k-preserved
loop-k-preserved c =
    let k = c.loop-k.k in
    rw (c.load_board.ensures, c.loop-k.invariant, add-one)
    (sym (each_suc (λ j _. board_from c.args.bytes.now (24 * j)) k (replicate 16 no_board) no_board (omega (arith, length-replicate 16 no_board))))

pub returns : goal.returns
unfolding boards_from
returns c =
    let a = c.args in
    let e : c.loop-k.k ≡ min a.count 16 = omega arith in
    c.loop-k.invariant ∙ rw e
