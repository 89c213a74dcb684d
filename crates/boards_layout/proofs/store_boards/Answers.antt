use mathlib.Core.Path.{◌≡◌, sym, ◌∙◌}
use Prim.Native.Nat.{ℕ}
use native.Mathlib.Omega.{arith}
use native.Mathlib.Nat.{zero-add}
use native.Mathlib.Numerals.{add-one}
use lib.ListN.{get_or}
use Rattle.word.proofs.MemoryLaws.{splice_whole}
use Rattle.boards.specs.File.{no_board}
use Rattle.boards.proofs.WriteLaws.{blocks_none, blocks_turn, length-blocks}
use Rattle.boards_layout.specs.Boards.{board_bytes, boards_bytes}
use Rattle.boards_layout.proofs.BoardLaws.{length_board}
use Rattle.boards_layout.proofs.store_boards.Goals as goal

pub loop-k-init : goal.loop-k-init
loop-k-init c =
    let a = c.args in
    sym (blocks_none a.bytes.now 0 (λ j. board_bytes (get_or a.boards j no_board)))

pub loop-k-preserved : goal.loop-k-preserved
loop-k-preserved c =
    let a = c.args in
    let f : ℕ → _ = λ j. board_bytes (get_or a.boards j no_board) in
    rw (c.store_words.ensures, c.board_words.ensures, c.loop-k.invariant, add-one)
    (rw zero-add at (blocks_turn 24 f (λ j. length_board (get_or a.boards j no_board)) a.bytes.now 0 c.loop-k.k (omega arith)))

pub returns : goal.returns
unfolding boards_bytes
returns c =
    let begun = c in
    let a = begun.args in
    let f : ℕ → _ = λ j. board_bytes (get_or a.boards j no_board) in
    let e : c.loop-k.k ≡ 16 = omega arith in
    c.loop-k.invariant
    ∙ rw e (splice_whole a.bytes.now _ (length-blocks 24 f (λ j. length_board (get_or a.boards j no_board)) 16 ∙ sym begun.requires))
