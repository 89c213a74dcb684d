use mathlib.Core.Path.{◌≡◌, sym, ◌∙◌}
use mathlib.Core.Bool.{Bool}
use Prim.Native.Nat.{ℕ}
use native.Mathlib.Omega.{arith}
use lib.ListN.{length, get_or}
use Rattle.word.proofs.EachLaws.{all_none, all_more, all_at}
use Rattle.settings.specs.Boards.{board_ok}
use Rattle.boards.specs.File.{no_board}
use Rattle.boards.proofs.FileLaws.{first_at, first_none}
use Rattle.boards.proofs.first_bad_board.Goals as goal

pub loop-k-init : goal.loop-k-init
loop-k-init c = all_none _

pub returns-then-not-board_ok : goal.returns-then-not-board_ok
returns-then-not-board_ok c =
    let a = c.args in
    let l = c.loop-k in
    let p : ℕ → Bool = λ j. board_ok (get_or a.boards.now j no_board) in
    sym (first_at p (length a.boards.now) l.k (omega arith) (λ j h. all_at p j l.k l.invariant h)
    (sym c.board_ok.ensures ∙ c.if-not-board_ok.true))

pub loop-k-preserved : goal.loop-k-preserved
loop-k-preserved c =
    let a = c.args in
    all_more (λ j. board_ok (get_or a.boards.now j no_board)) c.loop-k.k c.loop-k.invariant (sym c.board_ok.ensures ∙ c.if-not-board_ok.false)

pub returns : goal.returns
returns c =
    let a = c.args in
    let l = c.loop-k in
    let e : l.k ≡ (length a.boards.now) = omega arith in
    let p : ℕ → Bool = λ j. board_ok (get_or a.boards.now j no_board) in
    sym (first_none p (length a.boards.now) (λ j h. all_at p j l.k l.invariant (omega (arith, e, h))))
