use mathlib.Core.Path.{◌≡◌, sym, ◌∙◌}
use Prim.Native.Nat.{◌+◌, ◌*◌}
use native.Mathlib.Omega.{arith}
use native.Mathlib.Numerals.{add-one}
use lib.ListN.{length, get_or}
use Rattle.boards.specs.File.{no_board}
use Rattle.boards.specs.Write.{body_bytes}
use Rattle.boards.proofs.WriteLaws.{blocks_none, blocks_turn, length_body}
use Rattle.boards.proofs.put_bodies.Goals as goal

pub loop-k-init : goal.loop-k-init
loop-k-init c =
    let a = c.args in
    sym (blocks_none a.out.now (8 + 8 * length a.boards.now) (λ j. body_bytes (get_or a.boards.now j no_board)))

pub loop-k-preserved : goal.loop-k-preserved
loop-k-preserved c =
    let a = c.args in
    let l = c.loop-k in
    rw (c.put_body.ensures, l.invariant, add-one)
    (blocks_turn 4 (λ j. body_bytes (get_or a.boards.now j no_board)) (λ j. length_body (get_or a.boards.now j no_board))
    a.out.now (8 + 8 * length a.boards.now) l.k (omega arith))

pub returns : goal.returns
returns c =
    let e : c.loop-k.k ≡ length c.args.boards.now = omega arith in
    c.loop-k.invariant ∙ rw e
