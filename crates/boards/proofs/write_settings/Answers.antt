use Rattle.std.specs.Prelude.{Option}
use mathlib.Core.Path.{◌≡◌, refl, sym, ap, ◌∙◌}
use mathlib.Core.List.{List, ◌++◌}
use Prim.Native.Nat.{ℕ, ◌≤◌}
use native.Mathlib.Omega.{arith}
use lib.ListN.{length, get_or, take}
use Rattle.std.proofs.lemmas.List.{get_or-take, length-take-le}
use Rattle.word.specs.Bytes.{to_le}
use Rattle.word.specs.Memory.{splice}
use Rattle.settings.specs.Boards.{board_ok}
use Rattle.settings.specs.declared.Board.{Board}
use Rattle.boards.specs.File.{no_board}
use Rattle.boards.specs.Write.{blocks, entry_bytes, body_bytes, file_of, first_bad_board, refused_write, by_boards, written_of}
use Rattle.boards.proofs.BlockLaws.{blocks_same}
use Rattle.boards.proofs.FileLaws.{first_found, first_same}
use Rattle.boards.proofs.WriteLaws.{write_few, write_many, write_short, write_by, answered}
use Rattle.boards.proofs.write_settings.Goals as goal
use Rattle.boards.proofs.write_settings.Goals.{then-count-lt1-via-then-count-lt1, then-count-lt1-via-else-count-lt1+then-count-gt16, then-count-lt1-via-else-count-lt1+else-count-gt16+then-out-count}

-- of more boards, the first n have the first bad board and the file of all
module _ (n : ℕ) (boards : List Board) (within : n ≤ length boards) where
  first_taken : (o : Option ℕ) → o ≡ first_bad_board (length (take n boards)) (take n boards) → first_bad_board n boards ≡ o
  first_taken o e =
      first_same (λ k. board_ok (get_or boards k no_board)) (λ k. board_ok (get_or (take n boards) k no_board)) n
      (λ k h. ap board_ok (sym (get_or-take n boards k no_board h)))
      ∙ ap (λ (m : ℕ). first_bad_board m (take n boards)) (sym (length-take-le n boards within)) ∙ sym e

  file_taken : file_of (length (take n boards)) (take n boards) ≡ file_of n boards
  unfolding file_of
  file_taken =
      ap (λ (m : ℕ). file_of m (take n boards)) (length-take-le n boards within)
      ∙ ap (λ (bodies : List ℕ). to_le 4 2 ++ (to_le 4 n ++ (blocks (entry_bytes n) n ++ bodies)))
      (blocks_same (λ k. body_bytes (get_or (take n boards) k no_board)) (λ k. body_bytes (get_or boards k no_board)) n
      (λ k h. ap body_bytes (get_or-take n boards k no_board h)))

pub returns-then-count-lt1 : goal.returns-then-count-lt1
returns-then-count-lt1 c =
    let a = c.args in
    let refused : written_of a.count a.boards (length a.out.now) ≡ refused_write 21 0 = elim c.then-count-lt1.branch [
      | then-count-lt1-via-then-count-lt1 w ↦ write_few a.count a.boards _ w.if-count-lt1.true
      | then-count-lt1-via-else-count-lt1+then-count-gt16 w ↦ write_many a.count a.boards _ w.if-count-gt16.true
      | then-count-lt1-via-else-count-lt1+else-count-gt16+then-out-count w ↦ write_short a.count a.boards _ (omega arith) (omega arith) w.if-out-count.true
    ] in
    let t = answered a.count a.boards a.out.now _ _ refused refl in
    record { value = t.0; out_after = t.1 }

pub start_of-place-requires : goal.start_of-place-requires
start_of-place-requires c =
    let a = c.args in
    (omega arith, omega (arith, (first_found _ _ _ (first_taken a.count a.boards (omega arith) _ c.first_bad_board.ensures ∙ c.in-Some.is)).0))

pub returns-in-Some : goal.returns-in-Some
returns-in-Some c =
    let a = c.args in
    let t =
    answered a.count a.boards a.out.now _ _
    (write_by _ _ _ (omega arith) (omega arith) (omega arith)
    ∙ ap (by_boards a.count) (first_taken a.count a.boards (omega arith) _ c.first_bad_board.ensures ∙ c.in-Some.is)
    ∙ ap (refused_write 23) (sym c.start_of-place.ensures))
    refl in
    record { value = t.0; out_after = t.1 }

pub returns : goal.returns
returns c =
    let a = c.args in
    let t =
    answered a.count a.boards a.out.now _ _
    (write_by _ _ _ (omega arith) (omega arith) (omega arith)
    ∙ ap (by_boards a.count) (first_taken a.count a.boards (omega arith) _ c.first_bad_board.ensures ∙ c.in_default.is))
    (c.put_file.ensures ∙ ap (splice a.out.now 0) (file_taken a.count a.boards (omega arith))) in
    record { value = t.0; out_after = t.1 }
