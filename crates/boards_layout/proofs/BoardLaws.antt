-- Boards as bytes: how long they are, and that they read back. Assumes nothing.
use Prim.Native.Nat.{ℕ, ◌+◌, ◌*◌, ◌^◌, ◌<◌}
use mathlib.Core.Path.{◌≡◌, refl, sym, ap, ◌∙◌}
use mathlib.Core.List.{List, [], ◌∷◌}
use native.Mathlib.Nat.{add-zero, mod-eq_of_lt}
use native.Mathlib.Omega.{arith}
use lib.ListN.{length, get_or}
use Rattle.word.specs.Bytes.{le}
use Rattle.word.specs.Memory.{part}
use Rattle.word.proofs.BytesLaws.{le-to_le}
use Rattle.settings.specs.declared.Board.{Board}
use Rattle.layout.specs.Layout.{word_at}
use Rattle.layout.proofs.LayoutLaws.{length-word_bytes}
use Rattle.layout.proofs.Back.{part_word}
use Rattle.boards.specs.File.{no_board}
use Rattle.boards.proofs.BlockLaws.{part-part, part_block}
use Rattle.boards.proofs.RuleLaws.{same_boards}
use Rattle.boards_layout.specs.Boards.{board_from, board_bytes, boards_bytes}

pub length_board : (b : Board) → length (board_bytes b) ≡ 24
length_board b = length-word_bytes (b.size ∷ b.version ∷ b.misaligned ∷ [])

-- its numbers have 64 bits, as their type says
pub record Wide (b : Board) : Type 0 where
  pub size : b.size < 2 ^ 64
  pub version : b.version < 2 ^ 64
  pub misaligned : b.misaligned < 2 ^ 64

-- what is written for sixteen boards is read as each of them
module _ (boards : List Board) (k : ℕ) (l : k < 16) (wide : Wide (get_or boards k no_board)) where
  abbrev it : Board
  it = get_or boards k no_board

  abbrev numbers : List ℕ
  numbers = it.size ∷ it.version ∷ it.misaligned ∷ []

  number_back : (i : ℕ) → i < 3 → get_or numbers i 0 < 2 ^ 64 → word_at (boards_bytes boards) (24 * k + 8 * i) ≡ get_or numbers i 0
  unfolding boards_bytes
  number_back i h small =
      ap le
      (sym (part-part (boards_bytes boards) (24 * k) 24 (8 * i) 8 (24 * k + 8 * i) refl (omega arith))
      ∙ ap (λ (p : List ℕ). part p (8 * i) 8) (part_block 24 (λ j. board_bytes (get_or boards j no_board)) (λ j. length_board (get_or boards j no_board)) 16 k l)
      ∙ part_word numbers i h)
      ∙ le-to_le 8 (get_or numbers i 0) ∙ mod-eq_of_lt small

  pub boards_back : board_from (boards_bytes boards) (24 * k) ≡ get_or boards k no_board
  boards_back =
      same_boards _ _ (rw add-zero at (number_back 0 (omega arith) wide.size)) (number_back 1 (omega arith) wide.version)
      (number_back 2 (omega arith) wide.misaligned)
