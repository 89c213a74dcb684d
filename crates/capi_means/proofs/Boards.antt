-- A settings file that a call writes is read by another call as the same boards. Assumes nothing.
use Rattle.std.specs.Prelude.{Result, Ok, Err}
use mathlib.Core.Path.{◌≡◌, refl, sym, ap, ◌∙◌, subst}
use mathlib.Core.Logic.{⊎_elim}
use mathlib.Core.List.{List, [], ◌∷◌}
use Prim.Native.Nat.{ℕ, ◌+◌, ◌*◌, ◌/◌, ◌%◌, ◌≤◌, ◌<◌, min}
use native.Mathlib.Omega.{arith}
use lib.ListN.{length, get_or, take, replicate, length-replicate}
use Rattle.word.proofs.EachLaws.{each_at}
use Rattle.layout.specs.Layout.{word_bytes}
use Rattle.settings.specs.Boards.{BoardRules}
use Rattle.settings.specs.declared.Board.{Board}
use Rattle.boards.specs.File.{no_board, read_of, read_as, AllKept}
use Rattle.boards.specs.Write.{file_of, written_of, left_of}
use Rattle.boards.specs.WriteRules.{UnrefusedWrite}
use Rattle.boards.specs.declared.SettingsFile.{SettingsFile}
use Rattle.refusal.specs.declared.Refusal.{Refusal}
use Rattle.boards.proofs.Back.{there, front_at, count_of, kept_of, written_back}
use Rattle.boards.proofs.WriteLaws.{length_file}
use Rattle.boards.proofs.WriteRuleLaws as R
use Rattle.boards_layout.specs.Boards.{board_from, boards_from, boards_bytes}
use Rattle.boards_layout.proofs.BoardLaws.{Wide, boards_back}
use Rattle.capi.specs.Boards.{written_code, read_code, read_first, read_count, read_boards as boards_of, SettingsRead, SettingsWritten}

-- a board that is allowed has small numbers
kept_wide : (b : Board) → BoardRules b → Wide b
kept_wide b r =
    record {
      size = omega (arith, r.0.2);
      version = ⊎_elim (λ (e : b.version ≡ 20). omega (arith, e)) (λ (e : b.version ≡ 21). omega (arith, e)) r.1;
      misaligned = ⊎_elim (λ (e : b.misaligned ≡ 0). omega (arith, e)) (λ (e : b.misaligned ≡ 1). omega (arith, e)) r.2;
    }

-- 0 is no refusal
written_is : (w : Result ℕ Refusal) → written_code w ≡ 0 → (m : ℕ) × (w ≡ Ok m)
written_is (Err r) e = absurd (omega (arith, e))
written_is (Ok m) e = (m, refl)

-- a board as it stands in the bytes that were given
given_at : (bytes : List ℕ) (n k : ℕ) → n ≤ 16 → k < n → get_or (boards_from bytes n) k no_board ≡ board_from bytes (24 * k)
unfolding boards_from
given_at bytes n k most l =
    each_at (λ j _. board_from bytes (24 * j)) (min n 16) k (replicate 16 no_board) no_board (omega arith) (omega (arith, length-replicate 16 no_board))

-- a write of these bytes of boards that answers 0, and a read of the file that it left
module _ (boards out told : List ℕ) (out' told' : List ℕ) (w : SettingsWritten boards out told 0 out' told') (whole : length boards % 24 ≡ 0)
    (one : length told ≡ 8) where
  abbrev n : ℕ
  n = length boards / 24

  abbrev given : List Board
  given = boards_from boards n

  found : (m : ℕ) × (written_of n given (length out) ≡ Ok m)
  found = written_is (written_of n given (length out)) (sym (w.right whole one).answer)

  unrefused : UnrefusedWrite n given (length out) × (found.0 ≡ length (file_of n given))
  unrefused = (R.accepted_exact n given (length out) found.0).0 found.1

  long : found.0 ≡ 8 + 12 * n
  long = unrefused.1 ∙ length_file n given

  file_reads : read_of (take (8 + 12 * n) out') ≡ read_as 2 n given
  file_reads =
      ap (λ (l : List ℕ). read_of (take (8 + 12 * n) l)) (w.right whole one).bytes
      ∙ ap (λ (m : ℕ). read_of (take m (left_of n given out))) (sym long)
      ∙ written_back n given out found.0 found.1

  few : n ≤ 16
  few = (count_of n given (length out) unrefused.0).1

  kept : AllKept n given
  kept = kept_of n given (length out) unrefused.0

  module _ (room two : List ℕ) (r : ℕ) (room' two' : List ℕ) (read : SettingsRead (take (8 + 12 * n) out') room two r room' two')
      (sixteen : length room ≡ 384) (both : length two ≡ 16) where
    -- the read answers 0, and tells format 2 and as many boards
    pub read_answers : (r ≡ 0) × (two' ≡ word_bytes (2 ∷ n ∷ []))
    read_answers = (
      (read.right sixteen both).answer ∙ ap read_code file_reads,
      (read.right sixteen both).numbers ∙ ap (λ (f : Result SettingsFile Refusal). word_bytes (read_first f ∷ read_count f ∷ [])) file_reads,
    )

    -- and each board is the one that was given
    pub read_boards : (k : ℕ) → k < n → board_from room' (24 * k) ≡ board_from boards (24 * k)
    read_boards k l =
        let at : get_or (boards_of (read_as 2 n given)) k no_board ≡ get_or given k no_board = front_at n given (there n given kept) k l in
        let wide : Wide (get_or (boards_of (read_as 2 n given)) k no_board) = subst Wide (sym at) (kept_wide (get_or given k no_board) (kept k l)) in
        ap (λ (b : List ℕ). board_from b (24 * k)) ((read.right sixteen both).bytes ∙ ap (λ (f : Result SettingsFile Refusal). boards_bytes (boards_of f)) file_reads)
        ∙ boards_back (boards_of (read_as 2 n given)) k (omega (arith, few, l)) wide
        ∙ at ∙ given_at boards n k few l
