-- A write is refused exactly by the rows of 02 [11], and writes exactly the file where none applies. Assumes nothing.
use Rattle.std.specs.Prelude.{Option, Some, None, Result, Ok, Err}
use mathlib.Core.Path.{◌≡◌, refl, sym, ap, ◌∙◌, subst}
use mathlib.Core.Logic.{◌↔◌}
use mathlib.Core.Bool.{true, false}
use mathlib.Core.List.{List}
use Prim.Native.Nat.{ℕ, ◌+◌, ◌*◌, ◌≤◌, ◌<◌}
use native.Mathlib.Omega.{arith}
use lib.Dec.{ltb}
use lib.ListN.{length, get_or}
use borrow.Author.Tests.{ltb-true, ltb-false}
use Rattle.word.specs.Memory.{splice}
use Rattle.word.proofs.TestLaws.{bool_cases, contrary, never}
use Rattle.refusal.specs.declared.Refusal.{Refusal}
use Rattle.settings.specs.Boards.{BoardRules, board_ok}
use Rattle.settings.specs.declared.Board.{Board}
use Rattle.settings.proofs.SettingsLaws.{board_exact}
use Rattle.events.proofs.RowLaws as R
use Rattle.boards.specs.File.{no_board}
use Rattle.boards.specs.Write.{file_of, first_bad_board, refused_write, by_boards, written_of, left_by, left_of}
use Rattle.boards.specs.WriteRules.{CountRules, WriteRow, bad_count, no_room, bad_board, WriteRefusedBy, UnrefusedWrite}
use Rattle.boards.proofs.FileLaws.{first_found, first_all, start_else}
use Rattle.boards.proofs.WriteLaws.{length_file, write_few, write_many, write_short, write_by}

abbrev refusals : Result ℕ Refusal → ℕ
refusals (Err r) = 1
refusals (Ok n) = 0

-- the number of a refusal, or how many bytes
abbrev number_in : Result ℕ Refusal → ℕ
number_in (Err r) = r.number
number_in (Ok n) = n

abbrev place_in : Result ℕ Refusal → ℕ
place_in (Err r) = r.place
place_in (Ok n) = 0

module _ (n : ℕ) (boards : List Board) (room : ℕ) where
  none_below : (o : ℕ) → (21 < o → CountRules n) → (21 < o → 8 + 12 * n ≤ room) → (23 < o → (k : ℕ) → k < n → BoardRules (get_or boards k no_board))
      → (i q : ℕ) → i < o → WriteRow n boards room i q → ⊥
  none_below o a b c i q l (bad_count z w r) = r (a (omega arith))
  none_below o a b c i q l (no_room z w r) = omega (arith, b (omega arith), r, length_file n boards)
  none_below o a b c i q l (bad_board z k h w r) = r (c (omega arith) k h)

  numbered : (i q : ℕ) → WriteRow n boards room i q → i ≤ 23
  numbered i q (bad_count z w r) = omega arith
  numbered i q (no_room z w r) = omega arith
  numbered i q (bad_board z k h w r) = omega arith

  module _ (bad : ℕ) (e : first_bad_board n boards ≡ Some bad) where
    found : (bad < n) × (board_ok (get_or boards bad no_board) ≡ false) × ((j : ℕ) → j < bad → board_ok (get_or boards j no_board) ≡ true)
    found = first_found (λ k. board_ok (get_or boards k no_board)) n bad e

    not_before : (q : ℕ) → q < 8 + 8 * n + 4 * bad → WriteRow n boards room 23 q → ⊥
    not_before q l (bad_count z w r) = omega arith
    not_before q l (no_room z w r) = omega arith
    not_before q l (bad_board z k h w r) = r ((board_exact (get_or boards k no_board)).0 (found.2 k (omega arith)))

  abbrev Decided : Type 0
  Decided = R.Decided (WriteRow n boards room) (written_of n boards room) refused_write (Ok (length (file_of n boards)))

  refused_21 : written_of n boards room ≡ refused_write 21 0 → WriteRow n boards room 21 0 → Decided
  refused_21 e r =
      R.refuses 21 0 e (record { applies = r; first = none_below 21 (never refl) (never refl) (never refl); lowest = λ q l r. omega arith })

  module _ (some : 1 ≤ n) (most : n ≤ 16) (fit : 8 + 12 * n ≤ room) where
    by_first : (o : Option ℕ) → first_bad_board n boards ≡ o → Decided
    by_first (Some bad) e =
        R.refuses 23 (8 + 8 * n + 4 * bad)
        (write_by n boards room some most fit ∙ ap (by_boards n) e ∙ ap (refused_write 23) (start_else 2 n bad (λ (e : 2 ≡ 1). omega (arith, e))))
        (record {
          applies = bad_board refl bad (found bad e).0 refl (λ r. contrary ((board_exact (get_or boards bad no_board)).1 r) (found bad e).1);
          first = none_below 23 (λ l. (some, most)) (λ l. fit) (never refl);
          lowest = λ q l r. not_before bad e q l r;
        })
    by_first None e =
        R.accepts (write_by n boards room some most fit ∙ ap (by_boards n) e ∙ ap Ok (sym (length_file n boards)))
        (λ i q r.
        none_below 24 (λ l. (some, most)) (λ l. fit)
        (λ l k g. (board_exact (get_or boards k no_board)).0 (first_all (λ k. board_ok (get_or boards k no_board)) n e k g)) i q
        (omega (arith, numbered i q r)) r)

  decided : Decided
  decided =
      bool_cases (ltb n 1)
      (λ a. let h = ltb-true n 1 a in refused_21 (write_few n boards room h) (bad_count refl refl (λ r. omega (arith, h, r.0))))
      (λ a.
      bool_cases (ltb 16 n)
      (λ b. let h = ltb-true 16 n b in refused_21 (write_many n boards room h) (bad_count refl refl (λ r. omega (arith, h, r.1))))
      (λ b.
      let some : 1 ≤ n = ltb-false n 1 a in
      let most : n ≤ 16 = ltb-false 16 n b in
      bool_cases (ltb room (8 + 12 * n))
      (λ c.
      let h = ltb-true room (8 + 12 * n) c in
      refused_21 (write_short n boards room some most h) (no_room refl refl (omega (arith, h, length_file n boards))))
      (λ c.
      let fit = ltb-false room (8 + 12 * n) c in
      by_first some most fit (first_bad_board n boards) refl)))

  -- 02 [11]: a write is refused by this number at this place exactly if its row is the first that applies, and this the lowest place where it does
  pub refused_exact : (number place : ℕ) → (written_of n boards room ≡ refused_write number place) ↔ WriteRefusedBy n boards room number place
  refused_exact number place = (
    λ o.
        subst (WriteRefusedBy n boards room number) (ap place_in o)
        (subst (λ (k : ℕ). WriteRefusedBy n boards room k (place_in (written_of n boards room))) (ap number_in o)
        (R.row_of (WriteRow n boards room) (written_of n boards room) refused_write (Ok (length (file_of n boards))) refusals number_in place_in (λ a b. refl) refl
        (λ a b. refl) (λ a b. refl) decided (ap refusals o))),
    R.refused_by (WriteRow n boards room) (written_of n boards room) refused_write (Ok (length (file_of n boards))) decided number place,
  )

  pub accepted_write : UnrefusedWrite n boards room → written_of n boards room ≡ Ok (length (file_of n boards))
  accepted_write = R.accepted_by (WriteRow n boards room) (written_of n boards room) refused_write (Ok (length (file_of n boards))) decided

  -- and answers so many bytes exactly if no row applies and the file has as many
  pub accepted_exact : (m : ℕ) → (written_of n boards room ≡ Ok m) ↔ (UnrefusedWrite n boards room × (m ≡ length (file_of n boards)))
  accepted_exact m = (
    λ o.
        let u =
        R.no_row_of (WriteRow n boards room) (written_of n boards room) refused_write (Ok (length (file_of n boards))) refusals number_in place_in (λ a b. refl) refl
        (λ a b. refl) (λ a b. refl) decided (ap refusals o) in
        (u, ap number_in (sym o ∙ accepted_write u)),
    λ (u, e). accepted_write u ∙ ap Ok (sym e),
  )

-- "writing nothing": a refused write leaves the buffer as it was; any other leaves the file, and the bytes behind it
module _ (n : ℕ) (boards : List Board) (before : List ℕ) where
  pub refused_left : (number place : ℕ) → WriteRefusedBy n boards (length before) number place → left_of n boards before ≡ before
  refused_left number place r = ap (left_by before (file_of n boards)) ((refused_exact n boards (length before) number place).1 r)

  pub accepted_left : UnrefusedWrite n boards (length before) → left_of n boards before ≡ splice before 0 (file_of n boards)
  accepted_left u = ap (left_by before (file_of n boards)) (accepted_write n boards (length before) u)
