-- The numbers of a settings file's answers are small. Assumes nothing.
use Rattle.std.specs.Prelude.{Option, Some, None, Result, Ok, Err}
use mathlib.Core.Bool.{◌&&◌}
use mathlib.Core.List.{List}
use Prim.Native.Nat.{ℕ, ◌+◌, ◌*◌}
use native.Mathlib.Omega.{arith}
use lib.Dec.{ltb, leb}
use Rattle.word.proofs.ChooseLaws.{cond_all}
use Rattle.refusal.specs.declared.Refusal.{Refusal}
use Rattle.settings.specs.declared.Board.{Board}
use Rattle.boards.specs.File.{Kept}
use Rattle.boards.specs.Write.{first_bad_board, refused_write, by_boards, written_of}
use Rattle.boards.specs.declared.SettingsFile.{SettingsFile}
use Rattle.capi.specs.Boards.{SmallRead, SmallWritten}

pub small_read : (r : Result SettingsFile Refusal) → Kept r → SmallRead r
small_read (Err r) k = k.1
small_read (Ok f) k = tt

small_by : (n : ℕ) (bad : Option ℕ) → SmallWritten (by_boards n bad)
small_by n (Some bad) = omega arith
small_by n None = tt

pub small_written : (n : ℕ) (boards : List Board) (room : ℕ) → SmallWritten (written_of n boards room)
unfolding written_of
small_written n boards room =
    cond_all SmallWritten (leb 1 n && leb n 16) _ (refused_write 21 0)
    (cond_all SmallWritten (ltb room (8 + 12 * n)) (refused_write 21 0) _ (omega arith) (small_by n (first_bad_board n boards)))
    (omega arith)
