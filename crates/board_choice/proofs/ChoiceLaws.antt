-- A board that is chosen keeps the rules. Assumes nothing.
use Rattle.std.specs.Prelude.{Option, Some, None, Result, Ok, Err}
use mathlib.Core.Path.{◌≡◌, sym, subst}
use Prim.Native.Nat.{ℕ}
use lib.Dec.{ltb}
use borrow.Author.Tests.{ltb-true}
use Rattle.word.proofs.TestLaws.{bool_cases}
use Rattle.refusal.specs.declared.Refusal.{Refusal}
use Rattle.settings.specs.declared.Board.{Board}
use Rattle.boards.specs.File.{Kept}
use Rattle.boards.specs.declared.SettingsFile.{SettingsFile}
use Rattle.board_choice.specs.declared.NoBoard.{NoBoard}
use Rattle.board_choice.specs.Choice.{choice_of, Allowed}

allowed_of : (read : Result SettingsFile Refusal) (said : Option ℕ) → Kept read → Allowed (choice_of read said)
allowed_of (Err r) said k = k
allowed_of (Ok file) None k = tt
allowed_of (Ok file) (Some said) k =
    bool_cases (ltb said file.count) (λ t. rw t (k.4 said (ltb-true said file.count t))) (λ f. rw f tt)

pub choice_sound : (read : Result SettingsFile Refusal) (said : Option ℕ) → Kept read → (r : Result Board NoBoard) → r ≡ choice_of read said
    → (r ≡ choice_of read said) × Allowed r
choice_sound read said k r e = (e, subst Allowed (sym e) (allowed_of read said k))
