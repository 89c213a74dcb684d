-- What the table of the digits holds. Assumes nothing.
use mathlib.Core.Path.{◌≡◌, ap, ◌∙◌}
use mathlib.Core.Bool.{Bool, cond}
use Prim.Native.Nat.{ℕ, ◌<◌}
use lib.Dec.{eqb, eqb→eq}
use lib.ListN.{get_or}
use Rattle.word.proofs.TableLaws.{rule_at}
use Rattle.text.specs.Number.{digit_of}
use Rattle.steplog.specs.Digits.{is_digit, DigitTable}
use Rattle.steplog.specs.declared.digits.TheConstants.{DIGITS}

-- the rule of an entry and its place
right : ℕ → ℕ → Bool
right c x = eqb x (cond (is_digit 16 c) (digit_of c) 16)

-- every entry is by the rule
pub digit_table : DigitTable DIGITS
unfolding right is_digit
digit_table c h = eqb→eq (get_or DIGITS c 0) (cond (is_digit 16 c) (digit_of c) 16) (rule_at right DIGITS tt c h)

-- what the table has for a character, by the code's names for the character and the entry
pub found : (c k d : ℕ) → c < 256 → k ≡ c → d ≡ get_or DIGITS k 0 → d ≡ cond (is_digit 16 c) (digit_of c) 16
found c k d fits same said = said ∙ ap (λ (i : ℕ). get_or DIGITS i 0) same ∙ digit_table c fits
