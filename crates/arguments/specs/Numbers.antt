-- The number that an argument says: a version of A, a kind of core or a board.
use Rattle.std.specs.Prelude.{ℕ, min, cond, ◌&&◌, List, ltb, length, Option, Some, None}
use Rattle.text.specs.Number.{read_from}
use Rattle.steplog.specs.Digits.{all_digits}

-- one decimal digit or more, of any length, say the number that they are; all numbers from 1,000 on count as 1,000, since none of them is a version, a kind
-- or a board. Other texts say none
unfoldable pub number_said : List ℕ → Option ℕ
number_said text = cond (ltb 0 (length text) && all_digits 10 text) (Some (min 1000 (read_from 10 0 text))) None
