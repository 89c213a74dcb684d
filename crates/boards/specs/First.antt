-- The first number at which a test fails.
use Rattle.std.specs.Prelude.{ℕ, zero, suc, Bool, cond, Option, Some, None}

-- the first number below n + 1 at which p fails, by the first one below n
abbrev pub or_next : (ℕ → Bool) → ℕ → Option ℕ → Option ℕ
or_next p n (Some k) = Some k
or_next p n None = cond (p n) None (Some n)

-- the first number below n at which p fails, if there is one
unfoldable pub first_not : (ℕ → Bool) → ℕ → Option ℕ
first_not p zero = None
first_not p (suc n) = or_next p n (first_not p n)
