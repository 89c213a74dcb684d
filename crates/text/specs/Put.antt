-- Text that is put into a buffer at a position.
use Rattle.std.specs.Prelude.{◌≡◌, List, ◌++◌, ℕ, ◌+◌, length, take}

-- after is the buffer before with text put at its position at; r is the position past the text, and what stands from r on is free
pub record Put (before : List ℕ) (at : ℕ) (text after : List ℕ) (r : ℕ) : Type 0 where
  pub end : r ≡ at + length text
  pub holds : take r after ≡ take at before ++ text
