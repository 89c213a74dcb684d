-- How a line tells whose reservation its event broke. Assumes nothing.
use mathlib.Core.Path.{refl}
use Prim.Native.Nat.{ℕ, ◌<◌}
use lib.Dec.{eqb}
use borrow.Author.Tests.{eqb-true, eqb-false}
use Rattle.word.proofs.TestLaws.{bool_cases}
use Rattle.text.specs.Number.{hex_from}
use Rattle.text.proofs.NumberLaws.{length-hex_from, hex_numeral}
use Rattle.events.specs.declared.Event.{Event}
use Rattle.model.specs.Perform.{Machine, outcome_at, broke_at, reply_at}
use Rattle.lines.specs.Lines.{broke_text, line_of}
use Rattle.broken.specs.Shown.{Suffix, none, some, Line}
use Rattle.broken.proofs.Broken.{broke_byte}

-- a set of 8 harts: the two digits are the whole of it
text_suffix : (broke : ℕ) → broke < 256 → Suffix broke (broke_text broke)
unfolding broke_text
text_suffix broke h =
    bool_cases (eqb broke 0)
    (λ t. none (eqb-true broke 0 t) (rw t))
    (λ f. some (eqb-false broke 0 f) (hex_from 2 broke) (rw f) (length-hex_from 2 broke) (hex_numeral 2 broke h))

-- every event's line tells its outcome and exactly the harts whose reservation it broke
pub line_told : (base : ℕ) (m : Machine) (e : Event) (k : ℕ)
    → Line k e (outcome_at base m e) (broke_at base m e) (line_of k e (reply_at base m e))
unfolding line_of
line_told base m e k =
    record { suffix = broke_text (broke_at base m e); tells = text_suffix (broke_at base m e) (broke_byte base m e); whole = refl }
