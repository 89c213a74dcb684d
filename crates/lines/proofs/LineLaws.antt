-- One line more. Assumes nothing.
use mathlib.Core.Path.{◌≡◌, refl}
use mathlib.Core.List.{List, [], ◌∷◌, ◌++◌}
use Prim.Native.Nat.{ℕ, zero, suc, ◌+◌}
use native.Mathlib.Numerals.{add-one}
use native.Mathlib.Omega.{arith}
use Rattle.events.specs.Events.{first_events}
use Rattle.events.specs.declared.Event.{Event}
use Rattle.model.specs.Perform.{Machine, reply_at, next_of}
use Rattle.model.specs.declared.Reply.{Reply}
use Rattle.lines.specs.Lines.{line_of, lines_of}

pub lines_none : (base : ℕ) (m : Machine) (k n : ℕ) (body : List ℕ) → n ≡ 0 → lines_of base m k (first_events n body) ≡ []
unfolding lines_of first_events
lines_none base m k zero body h = refl
lines_none base m k (suc n) body h = absurd (omega arith)

-- the line of the first of some events, performed on m, and the lines of the events after it, on what it leaves
pub lines_more : (base : ℕ) (m m' : Machine) (i : ℕ) {es left : List Event} {next : Event} (e : Event) (r : Reply) → es ≡ next ∷ left → e ≡ next
    → r ≡ reply_at base m e → m' ≡ next_of base m e → lines_of base m i es ≡ line_of i e r ++ lines_of base m' (i + 1) left
unfolding lines_of
lines_more base m m' i e r h pe pr pm = rw (h, pr, pm, pe, add-one i)
