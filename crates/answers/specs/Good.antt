-- Events that none of 3, 4 and 5 refuses, alone and in a run, without tests: what 11 ("the first bad event, by 3, 4 or 5 or its zeros or kind") shares
-- with the table of refusals. Zeros and kind are in events/specs/Rules.antt.
-- RULES 7.5.
use Rattle.std.specs.Prelude.{ℕ, ◌<◌, ◌≤◌, List, [], ◌∷◌}
use Rattle.reserve.specs.Range.{Inside}
use Rattle.events.specs.declared.Event.{Event}
use Rattle.events.specs.declared.Event.TheVariants.{Step, Device, Yield}
use Rattle.model.specs.Perform.{Machine, next_of, outcome_at}
use Rattle.model.specs.Retired.{Refuses}

-- None of 3, 4 and 5: a step or a yield is of a hart below the count; a device write is of 1 to 8 bytes, wholly inside the len bytes at base.
abbrev pub EventFits : ℕ → ℕ → ℕ → Event → Type 0
EventFits count base len (Step h) = h < count
EventFits count base len (Device a n v) = (1 ≤ n) × (n ≤ 8) × Inside base len a n
EventFits count base len (Yield h) = h < count

unfoldable pub AllFit : ℕ → ℕ → ℕ → List Event → Type 0
AllFit count base len [] = Unit {0}
AllFit count base len (e ∷ es) = EventFits count base len e × AllFit count base len es

-- in a run none of the events is refused: each is put to the machine that the ones before left
unfoldable pub NoneRefused : ℕ → Machine → List Event → Type 0
NoneRefused base m [] = Unit {0}
NoneRefused base m (e ∷ es) = (Refuses (outcome_at base m e) → ⊥) × NoneRefused base (next_of base m e) es
