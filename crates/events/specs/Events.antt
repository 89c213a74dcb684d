-- The events body of a case (01, "The case file"): "3 events, 24 bytes each: kind (1 step, 2 device, 3 yield), hart, size, five zeros, address (8),
-- data (8, first byte lowest, zero above size). Fields a kind doesn't use are zero."
-- RULES 7.4; `checked_of` 7.5.
use Rattle.std.specs.Prelude.{◌≡◌, ℕ, zero, suc, ◌+◌, ◌/◌, ◌%◌, ◌≤◌, Bool, false, cond, ◌||◌, ◌&&◌, List, [], ◌∷◌, ltb, leb, eqb, length, get_or, take, drop, Result, Ok, Err}
use Rattle.word.specs.Bytes.{le}
use Rattle.word.specs.Memory.{part}
use Rattle.reserve.specs.Range.{inside_of}
use Rattle.events.specs.declared.Event.{Event}
use Rattle.events.specs.declared.Event.TheVariants.{Step, Device, Yield}

-- the fields of an event's 24 bytes
abbrev pub kind_of : List ℕ → ℕ
kind_of e = get_or e 0 0

abbrev pub hart_of : List ℕ → ℕ
hart_of e = get_or e 1 0

abbrev pub size_of : List ℕ → ℕ
size_of e = get_or e 2 0

abbrev pub address_of : List ℕ → ℕ
address_of e = le (part e 8 8)

abbrev pub data_of : List ℕ → ℕ
data_of e = le (part e 16 8)

-- a step or a yield: by 3, a hart below the count; it uses no other field
unfoldable pub hart_event : ℕ → List ℕ → Bool
hart_event count e = ltb (hart_of e) count && (eqb (size_of e) 0 && (eqb (address_of e) 0 && eqb (data_of e) 0))

-- a device write: by 4, 1 to 8 bytes; by 5, wholly inside memory; no hart; data zero above the size
unfoldable pub device_event : ℕ → ℕ → List ℕ → Bool
device_event base len e =
    eqb (hart_of e) 0
    && (leb 1 (size_of e) && (leb (size_of e) 8 && (inside_of base len (address_of e) (size_of e) && eqb (le (drop (16 + size_of e) e)) 0)))

-- an event that 11 doesn't refuse
unfoldable pub good_event : ℕ → ℕ → ℕ → List ℕ → Bool
good_event count base len e =
    eqb (le (part e 3 5)) 0
    && cond (eqb (kind_of e) 2) (device_event base len e) (cond (eqb (kind_of e) 1 || eqb (kind_of e) 3) (hart_event count e) false)

-- what a check of a body gives: nothing, or the place of its first bad event
abbrev pub Checked : Type 0
Checked = Result (Unit {0}) ℕ

-- the first bad one of n events from place p on
unfoldable pub first_bad : ℕ → ℕ → ℕ → List ℕ → ℕ → ℕ → Checked
first_bad count base len body zero p = Ok tt
first_bad count base len body (suc n) p =
    cond (good_event count base len (part body p 24)) (first_bad count base len body n (p + 24)) (Err p)

-- 01: "11: events body not a multiple of 24 (its start), or the first bad event, by 3, 4 or 5 or its zeros or kind (its start)"; the place is
-- counted from the body's first byte
unfoldable pub checked_of : ℕ → ℕ → ℕ → List ℕ → Checked
checked_of count base len body = cond (eqb (length body % 24) 0) (first_bad count base len body (length body / 24) 0) (Err 0)

-- the event that 24 bytes are, where 11 doesn't refuse them
unfoldable pub event_of : List ℕ → Event
event_of e =
    cond (eqb (kind_of e) 1) (Step (hart_of e)) (cond (eqb (kind_of e) 2) (Device (address_of e) (size_of e) (data_of e)) (Yield (hart_of e)))

-- the first n events of a body, and all of them
unfoldable pub first_events : ℕ → List ℕ → List Event
first_events zero body = []
first_events (suc n) body = event_of (take 24 body) ∷ first_events n (drop 24 body)

abbrev pub events_of : List ℕ → List Event
events_of body = first_events (length body / 24) body

-- what a check says of a body's length: it holds whole events, or the bad one's place is in it
abbrev pub Within : Checked → ℕ → Type 0
Within (Ok x) n = n % 24 ≡ 0
Within (Err place) n = place ≤ n
