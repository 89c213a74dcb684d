-- What reservations learn of an event and of a run, and which bytes a notice writes.
-- RULES 6.2 (what writes into bytes).
use Rattle.std.specs.Prelude.{◌≢◌, List, [], ◌∷◌, ℕ}
use Rattle.reserve.specs.Range.{Touch}
use Rattle.reserve.specs.declared.Notice.{Notice}
use Rattle.reserve.specs.declared.Notice.TheVariants.{Quiet, LoadReserved, ScStored, ScFailed, Write, DeviceWrite, Yield}
use Rattle.events.specs.declared.Event.{Event}
use Rattle.model.specs.Act.{act_notice}
use Rattle.model.specs.Perform.{Machine, act_of, next_of}

-- the notice of an event: quiet for a refusal and a trap
abbrev pub notice_at : ℕ → Machine → Event → Notice
notice_at base m e = act_notice (act_of base m.mem m.state e)

-- the notices of events one after another, the first one first
unfoldable pub trace_of : ℕ → Machine → List Event → List Notice
trace_of base m [] = []
trace_of base m (e ∷ es) = notice_at base m e ∷ trace_of base (next_of base m e) es

-- 01: "Something writes into bytes if it touches at least one of them, even with the same bytes, and is a retired store, AMO, equal AMOCAS or
-- successful SC, or a device write that isn't refused": the n bytes from a
abbrev pub WritesInto : Notice → ℕ → ℕ → Type 0
WritesInto Quiet a n = ⊥
WritesInto (LoadReserved g b w) a n = ⊥
WritesInto (ScStored g b k) a n = Touch b k a n
WritesInto (ScFailed g) a n = ⊥
WritesInto (Write g b k) a n = Touch b k a n
WritesInto (DeviceWrite b k) a n = Touch b k a n
WritesInto (Yield g) a n = ⊥

-- no LR, SC or write of hart h
abbrev pub NotBy : ℕ → Notice → Type 0
NotBy h Quiet = Unit {0}
NotBy h (LoadReserved g b w) = g ≢ h
NotBy h (ScStored g b k) = g ≢ h
NotBy h (ScFailed g) = g ≢ h
NotBy h (Write g b k) = g ≢ h
NotBy h (DeviceWrite b k) = Unit {0}
NotBy h (Yield g) = Unit {0}
