-- A case file read (01, "The case file"): refusals 7 to 11, "Tried in this order."
-- RULES 7.3, 7.5, 7.6.
use Rattle.std.specs.Prelude.{◌≡◌, ℕ, ◌+◌, ◌-◌, ◌%◌, ◌≤◌, Bool, cond, ◌&&◌, List, Result, Ok, Err, leb, eqb, length, drop}
use Rattle.word.specs.Memory.{part}
use Rattle.settings.specs.Settings.{granule_of}
use Rattle.settings.specs.Boards.{default_board}
use Rattle.settings.specs.declared.Board.{Board}
use Rattle.settings.specs.declared.Settings.{Settings}
use Rattle.machine.specs.State.{top_ok, refusal_of}
use Rattle.refusal.specs.declared.Refusal.{Refusal}
use Rattle.events.specs.Events.{Checked, checked_of}
use Rattle.casefile.specs.Table.{refused, table_of}
use Rattle.casefile.specs.Harts.{base_of, count_of, harts_ok, settings_of, state_of}
use Rattle.casefile.specs.declared.Bodies.{Bodies}
use Rattle.casefile.specs.declared.Case.{Case}

-- a refused file
abbrev pub refused_case : ℕ → ℕ → Result Case Refusal
refused_case number place = refused number place

-- "10: memory body length": "64 to 1,048,576 bytes"; 02 [5]: "multiples of the larger of 64 and the size"
unfoldable pub length_ok : Settings → ℕ → Bool
length_ok settings n = leb 64 n && (leb n 1048576 && eqb (n % granule_of settings) 0)

-- what the check of the events gives, where the bodies start at 40, m and e. The place of 11 is counted in the file
abbrev pub checked_case : Board → ℕ → ℕ → List ℕ → Checked → Result Case Refusal
checked_case board m e harts (Err place) = refused_case 11 (e + place)
checked_case board m e harts (Ok x) =
    Ok (record { memory = m; events = e; base = base_of harts; state = state_of board (count_of harts) harts })

-- 02 [10]: "Base plus length is at most 2^32 for this kind, .. 10 in a case file", of a harts body that 9 doesn't refuse and n bytes of memory
unfoldable pub memory_body_ok : Board → List ℕ → ℕ → Bool
memory_body_ok board harts n = length_ok (settings_of board harts) n && top_ok (settings_of board harts) (base_of harts) n

-- the three bodies, which start at 40, m and e: "9: harts body, base included (place of its start). 10: memory body length (its start). 11:
-- events body"
unfoldable pub bodies_of : Board → ℕ → ℕ → List ℕ → List ℕ → List ℕ → Result Case Refusal
bodies_of board m e harts memory events =
    cond (harts_ok board harts)
    (cond (memory_body_ok board harts (length memory))
    (checked_case board m e harts (checked_of (count_of harts) (base_of harts) (length memory) events))
    (refused_case 10 m))
    (refused_case 9 40)

-- "Each body is read as a part of the file that starts at its entry's offset."
abbrev pub parts_of : Board → List ℕ → Result Bodies Refusal → Result Case Refusal
parts_of board file (Err r) = Err r
parts_of board file (Ok b) =
    bodies_of board b.memory b.events (part file 40 (b.memory - 40)) (part file b.memory (b.events - b.memory)) (drop b.events file)

-- the case that a file is on a board
unfoldable pub case_on : Board → List ℕ → Result Case Refusal
case_on board file = parts_of board file (table_of file)

-- and where none is given: it has the default settings but for its kind
abbrev pub case_of : List ℕ → Result Case Refusal
case_of file = case_on default_board file

-- what holds of the case read from a file. A refusal is one of 7 to 11, its place at most the file's length. A case has its bodies in the file, one after
-- another from 40 on; 1, 2 and 11 don't refuse a run of it, and its events are whole
abbrev pub SoundCase : List ℕ → Result Case Refusal → Type 0
SoundCase file (Err r) = (7 ≤ r.number) × (r.number ≤ 11) × (r.place ≤ length file)
SoundCase file (Ok c) =
    (40 ≤ c.memory)
    × (c.memory ≤ c.events)
    × (c.events ≤ length file)
    × (length file ≤ 65536)
    × (refusal_of c.base (c.events - c.memory) c.state ≡ 0)
    × (checked_of c.state.count c.base (c.events - c.memory) (drop c.events file) ≡ Ok tt)
    × ((length file - c.events) % 24 ≡ 0)
