-- Refusals 7 to 11 (01, "The case file"), row by row and without tests: when a file is refused, by which number, and at which place. 9 and 10 ask for
-- multiples by the set size of the board that the case is to run on.
-- RULES 7.5.
use Rattle.std.specs.Prelude.{◌≡◌, ℕ, ◌+◌, ◌%◌, ◌≤◌, List, length}
use Rattle.word.specs.Memory.{part, field_at}
use Rattle.settings.specs.Settings.{granule_of}
use Rattle.settings.specs.Boards.{default_board}
use Rattle.settings.specs.declared.Board.{Board}
use Rattle.settings.specs.declared.Settings.{Settings}
use Rattle.events.specs.Rows.{FirstRow, NoRow}
use Rattle.events.specs.Rules.{WrongEvents}
use Rattle.casefile.specs.Harts.{base_of, count_of, HartsRules, state_of, settings_of}
use Rattle.machine.specs.Rules.{TopRules}
use Rattle.casefile.specs.declared.Case.{Case}

-- "7: file length not 40 to 65,536 (place 0)": a length that is
abbrev pub FileRules : ℕ → Type 0
FileRules n = (40 ≤ n) × (n ≤ 65536)

-- "8: table wrong (place of the first wrong 4-byte field": the field at this place is wrong. "Bytes 0 to 3: the number 3. Then three entries of
-- kind, offset, length (4 bytes each), kinds 1, 2, 3. Bodies start at 40 and follow one another without a gap to the end." "a last body that
-- doesn't end the file, 36; the first two lengths are never wrong in themselves, the next offset is if it isn't offset plus length)"
pub data WrongField (file : List ℕ) (place : ℕ) : Type 0 where
  entries : place ≡ 0 → (field_at file 0 ≡ 3 → ⊥) → WrongField file place
  kind1 : place ≡ 4 → (field_at file 4 ≡ 1 → ⊥) → WrongField file place
  offset1 : place ≡ 8 → (field_at file 8 ≡ 40 → ⊥) → WrongField file place
  kind2 : place ≡ 16 → (field_at file 16 ≡ 2 → ⊥) → WrongField file place
  offset2 : place ≡ 20 → (field_at file 20 ≡ field_at file 8 + field_at file 12 → ⊥) → WrongField file place
  kind3 : place ≡ 28 → (field_at file 28 ≡ 3 → ⊥) → WrongField file place
  offset3 : place ≡ 32 → (field_at file 32 ≡ field_at file 20 + field_at file 24 → ⊥) → WrongField file place
  end3 : place ≡ 36 → (field_at file 32 + field_at file 36 ≡ length file → ⊥) → WrongField file place

-- "Each body is read as a part of the file that starts at its entry's offset."
abbrev pub harts_in : List ℕ → List ℕ
harts_in file = part file (field_at file 8) (field_at file 12)

abbrev pub memory_in : List ℕ → List ℕ
memory_in file = part file (field_at file 20) (field_at file 24)

abbrev pub events_in : List ℕ → List ℕ
events_in file = part file (field_at file 32) (field_at file 36)

-- "10: memory body length": "64 to 1,048,576 bytes"; 02 [5]: "multiples of the larger of 64 and the size"
abbrev pub LengthRules : Settings → ℕ → Type 0
LengthRules settings n = (64 ≤ n) × (n ≤ 1048576) × (n % granule_of settings ≡ 0)

-- 02 [10]: "Base plus length is at most 2^32 for this kind, refusal 1 in the library and 10 in a case file". The kind is that of the harts body, one that 9
-- doesn't refuse: 9 is tried before.
abbrev pub MemoryBodyRules : Board → List ℕ → ℕ → Type 0
MemoryBodyRules board harts n = LengthRules (settings_of board harts) n × TopRules (settings_of board harts) (base_of harts) n

-- The row of this number applies, at this place. "9: harts body, base included (place of its start). 10: memory body length (its start). 11: events
-- body not a multiple of 24 (its start), or the first bad event": p is counted from the events body's first byte.
pub data FileRow (board : Board) (file : List ℕ) (number place : ℕ) : Type 0 where
  bad_length : number ≡ 7 → place ≡ 0 → (FileRules (length file) → ⊥) → FileRow board file number place
  bad_table : number ≡ 8 → WrongField file place → FileRow board file number place
  bad_harts : number ≡ 9 → place ≡ field_at file 8 → (HartsRules board (harts_in file) → ⊥) → FileRow board file number place
  bad_memory_length : number ≡ 10 → place ≡ field_at file 20 → (MemoryBodyRules board (harts_in file) (length (memory_in file)) → ⊥)
      → FileRow board file number place
  bad_events : number ≡ 11 → (p : ℕ) → place ≡ field_at file 32 + p
      → WrongEvents (count_of (harts_in file)) (base_of (harts_in file)) (length (memory_in file)) (events_in file) p → FileRow board file number place

-- "Tried in this order.": the first row that applies, at the lowest place where it does
abbrev pub RefusedOn : Board → List ℕ → ℕ → ℕ → Type 0
RefusedOn board file = FirstRow (FileRow board file)

-- no row applies
abbrev pub UnrefusedOn : Board → List ℕ → Type 0
UnrefusedOn board file = NoRow (FileRow board file)

-- and where no board is given
abbrev pub RefusedBy : List ℕ → ℕ → ℕ → Type 0
RefusedBy file = RefusedOn default_board file

abbrev pub UnrefusedFile : List ℕ → Type 0
UnrefusedFile file = UnrefusedOn default_board file

-- the case that a file is where no row applies
abbrev pub case_in : Board → List ℕ → Case
case_in board file =
    record {
      memory = field_at file 20;
      events = field_at file 32;
      base = base_of (harts_in file);
      state = state_of board (count_of (harts_in file)) (harts_in file);
    }
