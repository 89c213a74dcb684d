-- The table of contents of a case file (01, "The case file"): refusals 7 and 8.
-- RULES 7.1, 7.5.
use Rattle.std.specs.Prelude.{ℕ, ◌+◌, ◌^◌, ◌≤◌, ◌<◌, cond, ◌||◌, List, Result, Ok, Err, ltb, eqb, length}
use Rattle.word.specs.Memory.{field_at}
use Rattle.refusal.specs.declared.Refusal.{Refusal}
use Rattle.casefile.specs.declared.Bodies.{Bodies}

-- refused by this number at this place
abbrev pub refused : {A : Type 0} → ℕ → ℕ → Result A Refusal
refused number place = Err (record { number = number; place = place })

-- the memory body starts at m and the events body at e
abbrev pub bodies_at : ℕ → ℕ → Result Bodies Refusal
bodies_at m e = Ok (record { memory = m; events = e })

-- "entries of kind, offset, length (4 bytes each)": the entry at a place, where this kind and this offset are due. "8: table wrong (place of the
-- first wrong 4-byte field ..; the first two lengths are never wrong in themselves, the next offset is if it isn't offset plus length)"; offset
-- plus length is a whole number, never one modulo 2 ^ 32
unfoldable pub entry_of : List ℕ → ℕ → ℕ → ℕ → Result ℕ Refusal
entry_of file place kind offset =
    cond (eqb (field_at file place) kind)
    (cond (eqb (field_at file (place + 4)) offset) (Ok (offset + field_at file (place + 8))) (refused 8 (place + 4)))
    (refused 8 place)

abbrev pub and_then : Result ℕ Refusal → (ℕ → Result Bodies Refusal) → Result Bodies Refusal
and_then (Err r) f = Err r
and_then (Ok end) f = f end

-- "7: file length not 40 to 65,536 (place 0)". "Bytes 0 to 3: the number 3. Then three entries of kind, offset, length (4 bytes each), kinds 1,
-- 2, 3. Bodies start at 40 and follow one another without a gap to the end." "a last body that doesn't end the file, 36"
unfoldable pub table_of : List ℕ → Result Bodies Refusal
table_of file =
    cond (ltb (length file) 40 || ltb 65536 (length file)) (refused 7 0)
    (cond (eqb (field_at file 0) 3)
    (and_then (entry_of file 4 1 40) λ memory.
    and_then (entry_of file 16 2 memory) λ events.
    and_then (entry_of file 28 3 events) λ end.
    cond (eqb end (length file)) (bodies_at memory events) (refused 8 36))
    (refused 8 0))

-- a body that starts at offset ends no earlier, and less than 2 ^ 32 later
abbrev pub EndsWithin : ℕ → Result ℕ Refusal → Type 0
EndsWithin offset (Err r) = Unit {0}
EndsWithin offset (Ok end) = (offset ≤ end) × (end < offset + 2 ^ 32)

-- what a table says of a file of n bytes: the place of a refusal is at most n, or bodies lie in it one after another from 40 on
abbrev pub InsideFile : ℕ → Result Bodies Refusal → Type 0
InsideFile n (Err r) = (7 ≤ r.number) × (r.number ≤ 8) × (r.place ≤ n)
InsideFile n (Ok b) = (40 ≤ b.memory) × (b.memory ≤ b.events) × (b.events ≤ n) × (n ≤ 65536)
