-- A state as 2344 bytes. Every number has 8 bytes, the lowest first:
--
--      0   the count of harts
--      8   x: register r of hart h at 8 + 8 * (32 * h + r)
--   2056   pc: that of hart h at 2056 + 8 * h
--   2120   reservations: that of hart h at 2120 + 24 * h, three numbers: held (0 for none, any other number for one), address, width
--   2312   the size of a reservation's set
--   2320   the version of A
--   2328   the kind of the core
--   2336   misaligned: 0 where a misaligned LR, SC, AMO or AMOCAS gives cause 4 or 6, 1 where it gives 5 or 7
use Rattle.std.specs.Prelude.{ℕ, zero, suc, ◌+◌, ◌*◌, cond, eqb, Option, None, Some, List, [], ◌∷◌, ◌++◌, take}
use Rattle.word.specs.Bytes.{le, to_le}
use Rattle.word.specs.Memory.{part, splice}
use Rattle.settings.specs.declared.Settings.{Settings}
use Rattle.reserve.specs.Reserve.{held}
use Rattle.reserve.specs.declared.Reservation.{Reservation}
use Rattle.machine.specs.declared.State.{State}

abbrev pub state_size : ℕ
state_size = 2344

-- ---- what the bytes mean

-- the number at a place
abbrev pub word_at : List ℕ → ℕ → ℕ
word_at bytes place = le (part bytes place 8)

-- what three numbers mean
abbrev pub held_by : ℕ → ℕ → ℕ → Option Reservation
held_by some addr width = cond (eqb some 0) None (held addr width)

-- the reservation at a place
unfoldable pub reservation_at : List ℕ → ℕ → Option Reservation
reservation_at bytes place = held_by (word_at bytes place) (word_at bytes (place + 8)) (word_at bytes (place + 16))

-- the settings, one number after another
abbrev pub settings_in : List ℕ → Settings
settings_in bytes =
    record {
      size = word_at bytes 2312;
      version = word_at bytes 2320;
      kind = word_at bytes 2328;
      misaligned = word_at bytes 2336;
    }

-- f 0, f 1 and so on: n elements
unfoldable pub table : {A : Type 0} → (ℕ → A) → ℕ → List A
table f zero = []
table f (suc n) = f 0 ∷ table (λ k. f (suc k)) n

-- in x, register r of hart h is the element 32 * h + r
unfoldable pub state_in : List ℕ → State
state_in bytes =
    record {
      count = word_at bytes 0;
      settings = settings_in bytes;
      x = table (λ i. word_at bytes (8 + 8 * i)) 256;
      pc = table (λ h. word_at bytes (2056 + 8 * h)) 8;
      res = table (λ h. reservation_at bytes (2120 + 24 * h)) 8;
    }

-- ---- a state put over bytes

-- numbers as bytes, one after another
unfoldable pub word_bytes : List ℕ → List ℕ
word_bytes [] = []
word_bytes (v ∷ vs) = to_le 8 v ++ word_bytes vs

-- the three numbers of a reservation
abbrev pub reservation_words : Option Reservation → List ℕ
reservation_words None = 0 ∷ 0 ∷ 0 ∷ []
reservation_words (Some r) = 1 ∷ r.addr ∷ r.width ∷ []

unfoldable pub slot_words : List (Option Reservation) → List ℕ
slot_words [] = []
slot_words (r ∷ l) = reservation_words r ++ slot_words l

-- The bytes with the registers and the pc of every hart in their places, and the reservations of the harts that the state uses. The reservations of
-- unused harts, the count and the settings keep their bytes: no event changes them.
unfoldable pub state_over : List ℕ → State → List ℕ
state_over bytes s =
    splice (splice (splice bytes 8 (word_bytes s.x)) 2056 (word_bytes s.pc)) 2120 (word_bytes (slot_words (take s.count s.res)))
