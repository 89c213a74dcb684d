-- The harts body of a case file (01, "The case file"): "1 harts: base (8), count (4), zero (4), then for each hart x1 to x31 and pc (8 each)." 02 [10]: "A
-- case file states it in the zero field of the harts body: 0 is 64-bit, 1 is 32-bit, anything else is refusal 9."
-- RULES 7.2.
use Rattle.std.specs.Prelude.{◌≡◌, ◌⊎◌, ℕ, ◌+◌, ◌*◌, ◌-◌, ◌/◌, ◌%◌, ◌^◌, ◌≤◌, ◌<◌, Bool, true, cond, ◌&&◌, ◌||◌, None, List, leb, ltb, eqb, length, replicate}
use Rattle.word.specs.Bytes.{le}
use Rattle.word.specs.Memory.{part}
use Rattle.word.specs.Each.{each, all_below}
use Rattle.settings.specs.Settings.{defaults, granule_of}
use Rattle.settings.specs.Boards.{on_board}
use Rattle.settings.specs.declared.Board.{Board}
use Rattle.settings.specs.declared.Settings.{Settings}
use Rattle.machine.specs.declared.State.{State}

-- the fields of a harts body
abbrev pub base_of : List ℕ → ℕ
base_of body = le (part body 0 8)

abbrev pub count_of : List ℕ → ℕ
count_of body = le (part body 8 4)

-- the zero field: the kind of core
abbrev pub kind_of : List ℕ → ℕ
kind_of body = le (part body 12 4)

-- the numbers that follow, one after another: hart h's x1 to x31 and its pc are the 32 from 32 * h on
abbrev pub number_of : List ℕ → ℕ → ℕ
number_of body i = le (part body (16 + 8 * i) 8)

-- register r of hart h; x0 is zero and not in the file
abbrev pub register_of : List ℕ → ℕ → ℕ → ℕ
register_of body h r = cond (eqb r 0) 0 (le (part body (16 + 256 * h + 8 * (r - 1)) 8))

abbrev pub pc_of : List ℕ → ℕ → ℕ
pc_of body h = le (part body (16 + 256 * h + 248) 8)

-- what a case is set to: its own kind, and the board's set size, version and causes, of which a case file says nothing
abbrev pub settings_of : Board → List ℕ → Settings
settings_of board body = on_board board (kind_of body)

-- 02 [10]: "Registers and pc of a 32-bit case with a nonzero upper half are refusal 9 too"
abbrev pub halves_ok : List ℕ → Bool
halves_ok body = cond (eqb (kind_of body) 1) (all_below (λ i. ltb (number_of body i) (2 ^ 32)) (32 * count_of body)) true

-- "9: harts body, base included": none of its fields is wrong. The body has as many bytes as its count says, 1 to 8 harts, one of the two kinds in its
-- zero field, a base that is at most 2 ^ 40 and, 02 [5], a multiple "of the larger of 64 and the size" of the board's sets, each pc is a multiple of 4, and
-- the numbers of a 32-bit case have 32 bits
unfoldable pub harts_ok : Board → List ℕ → Bool
harts_ok board body =
    eqb (length body) (16 + 256 * count_of body)
    && (leb 1 (count_of body)
    && (leb (count_of body) 8
    && ((eqb (kind_of body) 0 || eqb (kind_of body) 1)
    && (eqb (base_of body % granule_of (settings_of board body)) 0
    && (leb (base_of body) (2 ^ 40) && (all_below (λ h. eqb (pc_of body h % 4) 0) (count_of body) && halves_ok body))))))

-- the same without tests
abbrev pub HartsRules : Board → List ℕ → Type 0
HartsRules board body =
    (length body ≡ 16 + 256 * count_of body)
    × (1 ≤ count_of body)
    × (count_of body ≤ 8)
    × ((kind_of body ≡ 0) ⊎ (kind_of body ≡ 1))
    × (base_of body % granule_of (settings_of board body) ≡ 0)
    × (base_of body ≤ 2 ^ 40)
    × ((h : ℕ) → h < count_of body → pc_of body h % 4 ≡ 0)
    × (kind_of body ≡ 1 → (i : ℕ) → i < 32 * count_of body → number_of body i < 2 ^ 32)

-- a machine without harts, with the default settings, all else zero: what stands for the state of a file that is refused
unfoldable pub no_state : State
no_state = record { count = 0; settings = defaults; x = replicate 256 0; pc = replicate 8 0; res = replicate 8 None }

-- the state that a harts body is on a board: x of register r of hart h stands at 32 * h + r. What belongs to harts at or above the count is zero. "A read
-- case has no reservations."
unfoldable pub state_of : Board → ℕ → List ℕ → State
state_of board count body =
    record {
      count = count;
      settings = settings_of board body;
      x = each (λ i _. register_of body (i / 32) (i % 32)) (32 * count) (replicate 256 0);
      pc = each (λ h _. pc_of body h) count (replicate 8 0);
      res = replicate 8 None;
    }
