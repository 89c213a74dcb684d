-- The case that items of 24 bytes build (tools/event-table says their layout), and the event that ends it.
use Rattle.std.specs.Prelude.{ℕ, ◌+◌, ◌*◌, ◌/◌, ◌%◌, ◌^◌, Bool, cond, ◌&&◌, Option, None, List, length, replicate, ◌==◌, nat_le, nat_lt, slice_index, slice_set}
use Rattle.word.specs.Bytes.{le, to_le}
use Rattle.word.specs.Each.{each}
use Rattle.word.specs.Memory.{part, splice}
use Rattle.settings.specs.Settings.{defaults}
use Rattle.settings.specs.declared.Settings.{Settings}
use Rattle.reserve.specs.Reserve.{held}
use Rattle.reserve.specs.declared.Reservation.{Reservation}
use Rattle.machine.specs.declared.State.{State}
use Rattle.events.specs.declared.Event.{Event}
use Rattle.events.specs.declared.Event.TheVariants.{Step, Device, Yield}
use Rattle.event_table.specs.declared.build.Case.{Case}

-- ---- the default case

-- byte i of the default memory
abbrev pub filler : ℕ → ℕ
filler i = (i * 167 + 13) % 256

-- register i, counted over all harts, before x0 is looked at: i times 0x9E3779B97F4A7C15
abbrev pub default_at : ℕ → ℕ
default_at i = i * 11400714819323198485 % 2 ^ 64

-- x0 of a used hart is zero
abbrev pub register_as : ℕ → ℕ → ℕ → ℕ
register_as i count v = cond (i % 32 == 0 && nat_lt (i / 32) count) 0 v

abbrev pub register_at : ℕ → ℕ → ℕ
register_at count i = register_as i count (default_at i)

unfoldable pub registers_of : ℕ → List ℕ
registers_of count = each (λ i _. register_at count i) 256 (replicate 256 0)

-- the pc of a used hart is at base, that of another its x1
abbrev pub pc_at : ℕ → ℕ → List ℕ → ℕ → ℕ
pc_at count base x h = cond (nat_lt h count) base (slice_index x (h * 32 + 1))

unfoldable pub pcs_of : ℕ → ℕ → List ℕ → List ℕ
pcs_of count base x = each (λ h _. pc_at count base x h) 8 (replicate 8 0)

-- a used hart has no reservation, another that of its x2 and x3
abbrev pub reservation_as : Bool → ℕ → ℕ → Option Reservation
reservation_as used addr width = cond used None (held addr width)

abbrev pub reservation_at : ℕ → List ℕ → ℕ → Option Reservation
reservation_at count x h = reservation_as (nat_lt h count) (slice_index x (h * 32 + 2)) (slice_index x (h * 32 + 3))

unfoldable pub reservations_of : ℕ → List ℕ → List (Option Reservation)
reservations_of count x = each (λ h _. reservation_at count x h) 8 (replicate 8 None)

-- the default state of count harts, and the default case
unfoldable pub start_of : ℕ → ℕ → State
start_of count base =
    record {
      count = count;
      settings = defaults;
      x = registers_of count;
      pc = pcs_of count base (registers_of count);
      res = reservations_of count (registers_of count);
    }

unfoldable pub first_of : ℕ → Case
first_of number = record { number = number; base = 4096; len = 256; state = start_of 2 4096 }

-- a state of count harts without a reservation where all else is zero, also of unused harts
unfoldable pub blank_of : ℕ → State
blank_of count = record { count = count; settings = defaults; x = replicate 256 0; pc = replicate 8 0; res = replicate 8 None }

-- ---- an item

-- its kind and its three numbers
abbrev pub item_kind : List ℕ → ℕ
item_kind item = slice_index item 0

abbrev pub item_n : List ℕ → ℕ
item_n item = le (part item 1 7)

abbrev pub item_a : List ℕ → ℕ
item_a item = le (part item 8 8)

abbrev pub item_b : List ℕ → ℕ
item_b item = le (part item 16 8)

-- a state with other settings
abbrev pub with_settings : State → Settings → State
with_settings s settings = record { count = s.count; settings = settings; x = s.x; pc = s.pc; res = s.res }

-- a state with another setting: number 0 is the size of a reservation's set, 1 the version of A, 2 the kind of core, 3 what a
-- misaligned atomic access gives, and other numbers change nothing
abbrev pub with_setting : State → ℕ → ℕ → State
with_setting s n v =
    let t = s.settings in
    cond (n == 0) (with_settings s (record { size = v; version = t.version; kind = t.kind; misaligned = t.misaligned }))
    (cond (n == 1) (with_settings s (record { size = t.size; version = v; kind = t.kind; misaligned = t.misaligned }))
    (cond (n == 2) (with_settings s (record { size = t.size; version = t.version; kind = v; misaligned = t.misaligned }))
    (cond (n == 3) (with_settings s (record { size = t.size; version = t.version; kind = t.kind; misaligned = v }))
    s)))

-- a state with another register, pc or reservation
abbrev pub with_register : State → ℕ → ℕ → State
with_register s i v = record { count = s.count; settings = s.settings; x = slice_set s.x (i % 256) v; pc = s.pc; res = s.res }

abbrev pub with_pc : State → ℕ → ℕ → State
with_pc s h v = record { count = s.count; settings = s.settings; x = s.x; pc = slice_set s.pc (h % 8) v; res = s.res }

abbrev pub with_reservation : State → ℕ → ℕ → ℕ → State
with_reservation s h addr width =
    record { count = s.count; settings = s.settings; x = s.x; pc = s.pc; res = slice_set s.res (h % 8) (held addr width) }

-- the default state, or a blank one
unfoldable pub begun_of : ℕ → ℕ → ℕ → State
begun_of count base blank = cond (blank == 0) (start_of count base) (blank_of count)

-- kind 0 sets a setting, 2 starts a state of so many harts with the default settings, 3 sets a register, 4 a pc, and another kind a reservation
unfoldable pub harts_of : State → ℕ → List ℕ → State
harts_of s base item =
    cond (item_kind item == 0) (with_setting s (item_n item) (item_a item))
    (cond (item_kind item == 2) (begun_of (item_a item) base (item_b item))
    (cond (item_kind item == 3) (with_register s (item_n item) (item_a item))
    (cond (item_kind item == 4) (with_pc s (item_n item) (item_a item))
    (with_reservation s (item_n item) (item_a item) (item_b item)))))

-- a case after an item that is no event: kind 1 sets base and length, 6 leaves the case
unfoldable pub patch_of : Case → List ℕ → Case
patch_of c item =
    cond (item_kind item == 1) (record { number = c.number; base = item_a item; len = item_b item; state = c.state })
    (cond (item_kind item == 6) c
    (record { number = c.number; base = c.base; len = c.len; state = harts_of c.state c.base item }))

-- the n lowest bytes of v at a place, if they fit
unfoldable pub bytes_at : List ℕ → ℕ → ℕ → ℕ → List ℕ
bytes_at mem at n v = cond (nat_le at 8184) (cond (nat_le n 8) (splice mem at (to_le n v)) mem) mem

-- zeros in place of all bytes, or the bytes as they are
unfoldable pub wiped : ℕ → List ℕ → List ℕ
wiped wipe mem = cond (wipe == 0) mem (replicate (length mem) 0)

-- the memory after an item that is no event: kind 1 may wipe it, 6 writes bytes
unfoldable pub memory_after : List ℕ → List ℕ → List ℕ
memory_after mem item =
    cond (item_kind item == 1) (wiped (item_n item) mem)
    (cond (item_kind item == 6) (bytes_at mem (item_a item) (item_n item) (item_b item)) mem)

-- the event that an item of kind 7, 8 or 9 is
unfoldable pub event_in : List ℕ → Event
event_in item =
    cond (item_kind item == 7) (Step (item_a item))
    (cond (item_kind item == 8) (Device (item_a item) (item_n item) (item_b item)) (Yield (item_a item)))
