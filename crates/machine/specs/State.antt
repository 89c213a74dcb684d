-- Which memories and states are refused (refusals 1 and 2 of 01, with 02 [5], [7], [10] and [11]).
-- RULES 1.1, 1.2, 1.3, 1.6, 2.1.
use Rattle.std.specs.Prelude.{ℕ, ◌+◌, ◌*◌, ◌%◌, ◌^◌, Bool, true, cond, ◌&&◌, ◌||◌, Option, None, Some, List, eqb, ltb, leb, get_or}
use Rattle.word.specs.Each.{all_below}
use Rattle.settings.specs.Settings.{xlen_of, size_ok, granule_of, reading_ok, misaligned_ok}
use Rattle.settings.specs.declared.Settings.{Settings}
use Rattle.reserve.specs.Range.{inside_of}
use Rattle.reserve.specs.declared.Reservation.{Reservation}
use Rattle.machine.specs.declared.State.{State}

-- 01: "One lent memory, 64 to 1,048,576 bytes, .. at a base address that is .. at most 2^40."; 02 [5]: "Memory base and length are now multiples of the
-- larger of 64 and the size."
unfoldable pub lent_ok : Settings → ℕ → ℕ → Bool
lent_ok settings base len =
    leb 64 len && (leb len 1048576 && (eqb (len % granule_of settings) 0 && (eqb (base % granule_of settings) 0 && leb base (2 ^ 40))))

-- 02 [10], of the 32-bit core: "Base plus length is at most 2^32 for this kind". All bytes have an address of the register width; at 64 bits what 01 says
-- of base and length leaves nothing to ask.
unfoldable pub top_ok : Settings → ℕ → ℕ → Bool
top_ok settings base len = leb (base + len) (2 ^ xlen_of settings)

-- what refusal 1 asks; 02 [5]: "a size not allowed is 1, tried before base and length" (all are 1)
unfoldable pub memory_ok : Settings → ℕ → ℕ → Bool
memory_ok settings base len = size_ok settings && (lent_ok settings base len && top_ok settings base len)

-- 01: "a reservation whose width isn't 4 or 8, isn't aligned to it, or isn't inside memory"; 02 [10], of the 32-bit core: "A reservation 8 wide is refusal
-- 2 here": none is wider than a register
unfoldable pub reservation_ok : Settings → ℕ → ℕ → Option Reservation → Bool
reservation_ok settings base len None = true
reservation_ok settings base len (Some r) =
    (eqb r.width 4 || eqb r.width 8) && (leb (8 * r.width) (xlen_of settings) && (eqb (r.addr % r.width) 0 && inside_of base len r.addr r.width))

-- 01: "nonzero x0, pc not a multiple of 4"
unfoldable pub hart_ok : Settings → ℕ → ℕ → ℕ → ℕ → Option Reservation → Bool
hart_ok settings base len x0 pc r = eqb x0 0 && (eqb (pc % 4) 0 && reservation_ok settings base len r)

-- the upper half of hart k's register r is zero, by the registers of all harts; its x0 stands at 32 * k
abbrev pub upper_at : List ℕ → ℕ → ℕ → Bool
upper_at x k r = ltb (get_or x (k * 32 + r) 0) (2 ^ 32)

-- 02 [10]: "Registers and pc of a 32-bit case with a nonzero upper half are refusal 9 too, 2 in the library": hart k, by the registers and pcs of all harts
unfoldable pub upper_ok : Settings → List ℕ → List ℕ → ℕ → Bool
upper_ok settings x pc k = cond (eqb (xlen_of settings) 32) (all_below (upper_at x k) 32 && ltb (get_or pc k 0) (2 ^ 32)) true

-- hart k, by the registers, pcs and reservations of all harts
abbrev pub hart_at : Settings → ℕ → ℕ → List ℕ → List ℕ → List (Option Reservation) → ℕ → Bool
hart_at settings base len x pc res k =
    hart_ok settings base len (get_or x (k * 32) 0) (get_or pc k 0) (get_or res k None) && upper_ok settings x pc k

-- 01: "1 to 8 harts"; "unused harts' fields aren't looked at"; 02 [7]: "any other version is 2", and so is a kind that is neither of
-- [10]'s; [11]: "any other value refusal 2"
unfoldable pub state_ok : ℕ → ℕ → State → Bool
state_ok base len s =
    (leb 1 s.count && leb s.count 8)
    && ((reading_ok s.settings && misaligned_ok s.settings) && all_below (hart_at s.settings base len s.x s.pc s.res) s.count)

-- the first of refusals 1 and 2 that applies, or 0
unfoldable pub refusal_of : ℕ → ℕ → State → ℕ
refusal_of base len s = cond (memory_ok s.settings base len) (cond (state_ok base len s) 0 2) 1

-- the same number where the result has None for 0
abbrev pub refused : ℕ → Option ℕ
refused n = cond (eqb n 0) None (Some n)
