-- What a machine is set to (02 [5], [7], [10], [11]): which settings are allowed, and what a state has that is not set otherwise.
-- RULES 1.6; `granule_of` 1.2.
use Rattle.std.specs.Prelude.{◌≡◌, ◌⊎◌, ℕ, ◌-◌, ◌^◌, ◌≤◌, max, Bool, cond, ◌&&◌, ◌||◌, eqb, leb}
use Rattle.std.specs.Int.Bits.{bit_and}
use Rattle.settings.specs.declared.Settings.{Settings}

-- 02 [5]: "a power of two from 8 to 4,096, the same for all harts, default 64"; [7]: "2.1 the default"; [10]: "0 is 64-bit, 1 is 32-bit", and 01's machine
-- is the first; [11]: "The state gets this setting too, default 0"
abbrev pub defaults : Settings
defaults = record { size = 64; version = 21; kind = 0; misaligned = 0 }

-- the same with another version of A, and with another kind too
abbrev pub of_version : ℕ → Settings
of_version version = record { size = 64; version = version; kind = 0; misaligned = 0 }

abbrev pub of_kind : ℕ → ℕ → Settings
of_kind version kind = record { size = 64; version = version; kind = kind; misaligned = 0 }

-- these settings with another version of A
abbrev pub at_version : ℕ → Settings → Settings
at_version version s = record { size = s.size; version = version; kind = s.kind; misaligned = s.misaligned }

-- the bits of registers, the pc and addresses. 01: "x0 to x31 (64 bits, x0 zero)"; 02 [10]: "registers and addresses of 32 bits"
unfoldable pub xlen_of : Settings → ℕ
xlen_of s = cond (eqb s.kind 1) 32 64

abbrev pub PowerOfTwo : ℕ → Type 0
PowerOfTwo n = (k : ℕ) × (n ≡ 2 ^ k)

-- the sizes that are allowed: "a power of two from 8 to 4,096"
abbrev pub SizeRules : Settings → Type 0
SizeRules s = PowerOfTwo s.size × (8 ≤ s.size) × (s.size ≤ 4096)

-- the same as a test
unfoldable pub size_ok : Settings → Bool
size_ok s = leb 8 s.size && (leb s.size 4096 && eqb (bit_and s.size (s.size - 1)) 0)

-- "Memory base and length are now multiples of the larger of 64 and the size."
abbrev pub granule_of : Settings → ℕ
granule_of s = max 64 s.size

-- 02 [7]: "Keep both versions, chosen in the state": 20 is A 2.0, 21 is A 2.1, and "any other version is 2"
abbrev pub VersionRules : Settings → Type 0
VersionRules s = (s.version ≡ 20) ⊎ (s.version ≡ 21)

-- the same as a test
unfoldable pub version_ok : Settings → Bool
version_ok s = eqb s.version 20 || eqb s.version 21

-- 02 [10]: a "second kind of machine": 0 is the 64-bit core and 1 the 32-bit one
abbrev pub KindRules : Settings → Type 0
KindRules s = (s.kind ≡ 0) ⊎ (s.kind ≡ 1)

-- the same as a test
unfoldable pub kind_ok : Settings → Bool
kind_ok s = eqb s.kind 0 || eqb s.kind 1

-- how the machine reads words: refusal 2 asks for a version and a kind that there are
abbrev pub ReadingRules : Settings → Type 0
ReadingRules s = VersionRules s × KindRules s

-- the same as a test
unfoldable pub reading_ok : Settings → Bool
reading_ok s = version_ok s && kind_ok s

-- "Under 2.0 a device write breaks no reservation, because 004 speaks only of harts": under 2.1 it can break one
abbrev pub DevicesBreak : Settings → Type 0
DevicesBreak s = s.version ≡ 21

-- the same as a test
abbrev pub devices_break : Settings → Bool
devices_break s = eqb s.version 21

-- "and the loop rules also allow JALR as any later word .. because 004 doesn't exclude it": under 2.0
abbrev pub JalrPermitted : Settings → Type 0
JalrPermitted s = s.version ≡ 20

-- the same as a test
abbrev pub jalr_permitted : Settings → Bool
jalr_permitted s = eqb s.version 20

-- 02 [11]: "0 where a misaligned LR, SC or AMO gives 4 and 6, 1 where it gives, as 000 permits, 5 and 7"; "any other value refusal 2"
abbrev pub MisalignedRules : Settings → Type 0
MisalignedRules s = (s.misaligned ≡ 0) ⊎ (s.misaligned ≡ 1)

-- the same as a test
unfoldable pub misaligned_ok : Settings → Bool
misaligned_ok s = eqb s.misaligned 0 || eqb s.misaligned 1

-- the cause of an LR that is misaligned, by this setting
abbrev pub LrCause : ℕ → ℕ → Type 0
LrCause misaligned cause = (misaligned ≡ 1 → cause ≡ 5) × ((misaligned ≡ 1 → ⊥) → cause ≡ 4)

-- the same as a number
unfoldable pub lr_cause : ℕ → ℕ
lr_cause misaligned = cond (eqb misaligned 1) 5 4

-- and of an SC, an AMO or an AMOCAS, of which 001 says: "the same exception options apply if the address is not naturally aligned"
abbrev pub AmoCause : ℕ → ℕ → Type 0
AmoCause misaligned cause = (misaligned ≡ 1 → cause ≡ 7) × ((misaligned ≡ 1 → ⊥) → cause ≡ 6)

-- the same as a number
unfoldable pub amo_cause : ℕ → ℕ
amo_cause misaligned = cond (eqb misaligned 1) 7 6
