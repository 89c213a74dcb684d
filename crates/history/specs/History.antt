-- The history that a reservation stands for, in 01's words and without tests. The size of the set and the version of A are settings.
-- RULES 5.
use Rattle.std.specs.Prelude.{ℕ, ◌≡◌, ◌≢◌, List, [], ◌∷◌, ◌++◌, Option}
use Rattle.settings.specs.Settings.{DevicesBreak}
use Rattle.settings.specs.declared.Settings.{Settings}
use Rattle.reserve.specs.Range.{Touch, Inside, set_of}
use Rattle.reserve.specs.Reserve.{observe_of}
use Rattle.reserve.specs.declared.Reservation.{Reservation}
use Rattle.reserve.specs.declared.Notice.{Notice}
use Rattle.reserve.specs.declared.Notice.TheVariants.{Quiet, LoadReserved, ScStored, ScFailed, Write, DeviceWrite, Yield}

-- hart h's reservation after a list of notices, the first one first
abbrev pub observes : Settings → ℕ → List Notice → Option Reservation → Option Reservation
observes settings h [] r = r
observes settings h (n ∷ ns) r = observes settings h ns (observe_of settings h n r)

-- 01: "What breaks a reservation. Its own hart's next retired LR (replaced) or SC, or a yield; a retired write by another hart that touches a
-- byte of the set, even with the same bytes; a device write that touches a byte the LR read." 02 [7]: "Under 2.0 a device write breaks no
-- reservation". The notice breaks nothing of what hart h's LR of w bytes at a reserved:
unfoldable pub Spares : Settings → ℕ → ℕ → ℕ → Notice → Type 0
Spares settings h a w (LoadReserved g b v) = g ≢ h
Spares settings h a w (ScStored g b n) = (g ≢ h) × (Touch b n (set_of settings.size a) settings.size → ⊥)
Spares settings h a w (ScFailed g) = g ≢ h
Spares settings h a w (Yield g) = g ≢ h
Spares settings h a w (Write g b n) = g ≢ h → Touch b n (set_of settings.size a) settings.size → ⊥
Spares settings h a w (DeviceWrite b n) = DevicesBreak settings → Touch b n a w → ⊥
Spares settings h a w Quiet = Unit {0}

abbrev pub AllSpare : Settings → ℕ → ℕ → ℕ → List Notice → Type 0
AllSpare settings h a w [] = Unit {0}
AllSpare settings h a w (n ∷ ns) = Spares settings h a w n × AllSpare settings h a w ns

-- Hart h's latest retired LR was of w bytes at a, and nothing since then broke what it reserved.
pub record Reserved (settings : Settings) (h a w : ℕ) (trace : List Notice) : Type 0 where
  pub before : List Notice
  pub since : List Notice
  pub split : trace ≡ before ++ LoadReserved h a w ∷ since
  pub spared : AllSpare settings h a w since

-- 01: "this hart holds a reservation whose set contains all its bytes, whatever the LR's address and width were": some LR of hart h still
-- reserves its set, and the n bytes from b lie in it.
pub record Since (settings : Settings) (h b n : ℕ) (trace : List Notice) : Type 0 where
  pub addr : ℕ
  pub width : ℕ
  pub reserved : Reserved settings h addr width trace
  pub inside : Inside (set_of settings.size addr) settings.size b n
