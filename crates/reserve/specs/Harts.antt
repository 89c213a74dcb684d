-- What a write does to one hart's reservation, and a reservation put in a hart's place.
use Rattle.std.specs.Prelude.{ℕ, cond, Option, None, Some, List, ltb, set}
use Rattle.settings.specs.declared.Settings.{Settings}
use Rattle.reserve.specs.Reserve.{breaks_of}
use Rattle.reserve.specs.declared.Reservation.{Reservation}
use Rattle.reserve.specs.declared.Notice.{Notice}
use Rattle.reserve.specs.declared.Notice.TheVariants.{Write, DeviceWrite}
use Rattle.reserve.specs.declared.Written.{Written}

-- the notice of a write of n bytes at b, by a hart or a device; that of an SC breaks the same
abbrev pub write_by : Option ℕ → ℕ → ℕ → Notice
write_by None b n = DeviceWrite b n
write_by (Some h) b n = Write h b n

abbrev pub write_notice : Written → Notice
write_notice w = write_by w.writer w.addr w.len

-- hart k's reservation after a notice that can only break it: none where it does, else as it was
abbrev pub break_slot : Settings → Notice → ℕ → Option Reservation → Option Reservation
break_slot settings n k r = cond (breaks_of settings k n r) None r

-- hart h's reservation replaced by r, if h is below the count
unfoldable pub replaced : ℕ → ℕ → Option Reservation → List (Option Reservation) → List (Option Reservation)
replaced count h r l = cond (ltb h count) (set l h r) l
