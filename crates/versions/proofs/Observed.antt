-- What two settings of one size make of reservations: the same of every notice but a device write, and of that too where both let it break them. Assumes
-- nothing.
use mathlib.Core.Path.{◌≡◌, refl, fun_ext}
use mathlib.Core.List.{List}
use Prim.Native.Nat.{ℕ, zero, suc}
use lib.ListN.{get_or}
use Rattle.std.specs.Prelude.{Option, None, Some}
use Rattle.settings.specs.Settings.{devices_break}
use Rattle.settings.specs.declared.Settings.{Settings}
use Rattle.reserve.specs.Reserve.{covers_of, breaks_of, observe_of, observe_slot, broken_of, observe_all_of}
use Rattle.reserve.specs.declared.Reservation.{Reservation}
use Rattle.reserve.specs.declared.Notice.{Notice}
use Rattle.reserve.specs.declared.Notice.TheVariants.{Quiet, LoadReserved, ScStored, ScFailed, Write, DeviceWrite, Yield}
use Rattle.effect.specs.Effect.{Access, nothing, reserve, store, sc_stored, sc_failed, notice_of}

module _ (s t : Settings) where
  abbrev pub Alike : Notice → Type 0
  Alike Quiet = Unit {0}
  Alike (LoadReserved g b w) = Unit {0}
  Alike (ScStored g b n) = Unit {0}
  Alike (ScFailed g) = Unit {0}
  Alike (Write g b n) = Unit {0}
  Alike (DeviceWrite b n) = devices_break s ≡ devices_break t
  Alike (Yield g) = Unit {0}

  pub access_alike : (h : ℕ) (x : Access) → Alike (notice_of h x)
  access_alike h nothing = tt
  access_alike h (reserve a w) = tt
  access_alike h (store a bs) = tt
  access_alike h (sc_stored a bs) = tt
  access_alike h sc_failed = tt

  module _ (size : s.size ≡ t.size) where
    pub covers_same : (r : Option Reservation) → covers_of s r ≡ covers_of t r
    unfolding covers_of
    covers_same None = refl
    covers_same (Some r) = rw size

    breaks_same : (n : Notice) → Alike n → (k : ℕ) (r : Option Reservation) → breaks_of s k n r ≡ breaks_of t k n r
    unfolding breaks_of
    breaks_same n e k None = refl
    breaks_same Quiet e k (Some r) = refl
    breaks_same (LoadReserved g b v) e k (Some r) = refl
    breaks_same (ScStored g b n) e k (Some r) = rw size
    breaks_same (ScFailed g) e k (Some r) = refl
    breaks_same (Write g b n) e k (Some r) = rw size
    breaks_same (DeviceWrite b n) e k (Some r) = rw e
    breaks_same (Yield g) e k (Some r) = refl

    broken_same : (n : Notice) → Alike n → (count : ℕ) (l : List (Option Reservation)) → broken_of s n count l ≡ broken_of t n count l
    unfolding broken_of
    broken_same n e zero l = refl
    broken_same n e (suc k) l = rw (broken_same n e k l, breaks_same n e k (get_or l k None))

    slot_same : (n : Notice) → Alike n → observe_slot s n ≡ observe_slot t n
    unfolding observe_of
    slot_same n e = fun_ext (λ k. fun_ext (λ r. rw (breaks_same n e k r)))

    pub observed_same : (n : Notice) → Alike n → (count : ℕ) (l : List (Option Reservation)) → observe_all_of s count n l ≡ observe_all_of t count n l
    unfolding observe_all_of
    observed_same n e count l = rw (slot_same n e, broken_same n e count l)
