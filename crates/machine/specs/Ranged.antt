-- What the type of a state fixes of its registers, pcs and reservations: how many there are, and that their numbers have 64 bits.
use Rattle.std.specs.Prelude.{ℕ, ◌^◌, ◌<◌, Option, None, Some, get_or}
use Rattle.reserve.specs.declared.Reservation.{Reservation}
use Rattle.machine.specs.Rules.{Shaped}
use Rattle.machine.specs.declared.State.{State}

abbrev pub Fits64 : Option Reservation → Type 0
Fits64 None = Unit {0}
Fits64 (Some r) = (r.addr < 2 ^ 64) × (r.width < 2 ^ 64)

pub record Ranged (s : State) : Type 0 where
  pub shaped : Shaped s
  pub registers : (i : ℕ) → get_or s.x i 0 < 2 ^ 64
  pub pcs : (h : ℕ) → get_or s.pc h 0 < 2 ^ 64
  pub reservations : (h : ℕ) → Fits64 (get_or s.res h None)
