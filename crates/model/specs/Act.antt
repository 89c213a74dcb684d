-- What an event comes to: decided once, and then told and applied. The outcome, the harts whose reservation it broke and what changes are read off the
-- decision.
-- RULES 1.4, 2.3, 3.1 (what a refusal and a trap leave), 3.3, 5.1 (`broken_after`).
use Rattle.std.specs.Prelude.{ℕ, ◌+◌, ◌-◌, ◌*◌, ◌%◌, cond, Option, List, eqb, length, set}
use Rattle.word.specs.Memory.{splice}
use Rattle.settings.specs.declared.Settings.{Settings}
use Rattle.reserve.specs.Reserve.{observe_all_of}
use Rattle.reserve.specs.declared.Reservation.{Reservation}
use Rattle.reserve.specs.declared.Notice.{Notice}
use Rattle.reserve.specs.declared.Notice.TheVariants.{Quiet, LoadReserved, ScStored, ScFailed, Write, DeviceWrite, Yield}
use Rattle.machine.specs.declared.State.{State}
use Rattle.effect.specs.Effect.{Writes, none, one, pair, Access, stored, notice_of}
use Rattle.model.specs.declared.Outcome.{Outcome}
use Rattle.model.specs.declared.Outcome.TheVariants as O

pub data Act : Type 0 where
  refuse : ℕ → Act  -- a refusal's number
  fault : ℕ → ℕ → Act  -- a trap's cause and value
  change : ℕ → Writes → ℕ → Access → Act  -- a retired step: its hart, the registers written, the next pc, the access
  put : ℕ → List ℕ → Act  -- a device write: its address and bytes
  release : ℕ → Act  -- a yield of a hart

-- what reservations learn of it
abbrev pub act_notice : Act → Notice
act_notice (refuse number) = Quiet
act_notice (fault cause value) = Quiet
act_notice (change h ws to t) = notice_of h t
act_notice (put a bs) = DeviceWrite a (length bs)
act_notice (release h) = Yield h

-- the outcome of a retired event
abbrev pub retired_as : Notice → Outcome
retired_as Quiet = O.Retired
retired_as (LoadReserved g a w) = O.Retired
retired_as (ScStored g b n) = O.ScStored
retired_as (ScFailed g) = O.ScFailed
retired_as (Write g b n) = O.Retired
retired_as (DeviceWrite b n) = O.Retired
retired_as (Yield g) = O.Retired

-- the outcome, with 01's number or cause and value
abbrev pub outcome_of : Act → Outcome
outcome_of (refuse number) = O.Refused number
outcome_of (fault cause value) = O.Trap cause value
outcome_of (change h ws to t) = retired_as (notice_of h t)
outcome_of (put a bs) = O.Retired
outcome_of (release h) = O.Retired

-- register r of hart h set; x0 never is
unfoldable pub set_reg : ℕ → ℕ → ℕ → List ℕ → List ℕ
set_reg h r v x = cond (eqb (r % 32) 0) x (set x (h * 32 + r % 32) v)

abbrev pub written : ℕ → Writes → List ℕ → List ℕ
written h none x = x
written h (one r v) x = set_reg h r v x
written h (pair r v r2 v2) x = set_reg h r2 v2 (set_reg h r v x)

-- What is afterwards, part by part. A refusal and a trap leave all as it was.
abbrev pub registers_after : Act → List ℕ → List ℕ
registers_after (refuse number) x = x
registers_after (fault cause value) x = x
registers_after (change h ws to t) x = written h ws x
registers_after (put a bs) x = x
registers_after (release h) x = x

abbrev pub pcs_after : Act → List ℕ → List ℕ
pcs_after (refuse number) pc = pc
pcs_after (fault cause value) pc = pc
pcs_after (change h ws to t) pc = set pc h to
pcs_after (put a bs) pc = pc
pcs_after (release h) pc = pc

-- the reservations of the first count harts follow the notice, by the settings
abbrev pub slots_after : Settings → ℕ → Act → List (Option Reservation) → List (Option Reservation)
slots_after settings count (refuse number) l = l
slots_after settings count (fault cause value) l = l
slots_after settings count (change h ws to t) l = (observe_all_of settings count (notice_of h t) l).slots
slots_after settings count (put a bs) l = (observe_all_of settings count (DeviceWrite a (length bs)) l).slots
slots_after settings count (release h) l = (observe_all_of settings count (Yield h) l).slots

-- 02 [3]: "the set of harts whose reservation it broke, one bit each, bit 0 for hart 0": of the first count harts, by their reservations before
abbrev pub broken_after : Settings → ℕ → Act → List (Option Reservation) → ℕ
broken_after settings count (refuse number) l = 0
broken_after settings count (fault cause value) l = 0
broken_after settings count (change h ws to t) l = (observe_all_of settings count (notice_of h t) l).broken
broken_after settings count (put a bs) l = (observe_all_of settings count (DeviceWrite a (length bs)) l).broken
broken_after settings count (release h) l = (observe_all_of settings count (Yield h) l).broken

unfoldable pub leaves : ℕ → List ℕ → Act → List ℕ
leaves base mem (refuse number) = mem
leaves base mem (fault cause value) = mem
leaves base mem (change h ws to t) = stored base mem t
leaves base mem (put a bs) = splice mem (a - base) bs
leaves base mem (release h) = mem

-- the state afterwards
unfoldable pub apply : State → Act → State
apply s act =
    record {
      count = s.count;
      settings = s.settings;
      x = registers_after act s.x;
      pc = pcs_after act s.pc;
      res = slots_after s.settings s.count act s.res;
    }
