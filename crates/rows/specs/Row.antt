-- One row against the machine.
use Rattle.std.specs.Prelude.{ℕ, Bool, cond, ◌&&◌, not, Result, Ok, Err, eqb, length, get_or, Option, None, Some}
use Rattle.reserve.specs.Range.{inside_of}
use Rattle.isa.specs.Narrow.{decode_at}
use Rattle.effect.specs.Memory.{value_at}
use Rattle.effect.specs.Execute.{reg_at}
use Rattle.events.specs.declared.Event.TheVariants.{Step}
use Rattle.model.specs.Perform.{Machine, xlen, outcome_at, next_of}
use Rattle.model.specs.declared.Outcome.{Outcome}
use Rattle.model.specs.declared.Outcome.TheVariants as O
use Rattle.steplog.specs.declared.Row.{Row}
use Rattle.reach.specs.Rd.{shown_rd}
use Rattle.rows.specs.declared.Stop.{Stop}
use Rattle.rows.specs.declared.Stop.TheVariants as S

-- 02 [1]: "Stop at the first row that is badly formed (a hart not below the count included), differs from the model in pc or (if it can be fetched)
-- word, traps, or differs in rd or value, tried in this order."

-- what the model says of one row: it agrees, or it stops the replay
abbrev pub Told : Type 0
Told = Result (Unit {0}) Stop

-- "or differs in rd or value": by the model's rd and its value, d and v
unfoldable pub told_as : Row → ℕ → ℕ → Told
told_as r d v = cond (eqb r.rd d) (cond (eqb r.value v) (Ok tt) (Err (S.Value r.value v))) (Err (S.Rd r.rd d))

-- "traps": by the answer to the step. A replay tries 1 and 2 first, and a hart that isn't below the count is bad form: so no step is refused
unfoldable pub told_by : Outcome → Row → ℕ → ℕ → Told
told_by (O.Trap cause value) r d v = Err (S.Trap cause value)
told_by (O.Refused number) r d v = Err (S.Refused (record { number = number; place = 0 }))
told_by O.Retired r d v = told_as r d v
told_by O.ScStored r d v = told_as r d v
told_by O.ScFailed r d v = told_as r d v

-- what the model has for a row of hart h at machine m
module _ (base : ℕ) (m : Machine) where
  abbrev pub pc_at : ℕ → ℕ
  pc_at h = get_or m.state.pc h 0

  -- the word at its pc, and whether it is wholly in memory: "if it can be fetched"
  abbrev pub word_at : ℕ → ℕ
  word_at h = value_at base m.mem (pc_at h) 4

  abbrev pub fetchable : ℕ → Bool
  fetchable h = inside_of base (length m.mem) (pc_at h) 4

  abbrev pub rd_at : ℕ → ℕ
  rd_at h = shown_rd (decode_at (xlen m) (word_at h))

  -- "the value in rd afterwards": what the register holds after the step
  abbrev pub value_after : ℕ → ℕ
  value_after h = reg_at (next_of base m (Step h)).state.x h (rd_at h)

  -- From the last of the reasons to the first. "or differs in rd or value", and before them "traps", by the answer to the hart's step
  abbrev pub told_by_step : Row → Told
  told_by_step r = told_by (outcome_at base m (Step r.hart)) r (rd_at r.hart) (value_after r.hart)

  -- "or (if it can be fetched) word"
  unfoldable pub told_by_word : Row → Told
  told_by_word r =
      cond (fetchable r.hart && not (eqb r.word (word_at r.hart)))
      (Err (S.Word r.word (word_at r.hart)))
      (told_by_step r)

  -- "differs from the model in pc"
  unfoldable pub told_by_pc : Row → Told
  told_by_pc r = cond (eqb r.pc (pc_at r.hart)) (told_by_word r) (Err (S.Pc r.pc (pc_at r.hart)))

  -- "badly formed"
  unfoldable pub told_of : Option Row → Told
  told_of None = Err S.Form
  told_of (Some r) = told_by_pc r

  -- the machine after the row, where it agrees: its hart has stepped
  unfoldable pub stepped : Option Row → Machine
  stepped None = m
  stepped (Some r) = next_of base m (Step r.hart)

-- the machine after a row of which this was told: "the state and memory are the ones after exactly those" before a stop
unfoldable pub after_row : Told → ℕ → Machine → Option Row → Machine
after_row (Ok x) base m r = stepped base m r
after_row (Err s) base m r = m
