-- The reasons of 02 [1] for which a row stops a replay, in their order and without tests; and what agrees.
use Rattle.std.specs.Prelude.{◌≡◌, List, ℕ, zero, suc, ◌*◌, ◌%◌, ◌<◌, length}
use Rattle.word.specs.Memory.{part}
use Rattle.reserve.specs.Range.{Inside}
use Rattle.machine.specs.Rules.{MemoryRules, WrongMemory, StateRules}
use Rattle.machine.specs.declared.State.{State}
use Rattle.events.specs.declared.Event.TheVariants.{Step}
use Rattle.model.specs.Perform.{Machine, outcome_at, next_of}
use Rattle.model.specs.Retired.{IsRetired}
use Rattle.model.specs.declared.Outcome.TheVariants as O
use Rattle.steplog.specs.Row.{IsRow}
use Rattle.steplog.specs.declared.Row.{Row}
use Rattle.rows.specs.Row.{pc_at, word_at, rd_at, value_after}
use Rattle.rows.specs.declared.Stop.{Stop}
use Rattle.rows.specs.declared.Stop.TheVariants as S

-- The row agrees with the model in every field: pc, word (if it can be fetched), no trap, rd, and the value in rd afterwards.
pub record RowAgrees (base : ℕ) (m : Machine) (r : Row) : Type 0 where
  pub pc : r.pc ≡ pc_at base m r.hart
  pub word : Inside base (length m.mem) (pc_at base m r.hart) 4 → r.word ≡ word_at base m r.hart
  pub retired : IsRetired (outcome_at base m (Step r.hart))
  pub rd : r.rd ≡ rd_at base m r.hart
  pub value : r.value ≡ value_after base m r.hart

-- The reason at this place of the order applies to a row that is well formed, and gives this stop: "the field and both values for a difference, cause and
-- value for a trap".
pub data Reason (base : ℕ) (m : Machine) (r : Row) (place : ℕ) (s : Stop) : Type 0 where
  -- "differs from the model in pc"
  other_pc : place ≡ 1 → s ≡ S.Pc r.pc (pc_at base m r.hart) → (r.pc ≡ pc_at base m r.hart → ⊥) → Reason base m r place s
  -- "or (if it can be fetched) word"
  other_word : place ≡ 2 → s ≡ S.Word r.word (word_at base m r.hart) → Inside base (length m.mem) (pc_at base m r.hart) 4
      → (r.word ≡ word_at base m r.hart → ⊥) → Reason base m r place s
  -- "traps"
  trapped : (cause value : ℕ) → place ≡ 3 → s ≡ S.Trap cause value → outcome_at base m (Step r.hart) ≡ O.Trap cause value → Reason base m r place s
  -- "or differs in rd"
  other_rd : place ≡ 4 → s ≡ S.Rd r.rd (rd_at base m r.hart) → (r.rd ≡ rd_at base m r.hart → ⊥) → Reason base m r place s
  -- "or value"
  other_value : place ≡ 5 → s ≡ S.Value r.value (value_after base m r.hart) → (r.value ≡ value_after base m r.hart → ⊥) → Reason base m r place s

-- "tried in this order": a reason applies with this stop, and none before it does
pub record FirstReason (base : ℕ) (m : Machine) (r : Row) (s : Stop) : Type 0 where
  pub place : ℕ
  pub applies : Reason base m r place s
  pub first : (k : ℕ) (t : Stop) → k < place → Reason base m r k t → ⊥

-- row k of a log: its 48 bytes
abbrev pub row_bytes : List ℕ → ℕ → List ℕ
row_bytes log k = part log (k * 48) 48

-- these bytes are a row, and it agrees
pub record Agreeing (base : ℕ) (m : Machine) (bytes : List ℕ) : Type 0 where
  pub row : Row
  pub is : IsRow m.state.count bytes row
  pub agrees : RowAgrees base m row

-- these bytes stop the replay with s
pub data Stopping (base : ℕ) (m : Machine) (bytes : List ℕ) (s : Stop) : Type 0 where
  -- "badly formed (a hart not below the count included)": they are no row; "nothing more for bad form"
  no_row : s ≡ S.Form → ((r : Row) → IsRow m.state.count bytes r → ⊥) → Stopping base m bytes s
  -- they are a row, to which a reason applies
  is_row : (r : Row) → IsRow m.state.count bytes r → FirstReason base m r s → Stopping base m bytes s

-- the first k rows of a log agree, one after another from machine m on: each with the machine that the rows before it left, and its hart then steps.
-- They lead to m'
unfoldable pub AgreeTo : ℕ → Machine → List ℕ → ℕ → Machine → Type 0
AgreeTo base m log zero m' = m' ≡ m
AgreeTo base m log (suc k) m' =
    (here : Machine) × (a : Agreeing base here (row_bytes log k)) × AgreeTo base m log k here × (m' ≡ next_of base here (Step a.row.hart))

-- none of 1, 2, 12 and 13
pub record Replayable (base : ℕ) (mem : List ℕ) (s : State) (log : List ℕ) : Type 0 where
  pub memory : MemoryRules s.settings base (length mem)
  pub state : StateRules base (length mem) s
  pub whole : length log % 48 ≡ 0
  pub some : 0 < length log

-- the refusals of a replay, in the order they are tried: 1 and 2 (01, with 02 [5], [7] and [10]), then "12, log length not a multiple of 48", then "13, a
-- log of no rows"
pub data RefusedBy (base : ℕ) (mem : List ℕ) (s : State) (log : List ℕ) (number : ℕ) : Type 0 where
  memory : number ≡ 1 → WrongMemory s.settings base (length mem) → RefusedBy base mem s log number
  state : number ≡ 2 → MemoryRules s.settings base (length mem) → (StateRules base (length mem) s → ⊥) → RefusedBy base mem s log number
  cut : number ≡ 12 → MemoryRules s.settings base (length mem) → StateRules base (length mem) s → (length log % 48 ≡ 0 → ⊥) → RefusedBy base mem s log number
  empty : number ≡ 13 → MemoryRules s.settings base (length mem) → StateRules base (length mem) s → length log ≡ 0 → RefusedBy base mem s log number

-- a stop that a row gives: neither that all agreed nor a refusal
abbrev pub OfRow : Stop → Type 0
OfRow S.Agreed = ⊥
OfRow S.Form = Unit {0}
OfRow (S.Pc board model) = Unit {0}
OfRow (S.Word board model) = Unit {0}
OfRow (S.Trap cause value) = Unit {0}
OfRow (S.Rd board model) = Unit {0}
OfRow (S.Value board model) = Unit {0}
OfRow (S.Refused r) = ⊥
