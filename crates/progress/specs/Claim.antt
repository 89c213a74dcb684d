-- Demand 3, "an accepted retry loop left alone finishes within as many steps of its hart as it has words, without a refusal, a trap or a failed SC
-- of that hart", in the words of 01 ("The words of demand 3"). The events are those of `perform`: answer_of and next_of are what it computes.
-- RULES 6.2, 11.3.
use Rattle.std.specs.Prelude.{◌≡◌, ◌≢◌, ◌⊎◌, Bool, true, false, cond, List, [], ◌∷◌, ℕ, suc, ◌+◌, ◌*◌, ◌-◌, ◌%◌, ◌<◌, eqb, length, get_or}
use Rattle.word.specs.Bytes.{to_le}
use Rattle.word.specs.Memory.{part}
use Rattle.settings.specs.Settings.{at_version}
use Rattle.settings.specs.declared.Settings.{Settings}
use Rattle.reserve.specs.Range.{Touch, Inside, set_of}
use Rattle.reserve.specs.declared.Notice.TheVariants as N
use Rattle.isa.specs.Width.{bytes_of}
use Rattle.isa.specs.declared.Atomic.{Atomic}
use Rattle.machine.specs.Rules.{Shaped}
use Rattle.effect.specs.Execute.{reg_at}
use Rattle.effect.specs.Memory.{value_at}
use Rattle.events.specs.declared.Event.{Event}
use Rattle.events.specs.declared.Event.TheVariants.{Step, Device, Yield}
use Rattle.model.specs.Perform.{Machine, set_size, xlen, next_of, run_of, outcome_at}
use Rattle.model.specs.Valid.{Valid}
use Rattle.model.specs.Trace.{notice_at, WritesInto}
use Rattle.model.specs.declared.Outcome.{Outcome}
use Rattle.model.specs.declared.Outcome.TheVariants as O
use Rattle.notices.specs.Happened.{StoredSc, WritesBytes}
use Rattle.retry.specs.Loop.{check_of}
use Rattle.retry.specs.Reasons.{LrAt}
use Rattle.retry.specs.declared.LoopAnswer.TheVariants.{Accepted}

-- a hart's pc
abbrev pub hart_pc : Machine → ℕ → ℕ
hart_pc m h = get_or m.state.pc h 0

-- the event is a step of hart h
abbrev pub is_step : ℕ → Event → Bool
is_step h (Step g) = eqb g h
is_step h (Device a n v) = false
is_step h (Yield g) = false

-- how many of the events are steps of hart h
abbrev pub steps : ℕ → List Event → ℕ
steps h [] = 0
steps h (e ∷ es) = cond (is_step h e) (suc (steps h es)) (steps h es)

-- A memory at base; hart h; a block of words whose place 0 stands at p and is the LR lr; the LR's address addr.
module _ (base h p addr : ℕ) (words : List ℕ) (lr : Atomic) where
  -- where the claim starts, with a block that the checker accepts under these settings, meant to be of the machine's own kind
  pub record StartUnder (settings : Settings) (m : Machine) : Type 0 where
    -- "a memory and a state that 1 and 2 don't refuse, with any reservations": a value of the state's type, whose arrays have their lengths
    pub valid : Valid base m
    pub shaped : Shaped m.state
    -- "and a hart below the count"
    pub used : h < m.state.count
    -- "Its pc is the address of place 0"
    pub here : hart_pc m h ≡ p
    -- "of an accepted block"
    pub accepted : check_of settings words ≡ Accepted
    -- "the word at place k stands at that address plus 4k"
    pub placed : (k : ℕ) → k < length words → value_at base m.mem (p + 4 * k) 4 ≡ get_or words k 0
    -- "every word of the block inside memory"
    pub mapped : (k : ℕ) → k < length words → Inside base (length m.mem) (p + 4 * k) 4
    -- "The LR's address is the value of its rs1 in this state"
    pub first : LrAt (xlen m) words 0 lr
    pub address : reg_at m.state.x h lr.rs1 ≡ addr
    -- "aligned to the LR's width"
    pub aligned : addr % bytes_of lr.width ≡ 0
    -- "its 4 or 8 bytes inside memory"
    pub reachable : Inside base (length m.mem) addr (bytes_of lr.width)

  -- The claim is of blocks that A 2.1 accepts, whichever version the state has. 02 [7]: "Demand 3 stands for 2.1 as before, and for 2.0 only for loops with
  -- no JALR"; these "are exactly the loops that 2.1 accepts" (retry/proofs/VersionLaws: without_jalr).
  -- The checker looks at the version and the kind alone, so the set size plays no part (checked_same).
  abbrev pub Start : Machine → Type 0
  Start m = StartUnder (at_version 21 m.state.settings) m

  -- The event leaves the loop alone: it writes into neither the loop's words nor the reserved set, and is no yield of the hart. The reserved set is "the
  -- set around it, from the first event on": as many bytes as the state's set size (02 [5]), which no event changes. "Something writes into bytes if it
  -- touches at least one of them, even with the same bytes, and is a retired store, AMO, equal AMOCAS or successful SC, or a device write that isn't
  -- refused": that is `WritesBytes`, of n bytes at b.
  pub record LeftAlone (m : Machine) (e : Event) : Type 0 where
    pub no_word : (b n : ℕ) → WritesBytes base m e b n → Touch b n p (4 * length words) → ⊥
    pub no_set : (b n : ℕ) → WritesBytes base m e b n → Touch b n (set_of (set_size m) addr) (set_size m) → ⊥
    pub no_yield : e ≢ Yield h

  -- The same in terms of what reservations learn of the event. A refused event and a trap do none of these.
  pub record Harmless (m : Machine) (e : Event) : Type 0 where
    pub block : WritesInto (notice_at base m e) p (4 * length words) → ⊥
    pub reserved : WritesInto (notice_at base m e) (set_of (set_size m) addr) (set_size m) → ⊥
    pub stays : notice_at base m e ≢ N.Yield h

  -- With the event hart h makes an SC that succeeds at the LR's address: "An SC succeeds or fails by the rule above, also where its rd is x0; the
  -- successful one leaves the low 4 or 8 bytes of rs2 at the LR's address."
  pub record StoresAtLr (m : Machine) (e : Event) : Type 0 where
    pub success : StoredSc base m e h addr (bytes_of lr.width)
    pub bytes : part (next_of base m e).mem (addr - base) (bytes_of lr.width)
        ≡ to_le (bytes_of lr.width) (reg_at m.state.x h success.sc.rs2)

  -- "without a refusal, a trap or a failed SC"; and where an SC of the hart succeeds, it does so at the LR's address and leaves rs2 there
  abbrev pub FineAs : Machine → Event → Outcome → Type 0
  FineAs m e O.Retired = Unit {0}
  FineAs m e O.ScStored = StoresAtLr m e
  FineAs m e O.ScFailed = ⊥
  FineAs m e (O.Trap cause value) = ⊥
  FineAs m e (O.Refused number) = ⊥

  abbrev pub Fine : Machine → Event → Type 0
  Fine m e = FineAs m e (outcome_at base m e)

  -- "The hart has left the loop when its pc is the address of none of the block's words, and has come back when, after a step, its pc is that of
  -- place 0."
  pub data Finish (m : Machine) (e : Event) : Type 0 where
    by_sc : StoresAtLr m e → Finish m e
    left : ((k : ℕ) → k < length words → hart_pc (next_of base m e) h ≢ p + 4 * k) → Finish m e
    back : hart_pc (next_of base m e) h ≡ p → Finish m e

  -- From m on, hart h makes no step but fine ones up to its finish, which is at most its k-th, as long as all other events leave the loop alone, in the
  -- words of Alone: "a single claim about the whole list of events"; "Each event gets the state and the memory as the event before returned or left
  -- them"; "Refused events and traps stay in the list"; "What comes after the finish is free".
  abbrev pub Safe : (Machine → Event → Type 0) → ℕ → Machine → List Event → Type 0
  Safe Alone k m [] = Unit {0}
  Safe Alone k m (e ∷ es) =
      cond (is_step h e)
      (Fine m e × (Finish m e ⊎ ((1 < k) × Safe Alone (k - 1) (next_of base m e) es)))
      (Alone m e → Safe Alone k (next_of base m e) es)

  -- "within as many steps of its hart as it has words", for every list of events
  abbrev pub Finishes : (Machine → Event → Type 0) → Machine → Type 0
  Finishes Alone m = (es : List Event) → Safe Alone (length words) m es

  -- ---- the same without recursion

  -- the other events so far left the loop alone
  abbrev pub Calm : (Machine → Event → Type 0) → Machine → List Event → Type 0
  Calm Alone m [] = Unit {0}
  Calm Alone m (e ∷ es) = (is_step h e ≡ false → Alone m e) × Calm Alone (next_of base m e) es

  -- none of the hart's steps so far was its finish
  abbrev pub Unfinished : Machine → List Event → Type 0
  Unfinished m [] = Unit {0}
  Unfinished m (e ∷ es) = (is_step h e ≡ true → Finish m e → ⊥) × Unfinished (next_of base m e) es

  -- If the hart steps next after these events, the step is fine and at most its k-th, and the k-th is the finish.
  pub record NextStep (k : ℕ) (m : Machine) (so_far : List Event) : Type 0 where
    pub fine : Fine (run_of base m so_far) (Step h)
    pub bounded : steps h so_far < k
    pub finishes : suc (steps h so_far) ≡ k → Finish (run_of base m so_far) (Step h)
