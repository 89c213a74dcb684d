-- What the setting misaligned decides of an event, and what it doesn't (02 [11]), without tests.
-- RULES 1.6, 3.1.
use Rattle.std.specs.Prelude.{◌≡◌, ◌≢◌, ℕ, ◌%◌}
use Rattle.isa.specs.Width.{bytes_of, pair_bytes}
use Rattle.isa.specs.declared.AtomicOp.{AtomicOp}
use Rattle.isa.specs.declared.AtomicOp.TheVariants.{Lr, Sc, Cas, CasPair, Rmw}
use Rattle.isa.specs.declared.Atomic.{Atomic}
use Rattle.isa.specs.declared.Instr.TheVariants.{Amo}
use Rattle.isa.specs.declared.Width.{Width}
use Rattle.effect.specs.Execute.{reg_at}
use Rattle.events.specs.declared.Event.{Event}
use Rattle.events.specs.declared.Event.TheVariants.{Step}
use Rattle.model.specs.Fetch.{Fetches}
use Rattle.model.specs.Perform.{Machine, outcome_at, broke_at, next_of}
use Rattle.model.specs.declared.Outcome.TheVariants.{Trap}

-- the machine with another number in this setting
abbrev pub giving : ℕ → Machine → Machine
giving n m =
    let s = m.state in
    let t = s.settings in
    record {
      state = record {
        count = s.count;
        settings = record { size = t.size; version = t.version; kind = t.kind; misaligned = n };
        x = s.x;
        pc = s.pc;
        res = s.res;
      };
      mem = m.mem;
    }

-- how many bytes an atomic instruction reaches
abbrev pub reach_bytes : AtomicOp → Width → ℕ
reach_bytes Lr w = bytes_of w
reach_bytes Sc w = bytes_of w
reach_bytes Cas w = bytes_of w
reach_bytes CasPair w = pair_bytes w
reach_bytes (Rmw op) w = bytes_of w

-- the event is put to m: it is a step of hart h, of an LR, SC, AMO or AMOCAS whose address isn't aligned to its bytes
pub record MisalignedStep (base : ℕ) (m : Machine) (e : Event) (h : ℕ) (i : Atomic) : Type 0 where
  pub the_step : e ≡ Step h
  pub fetches : Fetches base m h (Amo i)
  pub skewed : reg_at m.state.x h i.rs1 % reach_bytes i.op i.width ≢ 0

-- "0 where a misaligned LR, SC or AMO gives 4 and 6, 1 where it gives, as 000 permits, 5 and 7": the event is put to m under 0 and under 1. Its outcome is the
-- same, a trap's cause and value and a refusal's number included, unless it is one of these, with the address for value both times
pub data SameButCause (base : ℕ) (m : Machine) (e : Event) : Type 0 where
  same : outcome_at base (giving 1 m) e ≡ outcome_at base (giving 0 m) e → SameButCause base m e
  lr : (h : ℕ) (i : Atomic) → MisalignedStep base m e h i → i.op ≡ Lr → outcome_at base (giving 0 m) e ≡ Trap 4 (reg_at m.state.x h i.rs1)
      → outcome_at base (giving 1 m) e ≡ Trap 5 (reg_at m.state.x h i.rs1) → SameButCause base m e
  amo : (h : ℕ) (i : Atomic) → MisalignedStep base m e h i → i.op ≢ Lr → outcome_at base (giving 0 m) e ≡ Trap 6 (reg_at m.state.x h i.rs1)
      → outcome_at base (giving 1 m) e ≡ Trap 7 (reg_at m.state.x h i.rs1) → SameButCause base m e

-- and in both cases it leaves the same state and memory, but for the setting itself, and breaks the same reservations
pub record OnlyCauses (base : ℕ) (m : Machine) (e : Event) : Type 0 where
  pub outcome : SameButCause base m e
  pub leaves : next_of base (giving 1 m) e ≡ giving 1 (next_of base (giving 0 m) e)
  pub broke : broke_at base (giving 1 m) e ≡ broke_at base (giving 0 m) e
