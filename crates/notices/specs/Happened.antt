-- What an event did, in terms of the event, the instruction that a hart's step performs, and the answer, and without tests; of an AMOCAS also whether
-- memory held what it compares with. m is the machine that the event is put to.
-- RULES 5, 6.2.
use Rattle.std.specs.Prelude.{◌≡◌, ◌⊎◌, ℕ}
use Rattle.word.specs.Word.{low}
use Rattle.isa.specs.Width.{bits_of, bytes_of, pair_bytes}
use Rattle.isa.specs.declared.StoreOp.{StoreOp}
use Rattle.isa.specs.declared.AmoOp.{AmoOp}
use Rattle.isa.specs.declared.AtomicOp.TheVariants.{Lr, Sc, Cas, CasPair, Rmw}
use Rattle.isa.specs.declared.Atomic.{Atomic}
use Rattle.isa.specs.declared.Instr.{Instr}
use Rattle.isa.specs.declared.Instr.TheVariants.{Illegal, Lui, Auipc, Jal, Jalr, Branch, Load, Store, OpImm, OpImm32, Op, Op32, Fence, Ecall, Ebreak, Amo}
use Rattle.effect.specs.Effect.{offset}
use Rattle.effect.specs.Memory.{store_bytes, value_at}
use Rattle.effect.specs.Execute.{reg_at, pair_at}
use Rattle.events.specs.declared.Event.{Event}
use Rattle.events.specs.declared.Event.TheVariants.{Step, Device, Yield}
use Rattle.model.specs.Perform.{Machine, xlen, outcome_at}
use Rattle.model.specs.Fetch.{Fetches}
use Rattle.model.specs.Retired.{IsRetired, Traps, Refuses}
use Rattle.model.specs.declared.Outcome.TheVariants.{ScStored, ScFailed}

-- an atomic instruction's address, for hart g, and the number of its bytes
abbrev pub atomic_address : Machine → ℕ → Atomic → ℕ
atomic_address m g i = reg_at m.state.x g i.rs1

abbrev pub atomic_size : Atomic → ℕ
atomic_size i = bytes_of i.width

-- that of an AMOCAS of a pair: AMOCAS.Q has 16 and, where registers have 32 bits, AMOCAS.D 8
abbrev pub pair_size : Atomic → ℕ
pair_size i = pair_bytes i.width

-- an instruction that neither reserves nor writes: LUI, AUIPC, JAL, JALR, a branch, a load, OP, OP-IMM, OP-32, OP-IMM-32, FENCE
abbrev pub Plain : Instr → Type 0
Plain Illegal = ⊥
Plain Ecall = ⊥
Plain Ebreak = ⊥
Plain (Fence rd rs1 imm) = Unit {0}
Plain (Lui rd imm) = Unit {0}
Plain (Auipc rd imm) = Unit {0}
Plain (Jal rd imm) = Unit {0}
Plain (Jalr rd rs1 imm) = Unit {0}
Plain (Branch op rs1 rs2 imm) = Unit {0}
Plain (Load op rd rs1 imm) = Unit {0}
Plain (Store op rs1 rs2 imm) = ⊥
Plain (OpImm op rd rs1 imm) = Unit {0}
Plain (OpImm32 op rd rs1 imm) = Unit {0}
Plain (Op op rd rs1 rs2) = Unit {0}
Plain (Op32 op rd rs1 rs2) = Unit {0}
Plain (Amo i) = ⊥

module _ (base : ℕ) (m : Machine) (e : Event) where
  -- the event is hart g's step, it performs i, and it retires
  pub record Retires (g : ℕ) (i : Instr) : Type 0 where
    pub the_step : e ≡ Step g
    pub fetches : Fetches base m g i
    pub retired : IsRetired (outcome_at base m e)

  -- a retired LR of hart g, of w bytes at a
  pub record RetiredLr (g a w : ℕ) : Type 0 where
    pub lr : Atomic
    pub retires : Retires g (Amo lr)
    pub operation : lr.op ≡ Lr
    pub address : a ≡ atomic_address m g lr
    pub width : w ≡ atomic_size lr

  -- a retired SC of hart g, whatever its end
  pub record RetiredSc (g : ℕ) : Type 0 where
    pub sc : Atomic
    pub retires : Retires g (Amo sc)
    pub operation : sc.op ≡ Sc

  -- a successful SC of hart g, of n bytes at b
  pub record StoredSc (g b n : ℕ) : Type 0 where
    pub sc : Atomic
    pub retires : Retires g (Amo sc)
    pub operation : sc.op ≡ Sc
    pub stored : outcome_at base m e ≡ ScStored
    pub address : b ≡ atomic_address m g sc
    pub width : n ≡ atomic_size sc

  -- a failed SC of hart g
  pub record FailedSc (g : ℕ) : Type 0 where
    pub sc : Atomic
    pub retires : Retires g (Amo sc)
    pub operation : sc.op ≡ Sc
    pub failed : outcome_at base m e ≡ ScFailed

  -- 01: "a retired store, AMO, equal AMOCAS": of hart g, of n bytes at b. amocas_pair is AMOCAS.Q, and AMOCAS.D where registers have 32 bits
  pub data PlainWrite (g b n : ℕ) : Type 0 where
    store : (op : StoreOp) (rs1 rs2 imm : ℕ) → Retires g (Store op rs1 rs2 imm)
        → b ≡ offset (xlen m) (reg_at m.state.x g rs1) imm → n ≡ store_bytes op → PlainWrite g b n
    amo : (i : Atomic) (op : AmoOp) → Retires g (Amo i) → i.op ≡ Rmw op → b ≡ atomic_address m g i → n ≡ atomic_size i → PlainWrite g b n
    amocas : (i : Atomic) → Retires g (Amo i) → i.op ≡ Cas → b ≡ atomic_address m g i → n ≡ atomic_size i
        → value_at base m.mem b n ≡ low (bits_of i.width) (reg_at m.state.x g i.rd) → PlainWrite g b n
    amocas_pair : (i : Atomic) → Retires g (Amo i) → i.op ≡ CasPair → b ≡ atomic_address m g i → n ≡ pair_size i
        → value_at base m.mem b n ≡ pair_at i.width (reg_at m.state.x g) i.rd → PlainWrite g b n

  -- 01: "a retired store, AMO, equal AMOCAS or successful SC"
  abbrev pub HartWrites : ℕ → ℕ → ℕ → Type 0
  HartWrites g b n = PlainWrite g b n ⊎ StoredSc g b n

  -- 01: "a device write that isn't refused": of n bytes at b
  pub record DeviceWrites (b n : ℕ) : Type 0 where
    pub value : ℕ
    pub the_device : e ≡ Device b n value
    pub taken : Refuses (outcome_at base m e) → ⊥

  -- 01: "a retired store, AMO, equal AMOCAS or successful SC, or a device write that isn't refused": the event writes n bytes at b
  pub data WritesBytes (b n : ℕ) : Type 0 where
    by_hart : (g : ℕ) → HartWrites g b n → WritesBytes b n
    by_device : DeviceWrites b n → WritesBytes b n

  -- a yield of hart g that isn't refused
  pub record Yields (g : ℕ) : Type 0 where
    pub the_yield : e ≡ Yield g
    pub taken : Refuses (outcome_at base m e) → ⊥

  -- the event reserves nothing, writes nothing and drops no reservation of its own: a refusal, a trap, such an instruction, or an unequal AMOCAS
  pub data Silent : Type 0 where
    refused : Refuses (outcome_at base m e) → Silent
    trapped : Traps (outcome_at base m e) → Silent
    plain : (g : ℕ) (i : Instr) → Retires g i → Plain i → Silent
    unequal : (g : ℕ) (i : Atomic) → Retires g (Amo i) → i.op ≡ Cas
        → (value_at base m.mem (atomic_address m g i) (atomic_size i) ≡ low (bits_of i.width) (reg_at m.state.x g i.rd) → ⊥) → Silent
    unequal_pair : (g : ℕ) (i : Atomic) → Retires g (Amo i) → i.op ≡ CasPair
        → (value_at base m.mem (atomic_address m g i) (pair_size i) ≡ pair_at i.width (reg_at m.state.x g) i.rd → ⊥) → Silent
