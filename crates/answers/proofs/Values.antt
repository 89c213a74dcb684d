-- The value of a trap is a number of the register width. Assumes nothing; that a state's numbers have 64 bits and a memory is of bytes (Ranged, IsBytes),
-- which the theorem asks, their types say.
use Prim.Native.Nat.{ℕ, ◌+◌, ◌^◌, ◌<◌}
use mathlib.Core.Path.{◌≡◌, refl, subst}
use mathlib.Core.Logic.{⊎_elim}
use mathlib.Core.List.{List}
use native.Mathlib.Nat.{mod-lt}
use native.Mathlib.Omega.{arith}
use lib.Dec.{ltb, lit<}
use lib.ListN.{length, get_or}
use lib.Pow.{pow_pos, pow_mono}
use borrow.Author.Tests.{ltb-true, ltb-false}
use Rattle.word.specs.Word.{low, Xlen}
use Rattle.word.specs.Bytes.{IsBytes}
use Rattle.word.proofs.ChooseLaws.{cond_all}
use Rattle.word.proofs.TestLaws.{bool_cases}
use Rattle.word.proofs.WordLaws.{low_lt, xlen_bounds}
use Rattle.isa.specs.declared.AtomicOp.{AtomicOp}
use Rattle.isa.specs.declared.AtomicOp.TheVariants.{Lr, Sc, Cas, CasPair, Rmw}
use Rattle.isa.specs.declared.Width.{Width}
use Rattle.isa.specs.declared.Instr.{Instr}
use Rattle.isa.specs.declared.Instr.TheVariants.{Illegal, Lui, Auipc, Jal, Jalr, Branch, Load, Store, OpImm, OpImm32, Op, Op32, Fence, Ecall, Ebreak, Amo}
use Rattle.settings.specs.Settings.{xlen_of}
use Rattle.settings.proofs.SettingsLaws.{xlen_is}
use Rattle.machine.specs.Rules.{StateRules}
use Rattle.machine.specs.Ranged.{Ranged}
use Rattle.machine.specs.declared.State.{State}
use Rattle.events.specs.declared.Event.{Event}
use Rattle.events.specs.declared.Event.TheVariants.{Step, Device, Yield}
use Rattle.effect.specs.Integer.{holds_of}
use Rattle.effect.specs.Execute.{reg_at}
use Rattle.effect.proofs.Fits.{value_lt}
use Rattle.model.specs.Perform.{answer_of}
use Rattle.model.specs.declared.Outcome.TheVariants as O
use Rattle.answers.specs.Refusals.{bad_state, no_hart, Unrefused}
use Rattle.answers.specs.Causes.{Reach, nowhere, jumps, reads, writes, atomic_reach, reach_of, TrapRow, EventRow}
use Rattle.answers.specs.Causes.{unfetched, unknown, called, halted, misaligned_target, misaligned_read, misaligned_write, misaligned_lr, misaligned_amo}
use Rattle.answers.specs.Causes.{outside_read, outside_write}
use Rattle.answers.proofs.Answers.{trap_exact}

-- a number that has 64 bits, and 32 where registers have no more
xlen_lt : (xlen : ℕ) → Xlen xlen → (n : ℕ) → n < 2 ^ 64 → (xlen ≡ 32 → n < 2 ^ 32) → n < 2 ^ xlen
xlen_lt xlen is n wide narrow = ⊎_elim (λ (e : xlen ≡ 32). rw e (narrow e)) (λ (e : xlen ≡ 64). rw e wide) is

-- the target or the address is below n
abbrev Below : ℕ → Reach → Type 0
Below n nowhere = Unit {0}
Below n (jumps t) = t < n
Below n (reads m a w) = a < n
Below n (writes m a w) = a < n

atomic_lt : (n : ℕ) (op : AtomicOp) (w : Width) (a : ℕ) → a < n → Below n (atomic_reach op w a)
atomic_lt n Lr w a l = l
atomic_lt n Sc w a l = l
atomic_lt n Cas w a l = l
atomic_lt n CasPair w a l = l
atomic_lt n (Rmw op) w a l = l

-- a hart whose registers and pc are numbers of xlen bits
module _ (xlen : ℕ) (x : ℕ → ℕ) (registers : (r : ℕ) → x r < 2 ^ xlen) (pc : ℕ) (here : pc < 2 ^ xlen) where
  reach_lt : (i : Instr) → Below (2 ^ xlen) (reach_of xlen i x pc)
  unfolding low
  reach_lt (Jal rd imm) = low_lt xlen (pc + imm)
  reach_lt (Jalr rd rs1 imm) = omega (arith, low_lt xlen (x rs1 + imm))
  reach_lt (Branch op rs1 rs2 imm) = cond_all (Below (2 ^ xlen)) (holds_of xlen op (x rs1) (x rs2)) (jumps _) nowhere (low_lt xlen (pc + imm)) tt
  reach_lt (Load op rd rs1 imm) = low_lt xlen (x rs1 + imm)
  reach_lt (Store op rs1 rs2 imm) = low_lt xlen (x rs1 + imm)
  reach_lt (Amo m) = atomic_lt (2 ^ xlen) m.op m.width (x m.rs1) (registers m.rs1)
  reach_lt Illegal = tt
  reach_lt Ecall = tt
  reach_lt Ebreak = tt
  reach_lt (Fence rd rs1 imm) = tt
  reach_lt (Lui rd imm) = tt
  reach_lt (Auipc rd imm) = tt
  reach_lt (OpImm op rd rs1 imm) = tt
  reach_lt (OpImm32 op rd rs1 imm) = tt
  reach_lt (Op op rd rs1 rs2) = tt
  reach_lt (Op32 op rd rs1 rs2) = tt

  row_lt : (misaligned word : ℕ) → word < 2 ^ xlen → (i : Instr) (base : ℕ) (mem : List ℕ) (k c v : ℕ) → TrapRow xlen misaligned i word x pc base mem k c v → v < 2 ^ xlen
  row_lt misaligned word l i base mem k c v (unfetched p q r z) = rw r here
  row_lt misaligned word l i base mem k c v (unknown p q r z) = rw r l
  row_lt misaligned word l i base mem k c v (called p q r z) = rw r (pow_pos xlen)
  row_lt misaligned word l i base mem k c v (halted p q r z) = rw r (pow_pos xlen)
  row_lt misaligned word l i base mem k c v (misaligned_target p q r z) = subst (Below (2 ^ xlen)) r (reach_lt i)
  row_lt misaligned word l i base mem k c v (misaligned_read p q n r z) = subst (Below (2 ^ xlen)) r (reach_lt i)
  row_lt misaligned word l i base mem k c v (misaligned_write p q n r z) = subst (Below (2 ^ xlen)) r (reach_lt i)
  row_lt misaligned word l i base mem k c v (misaligned_lr p q n r z) = subst (Below (2 ^ xlen)) r (reach_lt i)
  row_lt misaligned word l i base mem k c v (misaligned_amo p q n r z) = subst (Below (2 ^ xlen)) r (reach_lt i)
  row_lt misaligned word l i base mem k c v (outside_read p q t n r z) = subst (Below (2 ^ xlen)) r (reach_lt i)
  row_lt misaligned word l i base mem k c v (outside_write p q t n r z) = subst (Below (2 ^ xlen)) r (reach_lt i)

module _ (base : ℕ) (mem : List ℕ) (s : State) (ranged : Ranged s) (bytes : IsBytes mem) where
  -- by what 2 asks of a hart below the count; the word has 32 bits, and no register has fewer
  step_lt : StateRules base (length mem) s → (h : ℕ) → h < s.count → (k c v : ℕ) → EventRow base mem s (Step h) k c v → v < 2 ^ xlen_of s.settings
  unfolding reg_at
  step_lt rules h l =
      let xlen = xlen_of s.settings in
      let is = xlen_is s.settings in
      let pc = get_or s.pc h 0 in
      let upper = (rules.2 h l).3 in
      row_lt xlen (reg_at s.x h) (λ r. xlen_lt xlen is _ (ranged.registers _) (λ e. (upper e).0 _ (mod-lt r (lit< tt)))) pc
      (xlen_lt xlen is pc (ranged.pcs h) (λ e. (upper e).1)) _ _
      (omega (arith, value_lt base mem bytes pc 4, pow_mono {i = 32} {j = xlen} (xlen_bounds xlen is).0)) _ base mem

  -- neither 2 nor 3 refuses an event that traps; that they don't is only known as a denial, so the bound is tried
  event_lt : (e : Event) → Unrefused base mem s e → (k c v : ℕ) → EventRow base mem s e k c v → v < 2 ^ xlen_of s.settings
  event_lt (Step h) free k c v row =
      bool_cases (ltb v (2 ^ xlen_of s.settings)) (ltb-true v _)
      (λ f. absurd (free 2 (bad_state refl (λ rules. free 3 (no_hart refl (λ l. omega (arith, ltb-false v _ f, step_lt rules h l k c v row)))))))
  event_lt (Device a n w) free k c v row = absurd row
  event_lt (Yield h) free k c v row = absurd row

  -- The value of a trap is below 2 ^ xlen: on the 32-bit core its upper half is zero. That neither 1 nor 2 refuses the machine needn't be asked, since
  -- else there is no trap.
  pub value_fits : (e : Event) (cause value : ℕ) → (answer_of base mem s e).outcome ≡ O.Trap cause value → value < 2 ^ xlen_of s.settings
  value_fits e c v o =
      let t = (trap_exact base mem s e c v).0 o in
      event_lt e t.0 t.1.place c v t.1.applies
