-- What an instruction may change, over all of them: the register that it sets first is its rd (where it sets none, that is 0), and what it writes is
-- at most 16 bytes, from `writes_at` on. Assumes nothing.
use mathlib.Core.Path.{◌≡◌, refl, sym, subst}
use mathlib.Core.Bool.{Bool, true, false}
use mathlib.Core.List.{List}
use Prim.Native.Nat.{ℕ, ◌+◌, ◌/◌, ◌%◌, ◌^◌, ◌<◌, ◌≤◌}
use native.Mathlib.Omega.{arith}
use borrow.Author.Tests.{eqb-true}
use lib.Dec.{eqb}
use lib.ListN.{length}
use Rattle.word.specs.Word.{low}
use Rattle.word.specs.Bytes.{to_le}
use Rattle.word.proofs.BytesLaws.{length-to_le}
use Rattle.word.proofs.ChooseLaws.{cond_all, cond_cases}
use Rattle.settings.specs.Settings.{lr_cause, amo_cause}
use Rattle.isa.specs.Wf.{Regs}
use Rattle.isa.specs.Narrow.{decode_at}
use Rattle.isa.proofs.NarrowLaws.{regs_at}
use Rattle.isa.specs.Width.{bits_of, bytes_of, pair_bytes}
use Rattle.isa.specs.declared.Width.{Width}
use Rattle.isa.specs.declared.Width.TheVariants.{Word, Double}
use Rattle.isa.specs.declared.StoreOp.{StoreOp}
use Rattle.isa.specs.declared.StoreOp.TheVariants.{Sb, Sh, Sw, Sd}
use Rattle.isa.specs.declared.AtomicOp.{AtomicOp}
use Rattle.isa.specs.declared.AtomicOp.TheVariants.{Lr, Sc, Cas, CasPair, Rmw}
use Rattle.isa.specs.declared.Atomic.{Atomic}
use Rattle.isa.specs.declared.Instr.{Instr}
use Rattle.isa.specs.declared.Instr.TheVariants.{Illegal, Lui, Auipc, Jal, Jalr, Branch, Load, Store, OpImm, OpImm32, Op, Op32, Fence, Ecall, Ebreak, Amo}
use Rattle.effect.specs.Effect.{none, pair, Access, nothing, reserve, store, sc_stored, sc_failed, Exec, trap, effect, offset}
use Rattle.effect.specs.Integer.{exec_jump, clear_bit0, holds_of, exec_branch}
use Rattle.effect.specs.Memory.{fault_of, checked, value_at, store_bytes, exec_load, exec_store}
use Rattle.effect.specs.Atomic.{pair_writes, swapped, exec_lr, exec_sc, exec_amo, exec_cas, exec_cas_pair}
use Rattle.effect.specs.Execute.{pair_at, atomic_by, exec_atomic, execute}
use Rattle.reach.specs.Rd.{shown_rd, SetsRd}
use Rattle.reach.specs.Reach.{writes_at, reach_in}
use Rattle.reach.specs.declared.Reach.{Reach}
use Rattle.reach.proofs.ClassLaws.{Shows, shows}

-- what is written, is from a on, and 1 to 16 bytes
abbrev pub WritesFrom : ℕ → Access → Type 0
WritesFrom a nothing = Unit {0}
WritesFrom a (reserve b w) = Unit {0}
WritesFrom a (store b bs) = (b ≡ a) × (1 ≤ length bs) × (length bs ≤ 16)
WritesFrom a (sc_stored b bs) = (b ≡ a) × (1 ≤ length bs) × (length bs ≤ 16)
WritesFrom a sc_failed = Unit {0}

-- both; a trap changes nothing
abbrev pub Reaches : ℕ → ℕ → Exec → Type 0
Reaches d a (trap cause value) = Unit {0}
Reaches d a (effect ws to t) = SetsRd d ws × WritesFrom a t

-- ---- by the parts of which instructions are made

-- a number of n bytes
sized : (a n v : ℕ) → 1 ≤ n → n ≤ 16 → WritesFrom a (store a (to_le n v))
sized a n v some most = (refl, omega (arith, length-to_le n v), omega (arith, length-to_le n v))

swap_from : (a n old want new : ℕ) → 1 ≤ n → n ≤ 16 → WritesFrom a (swapped a n old want new)
swap_from a n old want new some most = cond_all (WritesFrom a) (eqb old want) (store a (to_le n new)) nothing (sized a n new some most) tt

width_most : (w : Width) → (1 ≤ bytes_of w) × (bytes_of w ≤ 16)
width_most Word = (omega arith, omega arith)
width_most Double = (omega arith, omega arith)

pair_most : (w : Width) → (1 ≤ pair_bytes w) × (pair_bytes w ≤ 16)
pair_most Word = (omega arith, omega arith)
pair_most Double = (omega arith, omega arith)

store_most : (op : StoreOp) → (1 ≤ store_bytes op) × (store_bytes op ≤ 16)
store_most Sb = (omega arith, omega arith)
store_most Sh = (omega arith, omega arith)
store_most Sw = (omega arith, omega arith)
store_most Sd = (omega arith, omega arith)

pair_sets : (w : Width) (d v : ℕ) → d < 32 → SetsRd d (pair_writes w d v)
pair_sets w d v l =
    cond_cases (SetsRd d) (eqb (d % 32) 0) none (pair (d % 32) (low (bits_of w) v) (d % 32 + 1) (low (bits_of w) (v / 2 ^ bits_of w)))
    (λ t. omega (arith, eqb-true (d % 32) 0 t)) (λ f. (omega arith, omega arith, refl))

module _ (d a : ℕ) where
  reach_checked : (unaligned outside b n base len : ℕ) (e : Exec) → Reaches d a e → Reaches d a (checked unaligned outside b n base len e)
  unfolding checked
  reach_checked unaligned outside b n base len e h =
      let cause = fault_of unaligned outside b n base len in
      cond_all (Reaches d a) (eqb cause 0) e (trap cause b) h tt

  reach_jump : (xlen to pc : ℕ) → Reaches d a (exec_jump xlen d to pc)
  unfolding exec_jump
  reach_jump xlen to pc = cond_all (Reaches d a) (eqb (to % 4) 0) _ _ (refl, tt) tt

reach_branch : (xlen a : ℕ) (taken : Bool) (to pc : ℕ) → Reaches 0 a (exec_branch xlen taken to pc)
unfolding exec_branch
reach_branch xlen a true to pc = cond_all (Reaches 0 a) (eqb (to % 4) 0) _ _ (refl, tt) tt
reach_branch xlen a false to pc = (refl, tt)

-- ---- by instruction

module _ (xlen misaligned pc base : ℕ) (mem : List ℕ) (covered : ℕ → ℕ → Bool) where
  reach_sc : (w : Width) (rd a v : ℕ) → Reaches rd a (exec_sc xlen misaligned w rd a v pc base mem covered)
  unfolding exec_sc
  reach_sc w rd a v =
      reach_checked rd a (amo_cause misaligned) 7 _ _ base (length mem) _
      (cond_all (Reaches rd a) (covered a (bytes_of w)) _ _ (refl, sized a (bytes_of w) v (width_most w).0 (width_most w).1) (refl, tt))

  reach_atomic : (op : AtomicOp) (m : Atomic) → m.rd < 32 → (x : ℕ → ℕ) → Reaches m.rd (x m.rs1) (atomic_by xlen misaligned op m x pc base mem covered)
  unfolding exec_lr exec_amo exec_cas exec_cas_pair
  reach_atomic Lr m l x = reach_checked m.rd (x m.rs1) (lr_cause misaligned) 5 _ _ base (length mem) _ (refl, tt)
  reach_atomic Sc m l x = reach_sc m.width m.rd (x m.rs1) (x m.rs2)
  reach_atomic Cas m l x =
      let a = x m.rs1 in
      let n = bytes_of m.width in
      let want = low (bits_of m.width) (x m.rd) in
      reach_checked m.rd a (amo_cause misaligned) 7 _ _ base (length mem) _
      (refl, swap_from a n (value_at base mem a n) want (x m.rs2) (width_most m.width).0 (width_most m.width).1)
  reach_atomic CasPair m l x =
      let a = x m.rs1 in
      let w = m.width in
      let n = pair_bytes w in
      reach_checked m.rd a (amo_cause misaligned) 7 _ n base (length mem) _ (
        pair_sets w m.rd (value_at base mem a n) l,
        swap_from a n (value_at base mem a n) (pair_at w x m.rd) (pair_at w x m.rs2) (pair_most w).0 (pair_most w).1,
      )
  reach_atomic (Rmw op) m l x =
      reach_checked m.rd (x m.rs1) (amo_cause misaligned) 7 _ _ base (length mem) _
      (refl, sized (x m.rs1) (bytes_of m.width) _ (width_most m.width).0 (width_most m.width).1)

  pub reaches : (i : Instr) → Regs i → (word : ℕ) (x : ℕ → ℕ) → Reaches (shown_rd i) (writes_at xlen i x) (execute xlen misaligned i word x pc base mem covered)
  unfolding execute exec_atomic exec_load exec_store shown_rd writes_at
  reaches Illegal l word x = tt
  reaches Ecall l word x = tt
  reaches Ebreak l word x = tt
  reaches (Fence rd rs1 imm) l word x = (refl, tt)
  reaches (Lui rd imm) l word x = (refl, tt)
  reaches (Auipc rd imm) l word x = (refl, tt)
  reaches (Jal rd imm) l word x = reach_jump rd 0 xlen (offset xlen pc imm) pc
  reaches (Jalr rd rs1 imm) l word x = reach_jump rd 0 xlen (clear_bit0 (offset xlen (x rs1) imm)) pc
  reaches (Branch op rs1 rs2 imm) l word x = reach_branch xlen 0 (holds_of xlen op (x rs1) (x rs2)) (offset xlen pc imm) pc
  reaches (Load op rd rs1 imm) l word x = reach_checked rd 0 4 5 _ _ base (length mem) _ (refl, tt)
  reaches (Store op rs1 rs2 imm) l word x =
      let a = offset xlen (x rs1) imm in
      reach_checked 0 a 6 7 _ _ base (length mem) _ (refl, sized a (store_bytes op) (x rs2) (store_most op).0 (store_most op).1)
  reaches (OpImm op rd rs1 imm) l word x = (refl, tt)
  reaches (OpImm32 op rd rs1 imm) l word x = (refl, tt)
  reaches (Op op rd rs1 rs2) l word x = (refl, tt)
  reaches (Op32 op rd rs1 rs2) l word x = (refl, tt)
  reaches (Amo m) l word x = reach_atomic m.op m l.0 x

-- ---- the same by the word's class

module _ (xlen misaligned pc base : ℕ) (mem : List ℕ) (covered : ℕ → ℕ → Bool) (word : ℕ) (x : ℕ → ℕ) (c : Reach) where
  same_reach : (i : Instr) → Regs i → c ≡ record { rd = shown_rd i; at = writes_at xlen i x }
      → Reaches c.rd c.at (execute xlen misaligned i word x pc base mem covered)
  same_reach i l s =
      subst (λ (q : Reach). Reaches q.rd q.at (execute xlen misaligned i word x pc base mem covered)) (sym s) (reaches xlen misaligned pc base mem covered i l word x)

  by_class : (i : Instr) → Regs i → Shows xlen c x i → Reaches c.rd c.at (execute xlen misaligned i word x pc base mem covered)
  unfolding execute
  by_class Illegal l s = tt
  by_class Ecall l s = tt
  by_class Ebreak l s = tt
  by_class (Fence rd rs1 imm) l s = same_reach (Fence rd rs1 imm) l s
  by_class (Lui rd imm) l s = same_reach (Lui rd imm) l s
  by_class (Auipc rd imm) l s = same_reach (Auipc rd imm) l s
  by_class (Jal rd imm) l s = same_reach (Jal rd imm) l s
  by_class (Jalr rd rs1 imm) l s = same_reach (Jalr rd rs1 imm) l s
  by_class (Branch op rs1 rs2 imm) l s = same_reach (Branch op rs1 rs2 imm) l s
  by_class (Load op rd rs1 imm) l s = same_reach (Load op rd rs1 imm) l s
  by_class (Store op rs1 rs2 imm) l s = same_reach (Store op rs1 rs2 imm) l s
  by_class (OpImm op rd rs1 imm) l s = same_reach (OpImm op rd rs1 imm) l s
  by_class (OpImm32 op rd rs1 imm) l s = same_reach (OpImm32 op rd rs1 imm) l s
  by_class (Op op rd rs1 rs2) l s = same_reach (Op op rd rs1 rs2) l s
  by_class (Op32 op rd rs1 rs2) l s = same_reach (Op32 op rd rs1 rs2) l s
  by_class (Amo m) l s = same_reach (Amo m) l s

pub reaches_in : (xlen misaligned pc base : ℕ) (mem : List ℕ) (covered : ℕ → ℕ → Bool) (word : ℕ) (x : ℕ → ℕ)
    → (let c = reach_in xlen word x in Reaches c.rd c.at (execute xlen misaligned (decode_at xlen word) word x pc base mem covered))
reaches_in xlen misaligned pc base mem covered word x =
    by_class xlen misaligned pc base mem covered word x (reach_in xlen word x) (decode_at xlen word) (regs_at xlen word) (shows xlen word x)

-- ---- rd is a register

pub rd_below : (i : Instr) → Regs i → shown_rd i < 32
unfolding shown_rd
rd_below Illegal l = omega arith
rd_below Ecall l = omega arith
rd_below Ebreak l = omega arith
rd_below (Fence rd rs1 imm) l = omega arith
rd_below (Lui rd imm) l = l
rd_below (Auipc rd imm) l = l
rd_below (Jal rd imm) l = l
rd_below (Jalr rd rs1 imm) l = l.0
rd_below (Branch op rs1 rs2 imm) l = omega arith
rd_below (Load op rd rs1 imm) l = l.0
rd_below (Store op rs1 rs2 imm) l = omega arith
rd_below (OpImm op rd rs1 imm) l = l.0
rd_below (OpImm32 op rd rs1 imm) l = l.0
rd_below (Op op rd rs1 rs2) l = l.0
rd_below (Op32 op rd rs1 rs2) l = l.0
rd_below (Amo m) l = l.0
