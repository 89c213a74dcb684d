-- What every instruction writes to registers fits them, and memory keeps its length and stays bytes. Over the register width. Assumes nothing.
use Prim.Native.Nat.{ℕ, ◌+◌, ◌-◌, ◌*◌, ◌/◌, ◌%◌, ◌^◌, ◌≤◌, ◌<◌}
use mathlib.Core.Path.{◌≡◌, refl}
use mathlib.Core.Bool.{Bool, true, false}
use mathlib.Core.List.{List}
use native.Mathlib.Nat.{mod-lt}
use native.Mathlib.Omega.{arith}
use lib.ListN.{length}
use lib.Dec.{eqb, lit<}
use lib.Pow.{pow_pos, pow_mono}
use Rattle.word.specs.Word.{low, sign_extend, Xlen}
use Rattle.word.specs.Bytes.{to_le, IsBytes}
use Rattle.word.proofs.BytesLaws.{bytes_to_le}
use Rattle.word.proofs.WordLaws.{low_lt, low_fits, sign_extend_lt, xlen_bounds}
use Rattle.word.proofs.MemoryLaws.{part_lt, length-splice}
use Rattle.word.proofs.ChooseLaws.{cond_all}
use Rattle.settings.specs.Settings.{lr_cause, amo_cause}
use Rattle.isa.specs.Width.{bits_of, bytes_of, pair_bytes}
use Rattle.isa.specs.Narrow.{decode_at}
use Rattle.isa.specs.declared.Width.{Width}
use Rattle.isa.specs.declared.Width.TheVariants.{Word, Double}
use Rattle.isa.specs.declared.LoadOp.{LoadOp}
use Rattle.isa.specs.declared.LoadOp.TheVariants.{Lb, Lh, Lw, Ld, Lbu, Lhu, Lwu}
use Rattle.isa.specs.declared.AtomicOp.{AtomicOp}
use Rattle.isa.specs.declared.AtomicOp.TheVariants.{Lr, Sc, Cas, CasPair, Rmw}
use Rattle.isa.specs.declared.Atomic.{Atomic}
use Rattle.isa.specs.declared.Instr.{Instr}
use Rattle.isa.specs.declared.Instr.TheVariants.{Illegal, Lui, Auipc, Jal, Jalr, Branch, Load, Store, OpImm, OpImm32, Op, Op32, Fence, Ecall, Ebreak, Amo}
use Rattle.effect.specs.Effect.{none, pair, Access, nothing, store, sc_stored, Exec, trap, offset, next_pc, stored}
use Rattle.effect.specs.Integer.{computed, exec_jump, clear_bit0, holds_of, exec_branch}
use Rattle.effect.specs.Memory.{fault_of, checked, value_at, load_bytes, extended, store_bytes, exec_load, exec_store}
use Rattle.effect.specs.Atomic.{swapped, pair_writes, exec_lr, exec_sc, exec_amo, exec_cas, exec_cas_pair}
use Rattle.effect.specs.Execute.{pair_at, atomic_by, exec_atomic, execute, execute_word}
use Rattle.effect.specs.Sound.{AccessOk, AccessFits, WritesFit, Fits, Fitting}
use Rattle.effect.proofs.Fitting.{fitting}

-- ---- values

-- n bytes of memory are a number of n bytes
pub value_lt : (base : ℕ) (mem : List ℕ) → IsBytes mem → (a n : ℕ) → value_at base mem a n < 256 ^ n
unfolding value_at
value_lt base mem h a n = part_lt mem (a - base) n h

bits_some : (w : Width) → 0 < bits_of w
bits_some Word = lit< tt
bits_some Double = lit< tt

bits_bytes : (w : Width) → 8 * bytes_of w ≡ bits_of w
bits_bytes Word = refl
bits_bytes Double = refl

swap_bytes : (xlen a n old want new : ℕ) → AccessFits xlen (swapped a n old want new)
swap_bytes xlen a n old want new =
    cond_all (AccessFits xlen) (eqb old want) (store a (to_le n new)) nothing (bytes_to_le n new) tt

-- ---- instructions

module _ (xlen : ℕ) (is : Xlen xlen) where
  extended_lt : (op : LoadOp) (v : ℕ) → 8 * load_bytes op ≤ xlen → extended xlen op v < 2 ^ xlen
  extended_lt Lb v h = sign_extend_lt xlen 8 h (lit< tt) v
  extended_lt Lh v h = sign_extend_lt xlen 16 h (lit< tt) v
  extended_lt Lw v h = sign_extend_lt xlen 32 h (lit< tt) v
  extended_lt Ld v h = low_fits 64 xlen v h
  extended_lt Lbu v h = low_fits 8 xlen v h
  extended_lt Lhu v h = low_fits 16 xlen v h
  extended_lt Lwu v h = low_fits 32 xlen v h

  computed_lt : (k : ℕ) → 0 < k → k ≤ xlen → (op : _) (a b : ℕ) → computed xlen k op a b < 2 ^ xlen
  unfolding computed
  computed_lt k some most op a b = sign_extend_lt xlen k most some _

  offset_lt : (a imm : ℕ) → offset xlen a imm < 2 ^ xlen
  offset_lt a imm = mod-lt (a + imm) (pow_pos xlen)

  pair_lt : (w : Width) (rd v : ℕ) → bits_of w ≤ xlen → WritesFit xlen (pair_writes w rd v)
  pair_lt w rd v h =
      cond_all (WritesFit xlen) (eqb (rd % 32) 0) none
      (pair (rd % 32) (low (bits_of w) v) (rd % 32 + 1) (low (bits_of w) (v / 2 ^ bits_of w))) tt
      (low_fits (bits_of w) xlen v h, low_fits (bits_of w) xlen (v / 2 ^ bits_of w) h)

  extends : (w : Width) (v : ℕ) → bits_of w ≤ xlen → sign_extend xlen (bits_of w) v < 2 ^ xlen
  extends w v h = sign_extend_lt xlen (bits_of w) h (bits_some w) v

  flag_lt : (v : ℕ) → v < 2 → v < 2 ^ xlen
  flag_lt v h = omega (arith, pow_mono {i = 1} {j = xlen} (omega (arith, (xlen_bounds xlen is).0)))

  fits_checked : (unaligned outside a n base len : ℕ) (e : Exec) → Fits xlen e → Fits xlen (checked unaligned outside a n base len e)
  unfolding checked
  fits_checked unaligned outside a n base len e h =
      let cause = fault_of unaligned outside a n base len in
      cond_all (Fits xlen) (eqb cause 0) e (trap cause a) h tt

  module _ (pc : ℕ) where
    next_lt : next_pc xlen pc < 2 ^ xlen
    next_lt = offset_lt pc 4

    fits_jump : (rd to : ℕ) → to < 2 ^ xlen → Fits xlen (exec_jump xlen rd to pc)
    unfolding exec_jump
    fits_jump rd to h = cond_all (Fits xlen) (eqb (to % 4) 0) _ _ (next_lt, (h, tt)) tt

    fits_branch : (taken : Bool) (to : ℕ) → to < 2 ^ xlen → Fits xlen (exec_branch xlen taken to pc)
    unfolding exec_branch
    fits_branch true to h = cond_all (Fits xlen) (eqb (to % 4) 0) _ _ (tt, (h, tt)) tt
    fits_branch false to h = (tt, (next_lt, tt))

    module _ (misaligned base : ℕ) (mem : List ℕ) where
      fits_load : (op : LoadOp) (rd a : ℕ) → 8 * load_bytes op ≤ xlen → Fits xlen (exec_load xlen op rd a pc base mem)
      unfolding exec_load
      fits_load op rd a h =
          fits_checked 4 5 a (load_bytes op) base (length mem) _ (extended_lt op (value_at base mem a (load_bytes op)) h, (next_lt, tt))

      fits_atomic : (covered : ℕ → ℕ → Bool) (op : AtomicOp) (m : Atomic) → bits_of m.width ≤ xlen → (x : ℕ → ℕ)
          → Fits xlen (atomic_by xlen misaligned op m x pc base mem covered)
      unfolding exec_lr exec_sc exec_amo exec_cas exec_cas_pair
      fits_atomic covered Lr m h x =
          fits_checked (lr_cause misaligned) 5 _ _ base (length mem) _ (extends m.width _ h, (next_lt, omega (arith, h, bits_bytes m.width)))
      fits_atomic covered Sc m h x =
          fits_checked (amo_cause misaligned) 7 _ _ base (length mem) _
          (cond_all (Fits xlen) (covered (x m.rs1) (bytes_of m.width)) _ _
          (flag_lt 0 (lit< tt), (next_lt, bytes_to_le (bytes_of m.width) (x m.rs2))) (flag_lt 1 (lit< tt), (next_lt, tt)))
      fits_atomic covered Cas m h x =
          let a = x m.rs1 in
          let n = bytes_of m.width in
          fits_checked (amo_cause misaligned) 7 _ _ base (length mem) _
          (extends m.width _ h, (next_lt, swap_bytes xlen a n (value_at base mem a n) (low (bits_of m.width) (x m.rd)) (x m.rs2)))
      fits_atomic covered CasPair m h x =
          let a = x m.rs1 in
          let w = m.width in
          let old = value_at base mem a (pair_bytes w) in
          fits_checked (amo_cause misaligned) 7 _ (pair_bytes w) base (length mem) _
          (pair_lt w m.rd old h, (next_lt, swap_bytes xlen a (pair_bytes w) old (pair_at w x m.rd) (pair_at w x m.rs2)))
      fits_atomic covered (Rmw op) m h x =
          fits_checked (amo_cause misaligned) 7 _ _ base (length mem) _ (extends m.width _ h, (next_lt, bytes_to_le (bytes_of m.width) _))

      pub fits_execute : (covered : ℕ → ℕ → Bool) (i : Instr) → Fitting xlen i → (word : ℕ) (x : ℕ → ℕ)
          → Fits xlen (execute xlen misaligned i word x pc base mem covered)
      unfolding execute exec_atomic exec_store
      fits_execute covered Illegal h word x = tt
      fits_execute covered Ecall h word x = tt
      fits_execute covered Ebreak h word x = tt
      fits_execute covered (Fence rd rs1 imm) h word x = (tt, (next_lt, tt))
      fits_execute covered (Lui rd imm) h word x = (low_lt xlen imm, (next_lt, tt))
      fits_execute covered (Auipc rd imm) h word x = (offset_lt pc imm, (next_lt, tt))
      fits_execute covered (Jal rd imm) h word x = fits_jump rd (offset xlen pc imm) (offset_lt pc imm)
      fits_execute covered (Jalr rd rs1 imm) h word x =
          let l = offset_lt (x rs1) imm in
          fits_jump rd (clear_bit0 (offset xlen (x rs1) imm)) (omega arith)
      fits_execute covered (Branch op rs1 rs2 imm) h word x =
          fits_branch (holds_of xlen op (x rs1) (x rs2)) (offset xlen pc imm) (offset_lt pc imm)
      fits_execute covered (Load op rd rs1 imm) h word x = fits_load op rd (offset xlen (x rs1) imm) h
      fits_execute covered (Store op rs1 rs2 imm) h word x =
          fits_checked 6 7 _ _ base (length mem) _ (tt, (next_lt, bytes_to_le (store_bytes op) (x rs2)))
      fits_execute covered (OpImm op rd rs1 imm) h word x = (computed_lt xlen (omega (arith, (xlen_bounds xlen is).0)) (omega arith) op _ _, (next_lt, tt))
      fits_execute covered (OpImm32 op rd rs1 imm) h word x = (computed_lt 32 (lit< tt) (xlen_bounds xlen is).0 op _ _, (next_lt, tt))
      fits_execute covered (Op op rd rs1 rs2) h word x = (computed_lt xlen (omega (arith, (xlen_bounds xlen is).0)) (omega arith) op _ _, (next_lt, tt))
      fits_execute covered (Op32 op rd rs1 rs2) h word x = (computed_lt 32 (lit< tt) (xlen_bounds xlen is).0 op _ _, (next_lt, tt))
      fits_execute covered (Amo m) h word x = fits_atomic covered m.op m h x

-- At either width, whatever the word, the registers, the pc and the memory: the values written and the next pc are numbers of xlen bits, what is stored is
-- bytes, and a reservation is no wider than a register.
pub fits : (xlen misaligned : ℕ) → Xlen xlen → (word : ℕ) (x : ℕ → ℕ) (pc base : ℕ) (mem : List ℕ) (covered : ℕ → ℕ → Bool)
    → Fits xlen (execute_word xlen misaligned word x pc base mem covered)
unfolding execute_word
fits xlen misaligned is word x pc base mem covered = fits_execute xlen is pc misaligned base mem covered (decode_at xlen word) (fitting xlen word is) word x

-- ---- memory

-- what a store inside memory leaves is as long
pub length-stored : (base : ℕ) (mem : List ℕ) (t : Access) → AccessOk base (length mem) t → length (stored base mem t) ≡ length mem
length-stored base mem (store a bs) o = length-splice mem (a - base) bs (omega arith)
length-stored base mem (sc_stored a bs) o = length-splice mem (a - base) bs (omega arith)
length-stored base mem _ o = refl
