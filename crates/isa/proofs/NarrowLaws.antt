-- What holds of a word at every register width. Assumes nothing.
use mathlib.Core.Path.{◌≡◌, refl, ◌∙◌}
use mathlib.Core.Bool.{Bool, true, false, cond, not, ◌&&◌}
use Prim.Native.Nat.{ℕ, ◌+◌, ◌*◌, ◌^◌, ◌<◌, ◌≤◌}
use native.Mathlib.Omega.{arith}
use lib.Dec.{eqb}
use lib.Pow.{pow_mono}
use Rattle.word.specs.Word.{sign_extend}
use Rattle.word.proofs.ChooseLaws.{cond_all}
use Rattle.isa.specs.Fields.{bits, imm_b, imm_j, low_b, low_j}
use Rattle.isa.specs.Decode.{decode_of}
use Rattle.isa.specs.Narrow.{if_kept, kept_load, kept_store, kept_imm, even_pairs, with_op, narrowed_double, narrowed_atomic, narrowed, narrowed_at, decode_at}
use Rattle.isa.specs.Narrow.{is_double, is_cas, lacks, paired_if, paired_by, paired_at}
use Rattle.isa.specs.Wf.{Regs, Imms}
use Rattle.isa.specs.declared.AtomicOp.{AtomicOp}
use Rattle.isa.specs.declared.AtomicOp.TheVariants.{Lr, Sc, Cas, CasPair, Rmw}
use Rattle.isa.specs.declared.Width.{Width}
use Rattle.isa.specs.declared.Width.TheVariants.{Word, Double}
use Rattle.isa.specs.declared.Atomic.{Atomic}
use Rattle.isa.specs.declared.Instr.{Instr}
use Rattle.isa.specs.declared.Instr.TheVariants.{Illegal, Lui, Auipc, Jal, Jalr, Branch, Load, Store}
use Rattle.isa.specs.declared.Instr.TheVariants.{OpImm, OpImm32, Op, Op32, Fence, Ecall, Ebreak, Amo}
use Rattle.isa.proofs.OffsetLaws.{forward}
use Rattle.isa.proofs.DecodeLaws.{decoded, regs_below, imms_below}

-- at 64 bits nothing is narrowed
pub decode_64 : (w : ℕ) → decode_at 64 w ≡ decode_of w
unfolding decode_at
decode_64 w = refl

-- the same registers and ordering bits as a pair of words
abbrev pub as_pair : Atomic → Instr
as_pair a = Amo (with_op CasPair Word a)

-- what a width has of an instruction, by the tests
pub narrowed_by : (xlen : ℕ) (i : Instr) → narrowed_at xlen i ≡ cond (eqb xlen 32 && lacks i) Illegal (paired_at xlen i)
unfolding narrowed
narrowed_by xlen i = by (eqb xlen 32) i
  where
    same : (b : Bool) (i : Instr) → cond b i i ≡ cond (b && false) Illegal i
    same true i = refl
    same false i = refl

    if_kept_lem : (b t : Bool) (i : Instr) → cond b (if_kept t i) i ≡ cond (b && not t) Illegal i
    if_kept_lem true true i = refl
    if_kept_lem true false i = refl
    if_kept_lem false t i = refl

    gone : (b : Bool) (i : Instr) → cond b Illegal i ≡ cond (b && true) Illegal i
    gone true i = refl
    gone false i = refl

    of_double : (b : Bool) (op : AtomicOp) (a : Atomic)
        → cond b (narrowed_double op a) (Amo a)
        ≡ cond (b && not (is_cas op && even_pairs a)) Illegal (Amo (paired_if (b && (is_cas op && even_pairs a)) a))
    of_double true Lr a = refl
    of_double true Sc a = refl
    of_double true Cas a = go (even_pairs a)
      where
        go : (t : Bool) → if_kept t (as_pair a) ≡ cond (not t) Illegal (Amo (paired_if t a))
        go true = refl
        go false = refl
    of_double true CasPair a = refl
    of_double true (Rmw op) a = refl
    of_double false op a = refl

    of_width : (b : Bool) (width : Width) (a : Atomic)
        → cond b (narrowed_atomic width a) (Amo a)
        ≡ cond (b && (is_double width && not (is_double width && (is_cas a.op && even_pairs a)))) Illegal
        (Amo (paired_if (b && (is_double width && (is_cas a.op && even_pairs a))) a))
    of_width true Word a = refl
    of_width false Word a = refl
    of_width b Double a = of_double b a.op a

    by : (b : Bool) (i : Instr) → cond b (narrowed i) i ≡ cond (b && lacks i) Illegal (paired_by b i)
    by b Illegal = same b Illegal
    by b (Lui rd imm) = same b (Lui rd imm)
    by b (Auipc rd imm) = same b (Auipc rd imm)
    by b (Jal rd imm) = same b (Jal rd imm)
    by b (Jalr rd rs1 imm) = same b (Jalr rd rs1 imm)
    by b (Branch op rs1 rs2 imm) = same b (Branch op rs1 rs2 imm)
    by b (Load op rd rs1 imm) = if_kept_lem b (kept_load op) (Load op rd rs1 imm)
    by b (Store op rs1 rs2 imm) = if_kept_lem b (kept_store op) (Store op rs1 rs2 imm)
    by b (OpImm op rd rs1 imm) = if_kept_lem b (kept_imm op imm) (OpImm op rd rs1 imm)
    by b (OpImm32 op rd rs1 imm) = gone b (OpImm32 op rd rs1 imm)
    by b (Op op rd rs1 rs2) = same b (Op op rd rs1 rs2)
    by b (Op32 op rd rs1 rs2) = gone b (Op32 op rd rs1 rs2)
    by b (Fence rd rs1 imm) = same b (Fence rd rs1 imm)
    by b Ecall = same b Ecall
    by b Ebreak = same b Ebreak
    by b (Amo a) = of_width b a.width a

pub lacked_gone : (i : Instr) → lacks i ≡ true → narrowed i ≡ Illegal
lacked_gone i t = narrowed_by 32 i ∙ rw t

pub had_paired : (i : Instr) → lacks i ≡ false → narrowed i ≡ paired_by true i
had_paired i f = narrowed_by 32 i ∙ rw f

-- all but an atomic one is as it was
pub unpaired : (narrow : Bool) (i : Instr) → ((a : Atomic) → i ≡ Amo a → ⊥) → paired_by narrow i ≡ i
unpaired narrow (Amo a) other = absurd (other a refl)
unpaired narrow Illegal other = refl
unpaired narrow (Lui rd imm) other = refl
unpaired narrow (Auipc rd imm) other = refl
unpaired narrow (Jal rd imm) other = refl
unpaired narrow (Jalr rd rs1 imm) other = refl
unpaired narrow (Branch op rs1 rs2 imm) other = refl
unpaired narrow (Load op rd rs1 imm) other = refl
unpaired narrow (Store op rs1 rs2 imm) other = refl
unpaired narrow (OpImm op rd rs1 imm) other = refl
unpaired narrow (OpImm32 op rd rs1 imm) other = refl
unpaired narrow (Op op rd rs1 rs2) other = refl
unpaired narrow (Op32 op rd rs1 rs2) other = refl
unpaired narrow (Fence rd rs1 imm) other = refl
unpaired narrow Ecall other = refl
unpaired narrow Ebreak other = refl

-- what holds of an instruction, of Illegal and of a pair of words holds of it narrowed
module _ (P : Instr → Type 0) (illegal : P Illegal) (pair : (a : Atomic) → P (Amo a) → P (as_pair a)) where
  kept : (t : Bool) (i : Instr) → P i → P (if_kept t i)
  kept t i p = cond_all P t i Illegal p illegal

  from_double : (op : AtomicOp) (a : Atomic) → P (Amo a) → P (narrowed_double op a)
  from_double Lr a p = illegal
  from_double Sc a p = illegal
  from_double Cas a p = kept (even_pairs a) (as_pair a) (pair a p)
  from_double CasPair a p = illegal
  from_double (Rmw op) a p = illegal

  from_atomic : (width : Width) (a : Atomic) → P (Amo a) → P (narrowed_atomic width a)
  from_atomic Word a p = p
  from_atomic Double a p = from_double a.op a p

  pub of_narrowed : (i : Instr) → P i → P (narrowed i)
  unfolding narrowed
  of_narrowed Illegal p = p
  of_narrowed (Lui rd imm) p = p
  of_narrowed (Auipc rd imm) p = p
  of_narrowed (Jal rd imm) p = p
  of_narrowed (Jalr rd rs1 imm) p = p
  of_narrowed (Branch op rs1 rs2 imm) p = p
  of_narrowed (Load op rd rs1 imm) p = kept (kept_load op) (Load op rd rs1 imm) p
  of_narrowed (Store op rs1 rs2 imm) p = kept (kept_store op) (Store op rs1 rs2 imm) p
  of_narrowed (OpImm op rd rs1 imm) p = kept (kept_imm op imm) (OpImm op rd rs1 imm) p
  of_narrowed (OpImm32 op rd rs1 imm) p = illegal
  of_narrowed (Op op rd rs1 rs2) p = p
  of_narrowed (Op32 op rd rs1 rs2) p = illegal
  of_narrowed (Fence rd rs1 imm) p = p
  of_narrowed Ecall p = p
  of_narrowed Ebreak p = p
  of_narrowed (Amo a) p = from_atomic a.width a p

  -- and so of a word at every width, if it holds of what the word is at 64 bits
  pub at_width : (xlen w : ℕ) → P (decode_of w) → P (decode_at xlen w)
  unfolding decode_at
  at_width xlen w p = cond_all P (eqb xlen 32) (narrowed (decode_of w)) (decode_of w) (of_narrowed (decode_of w) p) p

pub regs_at : (xlen w : ℕ) → Regs (decode_at xlen w)
regs_at xlen w = at_width Regs tt (λ a p. p) xlen w (regs_below w)

pub imms_at : (xlen w : ℕ) → Imms (decode_at xlen w)
imms_at xlen w = at_width Imms tt (λ a p. tt) xlen w (imms_below w)

-- what leads forward by this offset leads less than 2 ^ 21 bytes away
abbrev pub Short : ℕ → Type 0
Short offset = offset < 2 ^ 63 → offset < 2 ^ 21

-- as by a field of at most 21 bits
short : (k x : ℕ) → 0 < k → k ≤ 21 → x < 2 ^ k → Short (sign_extend 64 k x)
short k x some most h l = omega (arith, h, forward k x (omega arith) some h l, pow_mono {i = k} {j = 21} most)

-- the offset of a jump or a branch is short: its field has 21 or 13 bits
abbrev pub Near : Instr → Type 0
Near Illegal = Unit {0}
Near (Lui rd imm) = Unit {0}
Near (Auipc rd imm) = Unit {0}
Near (Jal rd imm) = Short imm
Near (Jalr rd rs1 imm) = Unit {0}
Near (Branch op rs1 rs2 imm) = Short imm
Near (Load op rd rs1 imm) = Unit {0}
Near (Store op rs1 rs2 imm) = Unit {0}
Near (OpImm op rd rs1 imm) = Unit {0}
Near (OpImm32 op rd rs1 imm) = Unit {0}
Near (Op op rd rs1 rs2) = Unit {0}
Near (Op32 op rd rs1 rs2) = Unit {0}
Near (Fence rd rs1 imm) = Unit {0}
Near Ecall = Unit {0}
Near Ebreak = Unit {0}
Near (Amo a) = Unit {0}

near_64 : (w : ℕ) → Near (decode_of w)
near_64 w =
    let jal : Short (imm_j w) = short 21 (bits 31 31 w * 2 ^ 20 + low_j w) (omega arith) (omega arith) (omega arith) in
    let branch : Short (imm_b w) = short 13 (bits 31 31 w * 2 ^ 12 + low_b w) (omega arith) (omega arith) (omega arith) in
    decoded Near w tt tt tt tt tt jal tt tt (λ op. branch) (λ op. tt) (λ op. tt) (λ op. tt) (λ op. tt) tt (λ op. tt) (λ op. tt) (λ op. tt)
    (λ width. tt) (λ width. tt) (λ width. tt) (λ d s. tt) (λ op width. tt)

pub near_at : (xlen w : ℕ) → Near (decode_at xlen w)
near_at xlen w = at_width Near tt (λ a p. tt) xlen w (near_64 w)
