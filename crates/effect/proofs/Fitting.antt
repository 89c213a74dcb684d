-- What is decoded at a register width fits it. Assumes nothing.
use Prim.Native.Nat.{ℕ, ◌*◌, ◌≤◌}
use mathlib.Core.Path.{◌≡◌, refl}
use mathlib.Core.Logic.{⊎_elim}
use lib.Dec.{lit≤}
use Rattle.word.specs.Word.{Xlen}
use Rattle.word.proofs.ChooseLaws.{cond_all}
use Rattle.isa.specs.Width.{bits_of}
use Rattle.isa.specs.Decode.{decode_of}
use Rattle.isa.specs.Narrow.{if_kept, kept_load, kept_store, kept_imm, even_pairs, narrowed_double, narrowed_atomic, narrowed, narrowed_at, decode_at}
use Rattle.isa.proofs.NarrowLaws.{as_pair}
use Rattle.isa.specs.declared.Width.{Width}
use Rattle.isa.specs.declared.Width.TheVariants.{Word, Double}
use Rattle.isa.specs.declared.LoadOp.{LoadOp}
use Rattle.isa.specs.declared.LoadOp.TheVariants.{Lb, Lh, Lw, Ld, Lbu, Lhu, Lwu}
use Rattle.isa.specs.declared.AtomicOp.{AtomicOp}
use Rattle.isa.specs.declared.AtomicOp.TheVariants.{Cas}
use Rattle.isa.specs.declared.Atomic.{Atomic}
use Rattle.isa.specs.declared.Instr.{Instr}
use Rattle.isa.specs.declared.Instr.TheVariants.{Illegal, Load, Store, OpImm, OpImm32, Op32, Amo}
use Rattle.effect.specs.Memory.{load_bytes}
use Rattle.effect.specs.Sound.{Fitting}

load_most : (op : LoadOp) → 8 * load_bytes op ≤ 64
load_most Lb = lit≤ tt
load_most Lh = lit≤ tt
load_most Lw = lit≤ tt
load_most Ld = lit≤ tt
load_most Lbu = lit≤ tt
load_most Lhu = lit≤ tt
load_most Lwu = lit≤ tt

bits_most : (w : Width) → bits_of w ≤ 64
bits_most Word = lit≤ tt
bits_most Double = lit≤ tt

fitting_64 : (i : Instr) → Fitting 64 i
fitting_64 (Load op rd rs1 imm) = load_most op
fitting_64 (OpImm32 op rd rs1 imm) = lit≤ tt
fitting_64 (Op32 op rd rs1 rs2) = lit≤ tt
fitting_64 (Amo m) = bits_most m.width
fitting_64 _ = tt

kept_load_lem : (op : LoadOp) (rd rs1 imm : ℕ) → Fitting 32 (if_kept (kept_load op) (Load op rd rs1 imm))
kept_load_lem Ld rd rs1 imm = tt
kept_load_lem Lwu rd rs1 imm = tt
kept_load_lem _ rd rs1 imm = lit≤ tt

kept_double : (op : AtomicOp) (m : Atomic) → Fitting 32 (narrowed_double op m)
kept_double Cas m = cond_all (Fitting 32) (even_pairs m) (as_pair m) Illegal (lit≤ tt) tt
kept_double _ m = tt

fitting_32 : (i : Instr) → Fitting 32 (narrowed i)
unfolding narrowed
fitting_32 (Load op rd rs1 imm) = kept_load_lem op rd rs1 imm
fitting_32 (Store op rs1 rs2 imm) = cond_all (Fitting 32) (kept_store op) (Store op rs1 rs2 imm) Illegal tt tt
fitting_32 (OpImm op rd rs1 imm) = cond_all (Fitting 32) (kept_imm op imm) (OpImm op rd rs1 imm) Illegal tt tt
fitting_32 (Amo m) = go m.width refl
  where
    go : (w : Width) → m.width ≡ w → Fitting 32 (narrowed_atomic w m)
    go Word e = rw e (lit≤ tt)
    go Double e = kept_double m.op m
fitting_32 _ = tt

-- any instruction, as that width has it
pub fitting_at : (xlen : ℕ) → Xlen xlen → (i : Instr) → Fitting xlen (narrowed_at xlen i)
fitting_at xlen is i = ⊎_elim (λ (e : xlen ≡ 32). rw e (fitting_32 i)) (λ (e : xlen ≡ 64). rw e (fitting_64 i)) is

pub fitting : (xlen word : ℕ) → Xlen xlen → Fitting xlen (decode_at xlen word)
unfolding decode_at
fitting xlen word is = fitting_at xlen is (decode_of word)
