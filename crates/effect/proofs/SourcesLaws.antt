-- 01: "All source registers are read before any is written": where rd and rs2 of an atomic instruction are one register, what it stores or computes
-- with is what the register held before. Assumes nothing.
use Prim.Native.Nat.{ℕ}
use mathlib.Core.Path.{◌≡◌, sym, ap, ◌∙◌}
use mathlib.Core.Bool.{Bool}
use mathlib.Core.List.{List}
use Rattle.isa.specs.declared.AmoOp.{AmoOp}
use Rattle.isa.specs.declared.AtomicOp.{AtomicOp}
use Rattle.isa.specs.declared.AtomicOp.TheVariants.{Sc, Cas, CasPair, Rmw}
use Rattle.isa.specs.declared.Atomic.{Atomic}
use Rattle.effect.specs.Atomic.{exec_sc, exec_amo, exec_cas, exec_cas_pair}
use Rattle.effect.specs.Execute.{pair_at, atomic_by, exec_atomic}

module _ (xlen misaligned : ℕ) (m : Atomic) (x : ℕ → ℕ) (pc base : ℕ) (mem : List ℕ) (covered : ℕ → ℕ → Bool)
    (v : ℕ) (same : m.rd ≡ m.rs2) (before : x m.rd ≡ v) where
  source : x m.rs2 ≡ v
  source = ap x (sym same) ∙ before

  by_op : (op : AtomicOp) → m.op ≡ op → exec_atomic xlen misaligned m x pc base mem covered ≡ atomic_by xlen misaligned op m x pc base mem covered
  unfolding exec_atomic
  by_op op e = ap (λ (o : AtomicOp). atomic_by xlen misaligned o m x pc base mem covered) e

  pub amo_first : (op : AmoOp) → m.op ≡ Rmw op
      → exec_atomic xlen misaligned m x pc base mem covered ≡ exec_amo xlen misaligned op m.width m.rd (x m.rs1) v pc base mem
  amo_first op e = by_op (Rmw op) e ∙ ap (λ (u : ℕ). exec_amo xlen misaligned op m.width m.rd (x m.rs1) u pc base mem) source

  pub sc_first : m.op ≡ Sc → exec_atomic xlen misaligned m x pc base mem covered ≡ exec_sc xlen misaligned m.width m.rd (x m.rs1) v pc base mem covered
  sc_first e = by_op Sc e ∙ ap (λ (u : ℕ). exec_sc xlen misaligned m.width m.rd (x m.rs1) u pc base mem covered) source

  -- where an AMOCAS finds them equal, it writes what it compared with
  pub cas_first : m.op ≡ Cas → exec_atomic xlen misaligned m x pc base mem covered ≡ exec_cas xlen misaligned m.width m.rd (x m.rs1) v v pc base mem
  cas_first e =
      by_op Cas e
      ∙ ap (λ (u : ℕ). exec_cas xlen misaligned m.width m.rd (x m.rs1) u (x m.rs2) pc base mem) before
      ∙ ap (λ (u : ℕ). exec_cas xlen misaligned m.width m.rd (x m.rs1) v u pc base mem) source

  -- AMOCAS of a pair, that which starts at the register
  pub pair_first : m.op ≡ CasPair
      → exec_atomic xlen misaligned m x pc base mem covered
      ≡ exec_cas_pair xlen misaligned m.width m.rd (x m.rs1) (pair_at m.width x m.rd) (pair_at m.width x m.rd) pc base mem
  pair_first e =
      by_op CasPair e
      ∙ ap (λ (r : ℕ). exec_cas_pair xlen misaligned m.width m.rd (x m.rs1) (pair_at m.width x m.rd) (pair_at m.width x r) pc base mem) (sym same)
