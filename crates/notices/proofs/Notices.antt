-- The notice of each event: of a retired step what its instruction and its answer tell, of a trap and a refusal none. Assumes nothing.
use mathlib.Core.Path.{◌≡◌, refl, sym, ap, subst}
use mathlib.Core.Logic.{◌⊎◌, inl, inr, ⊎_elim}
use mathlib.Core.Bool.{Bool, true, false, cond, ◌&&◌}
use mathlib.Core.List.{List}
use Prim.Native.Nat.{ℕ, ◌%◌, ◌<◌}
use lib.Dec.{eqb, leb}
use lib.ListN.{length, get_or}
use borrow.Author.Tests.{lt-ltb}
use Rattle.word.specs.Word.{low}
use Rattle.word.specs.Bytes.{to_le}
use Rattle.word.proofs.BytesLaws.{length-to_le}
use Rattle.word.proofs.ChooseLaws.{cond_cases}
use Rattle.reserve.specs.Range.{inside_of}
use Rattle.reserve.specs.Reserve.{covers_of}
use Rattle.reserve.specs.declared.Notice.{Notice}
use Rattle.reserve.specs.declared.Notice.TheVariants.{Quiet, LoadReserved, ScStored, Write, DeviceWrite, Yield}
use Rattle.isa.specs.Width.{bits_of, bytes_of, pair_bytes}
use Rattle.isa.specs.declared.AtomicOp.{AtomicOp}
use Rattle.isa.specs.declared.AtomicOp.TheVariants.{Lr, Sc, Cas, CasPair, Rmw}
use Rattle.isa.specs.declared.Atomic.{Atomic}
use Rattle.isa.specs.declared.Instr.{Instr}
use Rattle.isa.specs.declared.Instr.TheVariants.{Illegal, Lui, Auipc, Jal, Jalr, Branch, Load, Store, OpImm, OpImm32, Op, Op32, Fence, Ecall, Ebreak, Amo}
use Rattle.effect.specs.Effect.{Writes, Access, nothing, reserve, store, sc_stored, sc_failed, Exec, trap, effect, offset}
use Rattle.effect.specs.Integer.{exec_jump, exec_branch}
use Rattle.effect.specs.Memory.{fault_of, checked, value_at, store_bytes, exec_load, exec_store}
use Rattle.effect.specs.Atomic.{swapped, exec_lr, exec_sc, exec_amo, exec_cas, exec_cas_pair}
use Rattle.effect.specs.Execute.{reg_at, pair_at, atomic_by, exec_atomic, execute}
use Rattle.events.specs.declared.Event.{Event}
use Rattle.events.specs.declared.Event.TheVariants.{Step, Device, Yield as YieldOf}
use Rattle.model.specs.Act.{Act, refuse, fault, change, put, release, act_notice, outcome_of}
use Rattle.settings.specs.Settings.{lr_cause, amo_cause}
use Rattle.model.specs.Perform.{Machine, xlen, misaligned, reservation_of, of_exec, device_of, act_on, act_of, answer_of, outcome_at}
use Rattle.model.specs.Valid.{Valid}
use Rattle.model.specs.Retired.{IsRetired, Traps, Refuses}
use Rattle.model.specs.Trace.{notice_at}
use Rattle.model.specs.Fetch.{Fetches}
use Rattle.model.specs.declared.Outcome.{Outcome}
use Rattle.model.proofs.Valid.{act_valid}
use Rattle.model.proofs.Frame.{step_act}
use Rattle.notices.specs.Notices.{atomic_notice, notice_by}

-- ---- the notice of each instruction

module _ (h : ℕ) where
  -- if it retires, the notice is what is told of it, by its answer
  Tells : (Outcome → Notice) → Exec → Type 0
  Tells n e = (Traps (outcome_of (of_exec h e)) → ⊥) → act_notice (of_exec h e) ≡ n (outcome_of (of_exec h e))

  trapped : (n : Outcome → Notice) (cause value : ℕ) → Tells n (trap cause value)
  unfolding Tells
  trapped n cause value d = absurd (d (cause, value, refl))

  access : (n : Outcome → Notice) (unaligned outside a k base len : ℕ) (e : Exec) → Tells n e → Tells n (checked unaligned outside a k base len e)
  unfolding checked
  access n unaligned outside a k base len e p =
      cond_cases (Tells n) (eqb (fault_of unaligned outside a k base len) 0) e _ (λ t. p) (λ f. trapped n (fault_of unaligned outside a k base len) a)

  silent : (ws : Writes) (to : ℕ) → Tells (λ (o : Outcome). Quiet) (effect ws to nothing)
  unfolding Tells
  silent ws to d = refl

  reserves : (ws : Writes) (to a k : ℕ) → Tells (λ (o : Outcome). LoadReserved h a k) (effect ws to (reserve a k))
  unfolding Tells
  reserves ws to a k d = refl

  stores : (ws : Writes) (to a k v : ℕ) → Tells (λ (o : Outcome). Write h a k) (effect ws to (store a (to_le k v)))
  unfolding Tells
  stores ws to a k v d = ap (λ (j : ℕ). Write h a j) (length-to_le k v)

  swaps : (ws : Writes) (to a k old want new : ℕ) → Tells (λ (o : Outcome). cond (eqb old want) (Write h a k) Quiet) (effect ws to (swapped a k old want new))
  swaps ws to a k old want new = go (eqb old want)
    where
      go : (t : Bool) → Tells (λ (o : Outcome). cond t (Write h a k) Quiet) (effect ws to (cond t (store a (to_le k new)) nothing))
      go true = stores ws to a k new
      go false = silent ws to

  module _ (xlen misaligned : ℕ) (x : ℕ → ℕ) (pc base : ℕ) (mem : List ℕ) (covered : ℕ → ℕ → Bool) where
    tells_sc : (i : Atomic) → Tells (atomic_notice h x base mem Sc i) (atomic_by xlen misaligned Sc i x pc base mem covered)
    unfolding exec_sc Tells
    tells_sc i =
        access (atomic_notice h x base mem Sc i) (amo_cause misaligned) 7 (x i.rs1) (bytes_of i.width) base (length mem) _
        (cond_cases (Tells (atomic_notice h x base mem Sc i)) (covered (x i.rs1) (bytes_of i.width)) _ _
        (λ c d. ap (λ (j : ℕ). ScStored h (x i.rs1) j) (length-to_le (bytes_of i.width) (x i.rs2))) (λ c d. refl))

    tells_atomic : (op : AtomicOp) (i : Atomic) → Tells (atomic_notice h x base mem op i) (atomic_by xlen misaligned op i x pc base mem covered)
    unfolding exec_lr exec_amo exec_cas exec_cas_pair
    tells_atomic Lr i =
        access (atomic_notice h x base mem Lr i) (lr_cause misaligned) 5 (x i.rs1) (bytes_of i.width) base (length mem) _
        (reserves _ _ (x i.rs1) (bytes_of i.width))
    tells_atomic Sc i = tells_sc i
    tells_atomic Cas i =
        access (atomic_notice h x base mem Cas i) (amo_cause misaligned) 7 (x i.rs1) (bytes_of i.width) base (length mem) _
        (swaps _ _ (x i.rs1) (bytes_of i.width) (value_at base mem (x i.rs1) (bytes_of i.width)) (low (bits_of i.width) (x i.rd)) (x i.rs2))
    tells_atomic CasPair i =
        let n = pair_bytes i.width in
        access (atomic_notice h x base mem CasPair i) (amo_cause misaligned) 7 (x i.rs1) n base (length mem) _
        (swaps _ _ (x i.rs1) n (value_at base mem (x i.rs1) n) (pair_at i.width x i.rd) (pair_at i.width x i.rs2))
    tells_atomic (Rmw op) i =
        access (atomic_notice h x base mem (Rmw op) i) (amo_cause misaligned) 7 (x i.rs1) (bytes_of i.width) base (length mem) _ (stores _ _ (x i.rs1) (bytes_of i.width) _)

    tells_jump : (rd to : ℕ) → Tells (λ (o : Outcome). Quiet) (exec_jump xlen rd to pc)
    unfolding exec_jump
    tells_jump rd to = cond_cases (Tells (λ (o : Outcome). Quiet)) (eqb (to % 4) 0) _ _ (λ t. silent _ _) (λ f. trapped (λ (o : Outcome). Quiet) 0 to)

    tells_branch : (taken : Bool) (to : ℕ) → Tells (λ (o : Outcome). Quiet) (exec_branch xlen taken to pc)
    unfolding exec_branch
    tells_branch true to = cond_cases (Tells (λ (o : Outcome). Quiet)) (eqb (to % 4) 0) _ _ (λ t. silent _ _) (λ f. trapped (λ (o : Outcome). Quiet) 0 to)
    tells_branch false to = silent _ _

    tells : (i : Instr) (word : ℕ) → Tells (notice_by xlen h x base mem i) (execute xlen misaligned i word x pc base mem covered)
    unfolding execute exec_atomic exec_load exec_store
    tells Illegal word = trapped (notice_by xlen h x base mem Illegal) 2 word
    tells Ecall word = trapped (notice_by xlen h x base mem Ecall) 8 0
    tells Ebreak word = trapped (notice_by xlen h x base mem Ebreak) 3 0
    tells (Fence rd rs1 imm) word = silent _ _
    tells (Lui rd imm) word = silent _ _
    tells (Auipc rd imm) word = silent _ _
    tells (Jal rd imm) word = tells_jump rd _
    tells (Jalr rd rs1 imm) word = tells_jump rd _
    tells (Branch op rs1 rs2 imm) word = tells_branch _ _
    tells (Load op rd rs1 imm) word = access (λ (o : Outcome). Quiet) 4 5 _ _ base (length mem) _ (silent _ _)
    tells (Store op rs1 rs2 imm) word =
        access (λ (o : Outcome). Write h (offset xlen (x rs1) imm) (store_bytes op)) 6 7 _ _ base (length mem) _ (stores _ _ _ _ _)
    tells (OpImm op rd rs1 imm) word = silent _ _
    tells (OpImm32 op rd rs1 imm) word = silent _ _
    tells (Op op rd rs1 rs2) word = silent _ _
    tells (Op32 op rd rs1 rs2) word = silent _ _
    tells (Amo i) word = tells_atomic i.op i

-- ---- the notice of each event

pub access_retired : (h : ℕ) (ws : Writes) (to : ℕ) (t : Access) → IsRetired (outcome_of (change h ws to t))
access_retired h ws to nothing = tt
access_retired h ws to (reserve a w) = tt
access_retired h ws to (store a bs) = tt
access_retired h ws to (sc_stored a bs) = tt
access_retired h ws to sc_failed = tt

quiet_or : (act : Act) → (act_notice act ≡ Quiet) ⊎ IsRetired (outcome_of act)
quiet_or (refuse number) = inl refl
quiet_or (fault cause value) = inl refl
quiet_or (change h ws to t) = inr (access_retired h ws to t)
quiet_or (put a bs) = inr tt
quiet_or (release h) = inr tt

-- 01: "Not: .. a trap"; a refusal leaves "the state as given": neither tells anything
pub notice_none : (base : ℕ) (m : Machine) (e : Event) → Traps (outcome_at base m e) ⊎ Refuses (outcome_at base m e) → notice_at base m e ≡ Quiet
unfolding answer_of
notice_none base m e w =
    ⊎_elim (λ (q : notice_at base m e ≡ Quiet). q)
    (λ (n : IsRetired (outcome_at base m e)).
    ⊎_elim (λ (t : Traps (outcome_at base m e)). absurd (subst IsRetired t.2 n)) (λ (r : Refuses (outcome_at base m e)). absurd (subst IsRetired r.1 n)) w)
    (quiet_or (act_of base m.mem m.state e))

module _ (base : ℕ) (m : Machine) (v : Valid base m) where
  -- a retired step tells what its instruction does
  pub notice_step : (h : ℕ) → h < m.state.count → (i : Instr) → Fetches base m h i → (Traps (outcome_at base m (Step h)) → ⊥)
      → notice_at base m (Step h) ≡ notice_by (xlen m) h (reg_at m.state.x h) base m.mem i (outcome_at base m (Step h))
  unfolding answer_of Tells
  notice_step h u i f =
      subst
      (λ (act : Act). (Traps (outcome_of act) → ⊥) → act_notice act ≡ notice_by (xlen m) h (reg_at m.state.x h) base m.mem i (outcome_of act))
      (sym (step_act base m v h u i f))
      (tells h (xlen m) (misaligned m) (reg_at m.state.x h) (get_or m.state.pc h 0) base m.mem (covers_of m.state.settings (reservation_of m.state h)) i
      (value_at base m.mem (get_or m.state.pc h 0) 4))

  -- a device write that isn't refused, its address and number of bytes
  pub notice_device : (a n w : ℕ) → (Refuses (outcome_at base m (Device a n w)) → ⊥) → notice_at base m (Device a n w) ≡ DeviceWrite a n
  unfolding answer_of act_on device_of
  notice_device a n w =
      rw (act_valid base m v (Device a n w)) (go (leb 1 n && leb n 8) (inside_of base (length m.mem) a n))
    where
      go : (s t : Bool) → (Refuses (outcome_of (cond s (cond t (put a (to_le n w)) (refuse 5)) (refuse 4))) → ⊥)
          → act_notice (cond s (cond t (put a (to_le n w)) (refuse 5)) (refuse 4)) ≡ DeviceWrite a n
      go true true d = ap (λ (k : ℕ). DeviceWrite a k) (length-to_le n w)
      go true false d = absurd (d (5, refl))
      go false t d = absurd (d (4, refl))

  -- a yield of a used hart, the hart
  pub notice_yield : (h : ℕ) → h < m.state.count → notice_at base m (YieldOf h) ≡ Yield h
  unfolding act_on
  notice_yield h u = rw (act_valid base m v (YieldOf h), lt-ltb h m.state.count u)
