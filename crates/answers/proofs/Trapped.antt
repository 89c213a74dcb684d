-- What a hart fetches traps exactly by the table of traps, at every register width. Assumes nothing.
use Prim.Native.Nat.{ℕ, ◌%◌, ◌≤◌, ◌<◌}
use mathlib.Core.Path.{◌≡◌, refl, sym, ◌∙◌, ap, subst}
use mathlib.Core.Bool.{Bool, true, false, cond}
use mathlib.Core.List.{List}
use mathlib.Core.Logic.{⊎_elim}
use native.Mathlib.Omega.{arith}
use lib.ListN.{length}
use lib.Dec.{eqb}
use borrow.Author.Tests.{eqb-true, eqb-false}
use Rattle.word.proofs.ChooseLaws.{cond_all}
use Rattle.word.proofs.TestLaws.{bool_cases, contrary, never}
use Rattle.settings.specs.Settings.{LrCause, lr_cause, AmoCause, amo_cause}
use Rattle.settings.proofs.SettingsLaws.{lr_cause_exact, amo_cause_exact, lr_cause_is, amo_cause_is, lr_cause_some, amo_cause_some}
use Rattle.reserve.specs.Range.{Inside, inside_of}
use Rattle.reserve.proofs.RangeLaws.{inside_of_lem, of_inside}
use Rattle.isa.specs.Width.{bytes_of}
use Rattle.isa.specs.Narrow.{decode_at}
use Rattle.isa.specs.declared.AtomicOp.{AtomicOp}
use Rattle.isa.specs.declared.AtomicOp.TheVariants.{Lr, Sc, Cas, CasPair, Rmw}
use Rattle.isa.specs.declared.Atomic.{Atomic}
use Rattle.isa.specs.declared.Width.{Width}
use Rattle.isa.specs.declared.BranchOp.{BranchOp}
use Rattle.isa.specs.declared.Instr.{Instr}
use Rattle.isa.specs.declared.Instr.TheVariants.{Illegal, Lui, Auipc, Jal, Jalr, Branch, Load, Store, OpImm, OpImm32, Op, Op32, Fence, Ecall, Ebreak, Amo}
use Rattle.effect.specs.Effect.{Writes, none, one, Access, nothing, Exec, trap, effect, offset, next_pc}
use Rattle.effect.specs.Integer.{clear_bit0, holds_of, exec_branch}
use Rattle.effect.specs.Memory.{checked, value_at, exec_load, exec_store}
use Rattle.effect.specs.Atomic.{exec_lr, exec_sc, exec_amo, exec_cas, exec_cas_pair}
use Rattle.effect.specs.Execute.{atomic_by, exec_atomic, execute, execute_word}
use Rattle.effect.proofs.TrapLaws.{misaligned_traps, outside_traps, access_retires, jump_traps, jump_retires}
use Rattle.effect.proofs.TrapLaws.{branch_traps, branch_taken, branch_passed}
use Rattle.model.specs.Perform.{fetch_of}
use Rattle.answers.specs.Causes.{Manner, plain, atomic, Reach, nowhere, jumps, reads, writes, reach_of, TrapRow, FirstTrap, Untrapped}
use Rattle.answers.specs.Causes.{unfetched, unknown, called, halted, misaligned_target, misaligned_read, misaligned_write, misaligned_lr, misaligned_amo}
use Rattle.answers.specs.Causes.{outside_read, outside_write}
use Rattle.answers.proofs.Refused.{first_same}

-- ---- traps apart

abbrev pub cause_in : Exec → ℕ
cause_in (trap cause value) = cause
cause_in (effect ws to t) = 0

-- 1: a trap
abbrev pub is_trap : Exec → ℕ
is_trap (trap cause value) = 1
is_trap (effect ws to t) = 0

abbrev pub value_in : Exec → ℕ
value_in (trap cause value) = value
value_in (effect ws to t) = 0

-- 0: neither Illegal, nor ECALL or EBREAK
code : Instr → ℕ
code Illegal = 2
code Ecall = 8
code Ebreak = 3
code (Fence rd rs1 imm) = 0
code (Lui rd imm) = 0
code (Auipc rd imm) = 0
code (Jal rd imm) = 0
code (Jalr rd rs1 imm) = 0
code (Branch op rs1 rs2 imm) = 0
code (Load op rd rs1 imm) = 0
code (Store op rs1 rs2 imm) = 0
code (OpImm op rd rs1 imm) = 0
code (OpImm32 op rd rs1 imm) = 0
code (Op op rd rs1 rs2) = 0
code (Op32 op rd rs1 rs2) = 0
code (Amo m) = 0

-- the address or the target, and the causes of rows 5 and 6
place_of : Reach → ℕ
place_of nowhere = 0
place_of (jumps t) = t
place_of (reads m a n) = a
place_of (writes m a n) = a

misaligned_cause : ℕ → Reach → ℕ
misaligned_cause misaligned nowhere = 0
misaligned_cause misaligned (jumps t) = 0
misaligned_cause misaligned (reads plain a n) = 4
misaligned_cause misaligned (writes plain a n) = 6
misaligned_cause misaligned (reads atomic a n) = lr_cause misaligned
misaligned_cause misaligned (writes atomic a n) = amo_cause misaligned

outside : Reach → ℕ
outside nowhere = 0
outside (jumps t) = 0
outside (reads m a n) = 5
outside (writes m a n) = 7

-- what rows 4, 5 and 6 ask not to trap
Straight : Reach → Type 0
Straight nowhere = Unit {0}
Straight (jumps t) = t % 4 ≡ 0
Straight (reads m a n) = Unit {0}
Straight (writes m a n) = Unit {0}

Aligned : Reach → Type 0
Aligned nowhere = Unit {0}
Aligned (jumps t) = Unit {0}
Aligned (reads m a n) = a % n ≡ 0
Aligned (writes m a n) = a % n ≡ 0

Within : ℕ → ℕ → Reach → Type 0
Within base len nowhere = Unit {0}
Within base len (jumps t) = Unit {0}
Within base len (reads m a n) = Inside base len a n
Within base len (writes m a n) = Inside base len a n

-- no cause is above 8
lr_most : (misaligned c : ℕ) → LrCause misaligned c → c ≤ 8
lr_most misaligned c r =
    let e = (lr_cause_exact misaligned c).0 r in
    ⊎_elim (λ (q : lr_cause misaligned ≡ 4). omega (arith, e, q)) (λ (q : lr_cause misaligned ≡ 5). omega (arith, e, q)) (lr_cause_is misaligned)

amo_most : (misaligned c : ℕ) → AmoCause misaligned c → c ≤ 8
amo_most misaligned c r =
    let e = (amo_cause_exact misaligned c).0 r in
    ⊎_elim (λ (q : amo_cause misaligned ≡ 6). omega (arith, e, q)) (λ (q : amo_cause misaligned ≡ 7). omega (arith, e, q)) (amo_cause_is misaligned)

module _ (xlen misaligned word : ℕ) (x : ℕ → ℕ) (pc base : ℕ) (mem : List ℕ) where
  none_below : (i : Instr) (p : ℕ) → (1 < p → Inside base (length mem) pc 4) → (2 < p → i ≡ Illegal → ⊥)
      → (3 < p → (i ≡ Ecall → ⊥) × (i ≡ Ebreak → ⊥)) → (4 < p → Straight (reach_of xlen i x pc)) → (5 < p → Aligned (reach_of xlen i x pc))
      → (6 < p → Within base (length mem) (reach_of xlen i x pc)) → (k c v : ℕ) → k < p → TrapRow xlen misaligned i word x pc base mem k c v → ⊥
  unfolding Straight Aligned Within
  none_below i p a b d e f g k c v l (unfetched q r w z) = z (a (omega arith))
  none_below i p a b d e f g k c v l (unknown q r w z) = b (omega arith) z
  none_below i p a b d e f g k c v l (called q r w z) = (d (omega arith)).0 z
  none_below i p a b d e f g k c v l (halted q r w z) = (d (omega arith)).1 z
  none_below i p a b d e f g k c v l (misaligned_target q r w z) = z (subst Straight w (e (omega arith)))
  none_below i p a b d e f g k c v l (misaligned_read q r n w z) = z (subst Aligned w (f (omega arith)))
  none_below i p a b d e f g k c v l (misaligned_write q r n w z) = z (subst Aligned w (f (omega arith)))
  none_below i p a b d e f g k c v l (misaligned_lr q r n w z) = z (subst Aligned w (f (omega arith)))
  none_below i p a b d e f g k c v l (misaligned_amo q r n w z) = z (subst Aligned w (f (omega arith)))
  none_below i p a b d e f g k c v l (outside_read q r t n w z) = z (subst (Within base (length mem)) w (g (omega arith)))
  none_below i p a b d e f g k c v l (outside_write q r t n w z) = z (subst (Within base (length mem)) w (g (omega arith)))

  -- a row's place decides its cause and value
  cause_by : Instr → ℕ → ℕ
  cause_by i k =
      cond (eqb k 3) (code i)
      (cond (eqb k 4) 0 (cond (eqb k 5) (misaligned_cause misaligned (reach_of xlen i x pc)) (cond (eqb k 6) (outside (reach_of xlen i x pc)) k)))

  value_by : Instr → ℕ → ℕ
  value_by i k = cond (eqb k 1) pc (cond (eqb k 2) word (cond (eqb k 3) 0 (place_of (reach_of xlen i x pc))))

  placed : (i : Instr) (k c v : ℕ) → TrapRow xlen misaligned i word x pc base mem k c v → (1 ≤ k) × (k ≤ 6) × (c ≤ 8) × (c ≡ cause_by i k) × (v ≡ value_by i k)
  unfolding cause_by value_by code misaligned_cause outside place_of
  placed i k c v (unfetched q r w z) = (omega arith, omega arith, omega arith, rw q r, rw q w)
  placed i k c v (unknown q r w z) = (omega arith, omega arith, omega arith, rw q r, rw q w)
  placed i k c v (called q r w z) = (omega arith, omega arith, omega arith, rw (q, z) r, rw q w)
  placed i k c v (halted q r w z) = (omega arith, omega arith, omega arith, rw (q, z) r, rw q w)
  placed i k c v (misaligned_target q r w z) = (omega arith, omega arith, omega arith, rw q r, rw (q, w) refl)
  placed i k c v (misaligned_read q r n w z) = (omega arith, omega arith, omega arith, rw (q, w) r, rw (q, w) refl)
  placed i k c v (misaligned_write q r n w z) = (omega arith, omega arith, omega arith, rw (q, w) r, rw (q, w) refl)
  placed i k c v (misaligned_lr q r n w z) = (omega arith, omega arith, lr_most misaligned c r, rw (q, w) ((lr_cause_exact misaligned c).0 r), rw (q, w) refl)
  placed i k c v (misaligned_amo q r n w z) =
      (omega arith, omega arith, amo_most misaligned c r, rw (q, w) ((amo_cause_exact misaligned c).0 r), rw (q, w) refl)
  placed i k c v (outside_read q r t n w z) = (omega arith, omega arith, omega arith, rw (q, w) r, rw (q, w) refl)
  placed i k c v (outside_write q r t n w z) = (omega arith, omega arith, omega arith, rw (q, w) r, rw (q, w) refl)

  pub cause_most : (i : Instr) (k c v : ℕ) → TrapRow xlen misaligned i word x pc base mem k c v → c ≤ 8
  cause_most i k c v r = (placed i k c v r).2

  -- so there is one first row, with one cause and value
  pub first_equal : (i : Instr) (c v d w : ℕ) → FirstTrap (TrapRow xlen misaligned i word x pc base mem) c v → FirstTrap (TrapRow xlen misaligned i word x pc base mem) d w
      → (c ≡ d) × (v ≡ w)
  first_equal i c v d w f g =
      let R : ℕ → Type 0 = λ k. (c : ℕ) × (v : ℕ) × TrapRow xlen misaligned i word x pc base mem k c v in
      let q : f.place ≡ g.place =
      first_same R f.place g.place (c, v, f.applies) (λ k l r. f.first k r.0 r.1 l r.2) (d, w, g.applies)
      (λ k l r. g.first k r.0 r.1 l r.2) in
      let a = placed i f.place c v f.applies in
      let b = placed i g.place d w g.applies in
      (a.3 ∙ ap (cause_by i) q ∙ sym b.3, a.4 ∙ ap (value_by i) q ∙ sym b.4)

  -- the first row that applies is what it comes to, or no row applies and it comes to an effect
  pub data Decided (i : Instr) (e : Exec) : Type 0 where
    traps : (c v : ℕ) → e ≡ trap c v → FirstTrap (TrapRow xlen misaligned i word x pc base mem) c v → Decided i e
    retires : (ws : Writes) (to : ℕ) (t : Access) → e ≡ effect ws to t → Untrapped (TrapRow xlen misaligned i word x pc base mem) → Decided i e

  -- ---- a word that is in memory
  module _ (inside : Inside base (length mem) pc 4) where
    -- and none of the words of rows 2 and 3
    module _ (i : Instr) (plain : code i ≡ 0) where
      clear : (p : ℕ) → (4 < p → Straight (reach_of xlen i x pc)) → (5 < p → Aligned (reach_of xlen i x pc))
          → (6 < p → Within base (length mem) (reach_of xlen i x pc)) → (k c v : ℕ) → k < p → TrapRow xlen misaligned i word x pc base mem k c v → ⊥
      unfolding code
      clear p =
          none_below i p (λ l. inside) (λ l z. absurd (omega (arith, plain, ap code z)))
          (λ l. (λ z. absurd (omega (arith, plain, ap code z)), λ z. absurd (omega (arith, plain, ap code z))))

      fine : Straight (reach_of xlen i x pc) → Aligned (reach_of xlen i x pc) → Within base (length mem) (reach_of xlen i x pc)
          → (e : Exec) (ws : Writes) (to : ℕ) (t : Access) → e ≡ effect ws to t → Decided i e
      fine a b c e ws to t q =
          retires ws to t q
          (λ k d v r. let l = placed i k d v r in clear 7 (λ z. a) (λ z. b) (λ z. c) k d v (omega (arith, l.1)) r)

      goes : (ws : Writes) (to : ℕ) (t : Access) → reach_of xlen i x pc ≡ nowhere → Decided i (effect ws to t)
      unfolding Straight Aligned Within
      goes ws to t q = fine (rw q tt) (rw q tt) (rw q tt) (effect ws to t) ws to t refl

      -- a jump or a taken branch
      jump_decided : (to : ℕ) (ws : Writes) (e : Exec) → reach_of xlen i x pc ≡ jumps to → ((to % 4 ≡ 0 → ⊥) → e ≡ trap 0 to)
          → (to % 4 ≡ 0 → e ≡ effect ws to nothing) → Decided i e
      unfolding Straight Aligned Within
      jump_decided to ws e q bad good =
          bool_cases (eqb (to % 4) 0)
          (λ t. let al = eqb-true (to % 4) 0 t in fine (rw q al) (rw q tt) (rw q tt) e ws to nothing (good al))
          (λ t.
          let skew = eqb-false (to % 4) 0 t in
          traps 0 to (bad skew)
          (record { place = 4; applies = misaligned_target refl refl q skew; first = clear 4 (never refl) (never refl) (never refl) }))

      -- an access by row 5, misaligned, then row 6, outside
      access_decided : (unaligned outside a n : ℕ) (ws : Writes) (to : ℕ) (t : Access) → 0 < unaligned → 0 < outside → Straight (reach_of xlen i x pc)
          → (a % n ≡ 0 → Aligned (reach_of xlen i x pc)) → (Inside base (length mem) a n → Within base (length mem) (reach_of xlen i x pc))
          → ((a % n ≡ 0 → ⊥) → TrapRow xlen misaligned i word x pc base mem 5 unaligned a)
          → ((Inside base (length mem) a n → ⊥) → TrapRow xlen misaligned i word x pc base mem 6 outside a)
          → Decided i (checked unaligned outside a n base (length mem) (effect ws to t))
      access_decided mis out a n ws to t some more straight aligned within row5 row6 =
          let e = effect ws to t in
          bool_cases (eqb (a % n) 0)
          (λ u.
          let al = eqb-true (a % n) 0 u in
          bool_cases (inside_of base (length mem) a n)
          (λ w.
          let is = inside_of_lem base (length mem) a n w in
          fine straight (aligned al) (within is) _ ws to t (access_retires mis out a n base (length mem) some more e al is))
          (λ w.
          let isnt : Inside base (length mem) a n → ⊥ = λ j. contrary (of_inside base (length mem) a n j) w in
          traps out a (outside_traps mis out a n base (length mem) some more e al isnt)
          (record { place = 6; applies = row6 isnt; first = clear 6 (λ l. straight) (λ l. aligned al) (never refl) })))
          (λ u.
          let skew = eqb-false (a % n) 0 u in
          traps mis a (misaligned_traps mis out a n base (length mem) some more e skew)
          (record { place = 5; applies = row5 skew; first = clear 5 (λ l. straight) (never refl) (never refl) }))

      -- a load, or an LR with the cause of row 5 by its setting
      read_decided : (m : Manner) (mis a n : ℕ) (ws : Writes) (to : ℕ) (t : Access) → 0 < mis → reach_of xlen i x pc ≡ reads m a n
          → ((a % n ≡ 0 → ⊥) → TrapRow xlen misaligned i word x pc base mem 5 mis a) → Decided i (checked mis 5 a n base (length mem) (effect ws to t))
      unfolding Straight Aligned Within
      read_decided m mis a n ws to t some q row5 =
          access_decided mis 5 a n ws to t some (omega arith) (rw q tt) (λ al. rw q al) (λ is. rw q is) row5 (λ z. outside_read refl refl m n q z)

      lr_decided : (a n : ℕ) (ws : Writes) (to : ℕ) (t : Access) → reach_of xlen i x pc ≡ reads atomic a n
          → Decided i (checked (lr_cause misaligned) 5 a n base (length mem) (effect ws to t))
      lr_decided a n ws to t q =
          read_decided atomic (lr_cause misaligned) a n ws to t (lr_cause_some misaligned) q
          (λ z. misaligned_lr refl ((lr_cause_exact misaligned _).1 refl) n q z)

      -- a store, or an SC, AMO or AMOCAS likewise
      write_decided : (m : Manner) (mis a n : ℕ) (ws : Writes) (to : ℕ) (t : Access) → 0 < mis → reach_of xlen i x pc ≡ writes m a n
          → ((a % n ≡ 0 → ⊥) → TrapRow xlen misaligned i word x pc base mem 5 mis a) → Decided i (checked mis 7 a n base (length mem) (effect ws to t))
      unfolding Straight Aligned Within
      write_decided m mis a n ws to t some q row5 =
          access_decided mis 7 a n ws to t some (omega arith) (rw q tt) (λ al. rw q al) (λ is. rw q is) row5 (λ z. outside_write refl refl m n q z)

      amo_decided : (a n : ℕ) (ws : Writes) (to : ℕ) (t : Access) → reach_of xlen i x pc ≡ writes atomic a n
          → Decided i (checked (amo_cause misaligned) 7 a n base (length mem) (effect ws to t))
      amo_decided a n ws to t q =
          write_decided atomic (amo_cause misaligned) a n ws to t (amo_cause_some misaligned) q
          (λ z. misaligned_amo refl ((amo_cause_exact misaligned _).1 refl) n q z)

      -- an SC, whatever the reservation decides then
      sc_decided : (w : Width) (rd a v : ℕ) (covered : ℕ → ℕ → Bool) → reach_of xlen i x pc ≡ writes atomic a (bytes_of w)
          → Decided i (exec_sc xlen misaligned w rd a v pc base mem covered)
      unfolding exec_sc
      sc_decided w rd a v covered q =
          cond_all (λ (e : Exec). Decided i (checked (amo_cause misaligned) 7 a (bytes_of w) base (length mem) e)) (covered a (bytes_of w)) _ _
          (amo_decided a (bytes_of w) _ _ _ q) (amo_decided a (bytes_of w) _ _ _ q)

    branch_decided : (op : BranchOp) (rs1 rs2 imm : ℕ) (b : Bool) → holds_of xlen op (x rs1) (x rs2) ≡ b
        → Decided (Branch op rs1 rs2 imm) (exec_branch xlen b (offset xlen pc imm) pc)
    unfolding code
    branch_decided op rs1 rs2 imm true h =
        let to = offset xlen pc imm in
        jump_decided (Branch op rs1 rs2 imm) refl to none _ (rw h) (branch_traps xlen pc to) (branch_taken xlen pc to)
    branch_decided op rs1 rs2 imm false h =
        let to = offset xlen pc imm in
        subst (Decided (Branch op rs1 rs2 imm)) (sym (branch_passed xlen pc to))
        (goes (Branch op rs1 rs2 imm) refl none (next_pc xlen pc) nothing (rw h))

    atomic_decided : (m : Atomic) (covered : ℕ → ℕ → Bool) (op : AtomicOp) → m.op ≡ op → Decided (Amo m) (atomic_by xlen misaligned op m x pc base mem covered)
    unfolding code exec_lr exec_cas exec_cas_pair exec_amo
    atomic_decided m covered Lr q = lr_decided (Amo m) refl _ _ _ _ _ (rw q)
    atomic_decided m covered Sc q = sc_decided (Amo m) refl m.width m.rd (x m.rs1) (x m.rs2) covered (rw q)
    atomic_decided m covered Cas q = amo_decided (Amo m) refl _ _ _ _ _ (rw q)
    atomic_decided m covered CasPair q = amo_decided (Amo m) refl _ _ _ _ _ (rw q)
    atomic_decided m covered (Rmw op) q = amo_decided (Amo m) refl _ _ _ _ _ (rw q)

    execute_decided : (covered : ℕ → ℕ → Bool) (i : Instr) → Decided i (execute xlen misaligned i word x pc base mem covered)
    unfolding execute exec_atomic exec_load exec_store code Straight Aligned Within
    execute_decided covered Illegal =
        traps 2 word refl
        (record {
          place = 2;
          applies = unknown refl refl refl refl;
          first = none_below Illegal 2 (λ l. inside) (never refl) (never refl) (λ l. tt) (λ l. tt) (λ l. tt);
        })
    execute_decided covered Ecall =
        traps 8 0 refl
        (record {
          place = 3;
          applies = called refl refl refl refl;
          first = none_below Ecall 3 (λ l. inside) (λ l z. absurd (omega (arith, ap code z))) (never refl) (λ l. tt) (λ l. tt) (λ l. tt);
        })
    execute_decided covered Ebreak =
        traps 3 0 refl
        (record {
          place = 3;
          applies = halted refl refl refl refl;
          first = none_below Ebreak 3 (λ l. inside) (λ l z. absurd (omega (arith, ap code z))) (never refl) (λ l. tt) (λ l. tt) (λ l. tt);
        })
    execute_decided covered (Fence rd rs1 imm) = goes _ refl _ _ _ refl
    execute_decided covered (Lui rd imm) = goes _ refl _ _ _ refl
    execute_decided covered (Auipc rd imm) = goes _ refl _ _ _ refl
    execute_decided covered (Jal rd imm) =
        let to = offset xlen pc imm in
        jump_decided (Jal rd imm) refl to (one rd (next_pc xlen pc)) _ refl (jump_traps xlen pc rd to) (jump_retires xlen pc rd to)
    execute_decided covered (Jalr rd rs1 imm) =
        let to = clear_bit0 (offset xlen (x rs1) imm) in
        jump_decided (Jalr rd rs1 imm) refl to (one rd (next_pc xlen pc)) _ refl (jump_traps xlen pc rd to) (jump_retires xlen pc rd to)
    execute_decided covered (Branch op rs1 rs2 imm) = branch_decided op rs1 rs2 imm (holds_of xlen op (x rs1) (x rs2)) refl
    execute_decided covered (Load op rd rs1 imm) =
        read_decided (Load op rd rs1 imm) refl plain 4 _ _ _ _ _ (omega arith) refl (λ z. misaligned_read refl refl _ refl z)
    execute_decided covered (Store op rs1 rs2 imm) =
        write_decided (Store op rs1 rs2 imm) refl plain 6 _ _ _ _ _ (omega arith) refl (λ z. misaligned_write refl refl _ refl z)
    execute_decided covered (OpImm op rd rs1 imm) = goes _ refl _ _ _ refl
    execute_decided covered (OpImm32 op rd rs1 imm) = goes _ refl _ _ _ refl
    execute_decided covered (Op op rd rs1 rs2) = goes _ refl _ _ _ refl
    execute_decided covered (Op32 op rd rs1 rs2) = goes _ refl _ _ _ refl
    execute_decided covered (Amo m) = atomic_decided m covered m.op refl

-- ---- the fetch, too

module _ (xlen misaligned : ℕ) (x : ℕ → ℕ) (pc base : ℕ) (mem : List ℕ) (covered : ℕ → ℕ → Bool) where
  pub decided : Decided xlen misaligned (value_at base mem pc 4) x pc base mem (decode_at xlen (value_at base mem pc 4)) (fetch_of xlen misaligned x pc base mem covered)
  unfolding fetch_of execute_word
  decided =
      let word = value_at base mem pc 4 in
      let i = decode_at xlen word in
      bool_cases (inside_of base (length mem) pc 4)
      (λ t. rw t (execute_decided xlen misaligned word x pc base mem (inside_of_lem base (length mem) pc 4 t) covered i))
      (λ t.
      let away : Inside base (length mem) pc 4 → ⊥ = λ j. contrary (of_inside base (length mem) pc 4 j) t in
      traps 1 pc (rw t)
      (record {
        place = 1;
        applies = unfetched refl refl refl away;
        first = none_below xlen misaligned word x pc base mem i 1 (never refl) (never refl) (never refl) (never refl) (never refl) (never refl);
      }))
