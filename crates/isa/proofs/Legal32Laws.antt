-- A word is legal on a 32-bit core exactly if a line of Legal32 has it; and what it is there. Both hold of every number. Assumes nothing.
use mathlib.Core.Path.{◌≡◌, refl, sym, ap, subst, ◌∙◌}
use mathlib.Core.Logic.{◌≢◌, ◌↔◌, ◌⊎◌, inl, inr, ⊎_elim}
use mathlib.Core.Bool.{Bool, true, false, cond, ◌&&◌, ◌||◌}
use mathlib.Core.List.{List, [], ◌∷◌}
use Prim.Native.Nat.{ℕ, ◌+◌, ◌*◌, ◌/◌, ◌%◌, ◌^◌, ◌≤◌}
use native.Mathlib.Nat.{div-div-eq-div-mul}
use native.Mathlib.Omega.{arith}
use mir.Facts.{and_yes, or_yes}
use lib.Dec.{T, eqb, leb, ltb, eqb→eq, ltb→lt}
use borrow.Author.Tests.{eqb-true, eq-eqb, ne_eqb, leb-true, le-leb}
use Rattle.word.specs.Choose.{Row, ◌⇒◌, select}
use Rattle.word.specs.Each.{all_below}
use Rattle.word.proofs.ChooseLaws.{cond_all, cond_cases, select_all, select_keyed, ◌also◌}
use Rattle.word.proofs.EachLaws.{all_at}
use Rattle.word.proofs.TestLaws.{contrary}
use Rattle.isa.specs.Fields.{bits, rd_of, rs1_of, rs2_of, funct3_of, funct5_of, funct6_of, funct7_of, imm_i}
use Rattle.isa.specs.Decode as D
use Rattle.isa.specs.Decode.{key, decode_of, is_even}
use Rattle.isa.specs.Narrow.{if_kept, kept_load, kept_store, kept_imm, narrowed, decode_at, is_double, is_cas}
use Rattle.isa.specs.Legal32.{◌one_of◌, Legal32, is_load, is_fence, is_op_imm, is_shift_left, is_shift_right, is_auipc, is_store}
use Rattle.isa.specs.Legal32.{is_atomic, is_lr, is_pair, is_op, is_sub_or_sra, is_lui, is_branch, is_jalr, is_jal, is_system}
use Rattle.std.specs.Prelude.{Option, Some, None}
use Rattle.isa.specs.declared.class.Class.{Class}
use Rattle.isa.specs.declared.class.Class.TheVariants as C
use Rattle.isa.specs.declared.AtomicOp.{AtomicOp}
use Rattle.isa.specs.declared.AtomicOp.TheVariants.{Lr, Sc, Cas, CasPair, Rmw}
use Rattle.isa.specs.declared.Width.{Width}
use Rattle.isa.specs.declared.Width.TheVariants.{Word, Double}
use Rattle.isa.specs.declared.Instr.{Instr}
use Rattle.isa.specs.declared.Instr.TheVariants.{Illegal, Lui, Auipc, Jal, Jalr, Branch, Load, Store}
use Rattle.isa.specs.declared.Instr.TheVariants.{OpImm, OpImm32, Op, Op32, Fence, Ecall, Ebreak, Amo}
use Rattle.isa.proofs.DecodeLaws.{decoded}

-- ---- an instruction that isn't Illegal, as a test that computes

abbrev legal : Instr → Bool
legal Illegal = false
legal (Lui rd imm) = true
legal (Auipc rd imm) = true
legal (Jal rd imm) = true
legal (Jalr rd rs1 imm) = true
legal (Branch op rs1 rs2 imm) = true
legal (Load op rd rs1 imm) = true
legal (Store op rs1 rs2 imm) = true
legal (OpImm op rd rs1 imm) = true
legal (OpImm32 op rd rs1 imm) = true
legal (Op op rd rs1 rs2) = true
legal (Op32 op rd rs1 rs2) = true
legal (Fence rd rs1 imm) = true
legal Ecall = true
legal Ebreak = true
legal (Amo a) = true

-- a 32-bit core has it
abbrev Kept : Instr → Type 0
Kept i = T (legal (narrowed i))

legal_ne : (i : Instr) → T (legal i) → i ≢ Illegal
legal_ne i l e = subst (λ (j : Instr). T (legal j)) e l

ne_legal : (i : Instr) → i ≢ Illegal → T (legal i)
ne_legal Illegal h = h refl
ne_legal (Lui rd imm) h = tt
ne_legal (Auipc rd imm) h = tt
ne_legal (Jal rd imm) h = tt
ne_legal (Jalr rd rs1 imm) h = tt
ne_legal (Branch op rs1 rs2 imm) h = tt
ne_legal (Load op rd rs1 imm) h = tt
ne_legal (Store op rs1 rs2 imm) h = tt
ne_legal (OpImm op rd rs1 imm) h = tt
ne_legal (OpImm32 op rd rs1 imm) h = tt
ne_legal (Op op rd rs1 rs2) h = tt
ne_legal (Op32 op rd rs1 rs2) h = tt
ne_legal (Fence rd rs1 imm) h = tt
ne_legal Ecall h = tt
ne_legal Ebreak h = tt
ne_legal (Amo a) h = tt

-- ---- a table against the numbers of its legal rows, by one computation for each table

abbrev member : ℕ → List ℕ → Bool
member n [] = false
member n (m ∷ ms) = eqb n m || member n ms

told : (k n : ℕ) (ns : List ℕ) → T (member n ns) → k ≡ n → k one_of ns
told k n [] t e = t
told k n (m ∷ ms) t e = ⊎_elim (λ h. inl (e ∙ eqb→eq n m h)) (λ h. inr (told k n ms h e)) (or_yes (eqb n m) (member n ms) t)

-- what holds of each of the numbers holds of one of them
abbrev Each : (ℕ → Type 0) → List ℕ → Type 0
Each P [] = Unit {0}
Each P (m ∷ ms) = P m × Each P ms

each_of : (P : ℕ → Type 0) (n : ℕ) (ns : List ℕ) → Each P ns → n one_of ns → P n
each_of P n [] h o = absurd o
each_of P n (m ∷ ms) h o = ⊎_elim (λ (e : n ≡ m). subst P (sym e) h.0) (λ t. each_of P n ms h.1 t) o

-- every legal row's number is one of these
abbrev inside : {A : Type 0} → (A → Instr) → List ℕ → List (Row A) → Bool
inside f ns [] = true
inside f ns ((n ⇒ a) ∷ rows) = cond (legal (narrowed (f a))) (member n ns) true && inside f ns rows

-- it is legal exactly if k is one of these
record Exactly (k : ℕ) (ns : List ℕ) (i : Instr) : Type 0 where
  only : Kept i → k one_of ns
  each : k one_of ns → Kept i

module _ {A : Type 0} (k : ℕ) (f : A → Instr) (ns : List ℕ) where
  listed : (rows : List (Row A)) → T (inside f ns rows) → Kept (select k rows f Illegal) → k one_of ns
  unfolding narrowed
  listed [] t = λ l. absurd l
  listed ((n ⇒ a) ∷ rows) t =
      let both = and_yes (cond (legal (narrowed (f a))) (member n ns) true) (inside f ns rows) t in
      cond_cases (λ i. Kept i → k one_of ns) (eqb k n) (f a) (select k rows f Illegal)
      (λ h l. told k n ns (here (legal (narrowed (f a))) l both.0) (eqb-true k n h))
      (λ h. listed rows both.1)
    where
      here : (t : Bool) → T t → T (cond t (member n ns) true) → T (member n ns)
      here true l m = m
      here false l m = absurd l

  exact : (rows : List (Row A)) → T (inside f ns rows) → Each (λ n. Kept (select n rows f Illegal)) ns
      → Exactly k ns (select k rows f Illegal)
  exact rows t each = record { only = listed rows t; each = each_of (λ n. Kept (select n rows f Illegal)) k ns each }

-- what a table gives for a number that is known
keyed : {A : Type 0} (rows : List (Row A)) (f : A → Instr) (k n : ℕ) → k ≡ n → Kept (select n rows f Illegal) → Kept (select k rows f Illegal)
keyed rows f k n e l = subst (λ (m : ℕ). Kept (select m rows f Illegal)) (sym e) l

-- ---- an instruction under a test

module _ (P : Instr → Type 0) (t : Bool) (i : Instr) where
  tested : (P Illegal → ⊥) → P (cond t i Illegal) → t ≡ true
  tested none = cond_cases (λ j. P j → t ≡ true) t i Illegal (λ h p. h) (λ h p. absurd (none p))

  passed : t ≡ true → P i → P (cond t i Illegal)
  passed e p = subst (λ (u : Bool). P (cond u i Illegal)) (sym e) p

-- ---- the classes

-- the numbers of 3 bits
abbrev all_three : List ℕ
all_three = 0 ∷ 1 ∷ 2 ∷ 3 ∷ 4 ∷ 5 ∷ 6 ∷ 7 ∷ []

-- the funct5 of the atomics of width W but LR
abbrev word_ops : List ℕ
word_ops = 0 ∷ 1 ∷ 3 ∷ 4 ∷ 5 ∷ 8 ∷ 12 ∷ 16 ∷ 20 ∷ 24 ∷ 28 ∷ []

module _ (w : ℕ) where
  -- `from-` a class to a line of Legal32, and `to-` the class back; `-exact` is both
  abbrev To : Instr → Type 0
  To i = Kept i → Legal32 w

  load_exact : Exactly (funct3_of w) (0 ∷ 1 ∷ 2 ∷ 4 ∷ 5 ∷ []) (D.load_of w)
  unfolding D.load_of narrowed
  load_exact = exact (funct3_of w) (D.load_as w) _ D.loads tt (tt also tt also tt also tt also tt also tt)

  store_exact : Exactly (funct3_of w) (0 ∷ 1 ∷ 2 ∷ []) (D.store_of w)
  unfolding D.store_of narrowed
  store_exact = exact (funct3_of w) (D.store_as w) _ D.stores tt (tt also tt also tt also tt)

  branch_exact : Exactly (funct3_of w) (0 ∷ 1 ∷ 4 ∷ 5 ∷ 6 ∷ 7 ∷ []) (D.branch_of w)
  unfolding D.branch_of narrowed
  branch_exact = exact (funct3_of w) (D.branch_as w) _ D.branches tt (tt also tt also tt also tt also tt also tt also tt)

  system_exact : Exactly w (0x00000073 ∷ 0x00100073 ∷ []) (D.system_of w)
  unfolding D.system_of narrowed
  system_exact = exact w D.same _ D.systems tt (tt also tt also tt)

  -- a class that has funct3 0 alone
  zero_exact : (i : Instr) → Kept i → Kept (cond (eqb (funct3_of w) 0) i Illegal) ↔ (funct3_of w ≡ 0)
  unfolding narrowed
  zero_exact i l = (
    λ h. eqb-true (funct3_of w) 0 (tested Kept (eqb (funct3_of w) 0) i (λ l. l) h),
    λ e. passed Kept (eqb (funct3_of w) 0) i (eq-eqb (funct3_of w) 0 e) l,
  )

  fence_exact : Kept (D.misc_mem_of w) ↔ (funct3_of w ≡ 0)
  unfolding D.misc_mem_of narrowed
  fence_exact = zero_exact (Fence (rd_of w) (rs1_of w) (bits 31 20 w)) tt

  jalr_exact : Kept (D.jalr_of w) ↔ (funct3_of w ≡ 0)
  unfolding D.jalr_of narrowed
  jalr_exact = zero_exact (Jalr (rd_of w) (rs1_of w) (imm_i w)) tt

  -- OP
  from_op : D.class_of w ≡ Some C.Op → To (D.op_of w)
  unfolding D.op_of narrowed
  from_op c =
      select_keyed To (key (funct7_of w) (funct3_of w)) D.ops (D.op_as w) Illegal
      (first 0 tt also first 1 tt also first 2 tt also first 3 tt also first 4 tt also first 5 tt also first 6 tt also first 7 tt
      also (λ e l. is_sub_or_sra c (omega (arith, e)) (inl (omega (arith, e))))
      also (λ e l. is_sub_or_sra c (omega (arith, e)) (inr (inl (omega (arith, e)))))
      also tt)
      (λ o l. absurd l)
    where
      first : (n : ℕ) → T (ltb n 8) → key (funct7_of w) (funct3_of w) ≡ n → Unit {0} → Legal32 w
      first n t e l = is_op c (let h = ltb→lt n 8 t in omega (arith, e, h))

  to_op : (n : ℕ) (ns : List ℕ) → funct7_of w ≡ n → Each (λ m. Kept (select (key n m) D.ops (D.op_as w) Illegal)) ns → funct3_of w one_of ns
      → Kept (D.op_of w)
  unfolding D.op_of
  to_op n ns e each o =
      subst (λ (m : ℕ). Kept (select (key m (funct3_of w)) D.ops (D.op_as w) Illegal)) (sym e)
      (each_of (λ m. Kept (select (key n m) D.ops (D.op_as w) Illegal)) (funct3_of w) ns each o)

  -- funct3 has 3 bits
  three_bits : funct3_of w one_of all_three
  unfolding all_below
  three_bits =
      told (funct3_of w) (funct3_of w) all_three (subst T (sym (all_at (λ n. member n all_three) (funct3_of w) 8 refl (omega arith))) tt) refl

  -- the shifts: RV32I's funct7 is RV64I's funct6 with the sixth bit of the amount below it
  funct7_split : funct7_of w ≡ funct6_of w * 2 + bits 25 20 w / 32
  funct7_split = omega (arith, div-div-eq-div-mul w (2 ^ 20) 32, div-div-eq-div-mul w (2 ^ 20) 64)

  short : (i : Instr) → T (legal (if_kept (leb (bits 25 20 w) 31) i)) → bits 25 20 w ≤ 31
  short i l = leb-true (bits 25 20 w) 31 (tested (λ j. T (legal j)) (leb (bits 25 20 w) 31) i (λ l. l) l)

  from_shift : D.class_of w ≡ Some C.OpImm → To (D.shift_of w)
  unfolding D.shift_of narrowed
  from_shift c =
      select_keyed To (key (funct6_of w) (funct3_of w)) D.shifts (D.shift_as w) Illegal
      ((λ e l. is_shift_left c (omega (arith, e)) (omega (arith, e, funct7_split, short _ l)))
      also (λ e l. is_shift_right c (omega (arith, e)) (inl (omega (arith, e, funct7_split, short _ l))))
      also (λ e l. is_shift_right c (omega (arith, e)) (inr (inl (omega (arith, e, funct7_split, short _ l)))))
      also tt)
      (λ o l. absurd l)

  to_shift : (f6 f3 : ℕ) → funct7_of w ≡ f6 * 2 → funct3_of w ≡ f3 → (i : Instr) → T (legal i)
      → (T (legal (if_kept (leb (bits 25 20 w) 31) i)) → Kept (select (key f6 f3) D.shifts (D.shift_as w) Illegal)) → Kept (D.shift_of w)
  unfolding D.shift_of
  to_shift f6 f3 z f i l same =
      let few : bits 25 20 w ≤ 31 = omega (arith, z, funct7_split) in
      keyed D.shifts (D.shift_as w) (key (funct6_of w) (funct3_of w)) (key f6 f3) (omega (arith, f, z, funct7_split))
      (same (passed (λ j. T (legal j)) (leb (bits 25 20 w) 31) i (le-leb (bits 25 20 w) 31 few) l))

  to_left : funct3_of w ≡ 1 → funct7_of w ≡ 0 → Kept (D.shift_of w)
  unfolding narrowed
  to_left f z = to_shift 0 1 z f _ tt (λ l. l)

  to_right : funct3_of w ≡ 5 → funct7_of w one_of (0 ∷ 0x20 ∷ []) → Kept (D.shift_of w)
  unfolding narrowed
  to_right f o = ⊎_elim (λ z. to_shift 0 5 z f _ tt (λ l. l)) (⊎_elim (λ z. to_shift 0x10 5 z f _ tt (λ l. l)) (λ none. absurd none)) o

  -- OP-IMM
  from_op_imm : D.class_of w ≡ Some C.OpImm → To (D.op_imm_of w)
  unfolding D.op_imm_of narrowed
  from_op_imm c =
      select_keyed To (funct3_of w) D.op_imms (D.of w) Illegal
      (plain 0 tt also (λ e. from_shift c) also plain 2 tt also plain 3 tt also plain 4 tt also (λ e. from_shift c) also plain 6 tt also plain 7 tt also tt)
      (λ o l. absurd l)
    where
      plain : (n : ℕ) → T (member n (0 ∷ 2 ∷ 3 ∷ 4 ∷ 6 ∷ 7 ∷ [])) → funct3_of w ≡ n → Unit {0} → Legal32 w
      plain n t e l = is_op_imm c (told (funct3_of w) n (0 ∷ 2 ∷ 3 ∷ 4 ∷ 6 ∷ 7 ∷ []) t e)

  op_imm_at : (n : ℕ) → funct3_of w ≡ n → Kept (select n D.op_imms (D.of w) Illegal) → Kept (D.op_imm_of w)
  unfolding D.op_imm_of
  op_imm_at = keyed D.op_imms (D.of w) (funct3_of w)

  to_op_imm : funct3_of w one_of (0 ∷ 2 ∷ 3 ∷ 4 ∷ 6 ∷ 7 ∷ []) → Kept (D.op_imm_of w)
  unfolding D.op_imm_of narrowed
  to_op_imm o =
      each_of (λ n. Kept (select n D.op_imms (D.of w) Illegal)) (funct3_of w) (0 ∷ 2 ∷ 3 ∷ 4 ∷ 6 ∷ 7 ∷ [])
      (tt also tt also tt also tt also tt also tt also tt) o

  -- AMO
  module _ (c : D.class_of w ≡ Some C.Amo) where
    from_sized : (a : AtomicOp) → T (inside (D.atomic_as w a) (2 ∷ []) D.widths) → Kept (D.sized_of a w) → funct3_of w ≡ 2
    unfolding D.sized_of narrowed
    from_sized a t l = ⊎_elim (λ e. e) (λ none. absurd none) (listed (funct3_of w) (D.atomic_as w a) (2 ∷ []) D.widths t l)

    from_word : (a : AtomicOp) → T (inside (D.atomic_as w a) (2 ∷ []) D.widths) → (n : ℕ) → T (member n word_ops) → funct5_of w ≡ n
        → To (D.sized_of a w)
    from_word a t n m e l = is_atomic c (from_sized a t l) (told (funct5_of w) n word_ops m e)

    from_lr : funct5_of w ≡ 2 → To (D.lr_of w)
    unfolding D.lr_of narrowed
    from_lr e =
        cond_cases To (eqb (rs2_of w) 0) (D.sized_of Lr w) Illegal (λ h l. is_lr c (from_sized Lr tt l) e (eqb-true (rs2_of w) 0 h)) (λ h l. absurd l)

    from_cas : funct5_of w ≡ 5 → To (D.cas_of w)
    unfolding D.cas_of D.cas_pair_of D.sized_of narrowed
    from_cas e =
        cond_all To (eqb (funct3_of w) 4) (D.cas_pair_of w) (D.sized_of Cas w)
        (cond_all To (is_even (rd_of w) && is_even (rs2_of w)) (D.atomic_as w CasPair Double) Illegal (λ l. absurd l) (λ l. absurd l))
        (select_keyed To (funct3_of w) D.widths (D.atomic_as w Cas) Illegal
        ((λ f l. is_atomic c f (told (funct5_of w) 5 word_ops tt e))
        also (λ f l. let both = even _ l in is_pair c f e (eqb→eq _ 0 both.0) (eqb→eq _ 0 both.1))
        also tt)
        (λ o l. absurd l))
      where
        even : (i : Instr) → T (legal (if_kept (is_even (rd_of w) && is_even (rs2_of w)) i)) → T (is_even (rd_of w)) × T (is_even (rs2_of w))
        even i l =
            and_yes (is_even (rd_of w)) (is_even (rs2_of w))
            (subst T (sym (tested (λ j. T (legal j)) (is_even (rd_of w) && is_even (rs2_of w)) i (λ l. l) l)) tt)

    from_atomic : To (D.atomic_of w)
    unfolding D.atomic_of narrowed
    from_atomic =
        select_keyed To (funct5_of w) D.atomics (D.of w) Illegal
        (from_word _ tt 0 tt also from_word _ tt 1 tt also from_lr also from_word _ tt 3 tt also from_word _ tt 4 tt also from_cas
        also from_word _ tt 8 tt also from_word _ tt 12 tt also from_word _ tt 16 tt also from_word _ tt 20 tt also from_word _ tt 24 tt
        also from_word _ tt 28 tt also tt)
        (λ o l. absurd l)

  sized_at : (a : AtomicOp) (n : ℕ) → funct3_of w ≡ n → Kept (select n D.widths (D.atomic_as w a) Illegal) → Kept (D.sized_of a w)
  unfolding D.sized_of
  sized_at a = keyed D.widths (D.atomic_as w a) (funct3_of w)

  -- W of every operation
  to_word : funct3_of w ≡ 2 → (a : AtomicOp) → Kept (D.sized_of a w)
  unfolding narrowed
  to_word f a = sized_at a 2 f tt

  -- AMOCAS.W and AMOCAS.D
  cas_at : (n : ℕ) → funct3_of w ≡ n → T (ltb n 4) → Kept (select n D.widths (D.atomic_as w Cas) Illegal) → Kept (D.cas_of w)
  unfolding D.cas_of
  cas_at n f t l =
      subst (λ (u : Bool). Kept (cond u (D.cas_pair_of w) (D.sized_of Cas w)))
      (sym (ne_eqb (funct3_of w) 4 (λ e. let h = ltb→lt n 4 t in omega (arith, e, f, h)))) (sized_at Cas n f l)

  to_pair : funct3_of w ≡ 3 → rd_of w % 2 ≡ 0 → rs2_of w % 2 ≡ 0 → Kept (D.cas_of w)
  unfolding narrowed
  to_pair f d s = cas_at 3 f tt (passed (λ j. T (legal j)) (is_even (rd_of w) && is_even (rs2_of w)) _ even tt)
    where
      even : (is_even (rd_of w) && is_even (rs2_of w)) ≡ true
      even = rw (eq-eqb (rd_of w % 2) 0 d, eq-eqb (rs2_of w % 2) 0 s)

  to_lr : funct3_of w ≡ 2 → rs2_of w ≡ 0 → Kept (D.lr_of w)
  unfolding D.lr_of
  to_lr f z = passed Kept (eqb (rs2_of w) 0) (D.sized_of Lr w) (eq-eqb (rs2_of w) 0 z) (to_word f Lr)

  atomic_at_lem : (n : ℕ) → funct5_of w ≡ n → Kept (select n D.atomics (D.of w) Illegal) → Kept (D.atomic_of w)
  unfolding D.atomic_of
  atomic_at_lem = keyed D.atomics (D.of w) (funct5_of w)

  to_atomic : funct3_of w ≡ 2 → funct5_of w one_of word_ops → Kept (D.atomic_of w)
  unfolding D.atomic_of narrowed
  to_atomic f o =
      each_of (λ n. Kept (select n D.atomics (D.of w) Illegal)) (funct5_of w) word_ops
      (to_word f _ also to_word f _ also to_word f _ also to_word f _ also cas_at 2 f tt tt also to_word f _ also to_word f _
      also to_word f _ also to_word f _ also to_word f _ also to_word f _ also tt)
      o

  -- ---- every word

  from_decode : To (decode_of w)
  unfolding decode_of D.op_imm32_of D.shift32_of D.op32_of narrowed
  from_decode = go (D.class_of w) refl
    where
      go : (class : Option Class) → D.class_of w ≡ class → To (D.in_class class w)
      go None c l = absurd l
      go (Some C.Load) c l = is_load c (load_exact.only l)
      go (Some C.MiscMem) c l = is_fence c (fence_exact.0 l)
      go (Some C.OpImm) c l = from_op_imm c l
      go (Some C.Auipc) c l = is_auipc c
      go (Some C.OpImm32) c l =
          cond_all To (eqb (funct3_of w) 0) _ (D.shift32_of w) (λ l. absurd l)
          (select_all To (key (funct7_of w) (funct3_of w)) D.shifts32 (D.shift32_as w) Illegal (λ a l. absurd l) (λ l. absurd l)) l
      go (Some C.Store) c l = is_store c (store_exact.only l)
      go (Some C.Amo) c l = from_atomic c l
      go (Some C.Op) c l = from_op c l
      go (Some C.Lui) c l = is_lui c
      go (Some C.Op32) c l =
          select_all To (key (funct7_of w) (funct3_of w)) D.ops32 (D.op32_as w) Illegal (λ a l. absurd l) (λ l. absurd l) l
      go (Some C.Branch) c l = is_branch c (branch_exact.only l)
      go (Some C.Jalr) c l = is_jalr c (jalr_exact.0 l)
      go (Some C.Jal) c l = is_jal c
      go (Some C.System) c l = is_system (system_exact.only l)

  system_class : w one_of (0x00000073 ∷ 0x00100073 ∷ []) → D.class_of w ≡ Some C.System
  unfolding D.class_of
  system_class o = each_of (λ n. D.class_of n ≡ Some C.System) w (0x00000073 ∷ 0x00100073 ∷ []) (refl also refl also tt) o

  class_at_lem : (class : Class) → D.class_of w ≡ Some class → Kept (D.in_class (Some class) w) → Kept (decode_of w)
  unfolding decode_of
  class_at_lem class e l = subst (λ (c : Option Class). Kept (D.in_class c w)) (sym e) l

  to_decode : Legal32 w → Kept (decode_of w)
  unfolding narrowed
  to_decode (is_load c o) = class_at_lem C.Load c (load_exact.each o)
  to_decode (is_fence c z) = class_at_lem C.MiscMem c (fence_exact.1 z)
  to_decode (is_op_imm c o) = class_at_lem C.OpImm c (to_op_imm o)
  to_decode (is_shift_left c f z) = class_at_lem C.OpImm c (op_imm_at 1 f (to_left f z))
  to_decode (is_shift_right c f o) = class_at_lem C.OpImm c (op_imm_at 5 f (to_right f o))
  to_decode (is_auipc c) = class_at_lem C.Auipc c tt
  to_decode (is_store c o) = class_at_lem C.Store c (store_exact.each o)
  to_decode (is_atomic c f o) = class_at_lem C.Amo c (to_atomic f o)
  to_decode (is_lr c f e z) = class_at_lem C.Amo c (atomic_at_lem 2 e (to_lr f z))
  to_decode (is_pair c f e d s) = class_at_lem C.Amo c (atomic_at_lem 5 e (to_pair f d s))
  to_decode (is_op c z) = class_at_lem C.Op c (to_op 0 all_three z (tt also tt also tt also tt also tt also tt also tt also tt also tt) three_bits)
  to_decode (is_sub_or_sra c z o) = class_at_lem C.Op c (to_op 0x20 (0 ∷ 5 ∷ []) z (tt also tt also tt) o)
  to_decode (is_lui c) = class_at_lem C.Lui c tt
  to_decode (is_branch c o) = class_at_lem C.Branch c (branch_exact.each o)
  to_decode (is_jalr c z) = class_at_lem C.Jalr c (jalr_exact.1 z)
  to_decode (is_jal c) = class_at_lem C.Jal c tt
  to_decode (is_system o) = class_at_lem C.System (system_class o) (system_exact.each o)

-- a word is legal exactly if a line of Legal32 has it
pub legal_32 : (w : ℕ) → (decode_at 32 w ≢ Illegal) ↔ Legal32 w
unfolding decode_at
legal_32 w = (λ h. from_decode w (ne_legal (narrowed (decode_of w)) h), λ h. legal_ne (narrowed (decode_of w)) (to_decode w h))

-- ---- and what it is

-- AMOCAS.D, as it is at 64 bits
abbrev cas_double : Instr → Bool
cas_double (Amo a) = is_double a.width && is_cas a.op
cas_double Illegal = false
cas_double (Lui rd imm) = false
cas_double (Auipc rd imm) = false
cas_double (Jal rd imm) = false
cas_double (Jalr rd rs1 imm) = false
cas_double (Branch op rs1 rs2 imm) = false
cas_double (Load op rd rs1 imm) = false
cas_double (Store op rs1 rs2 imm) = false
cas_double (OpImm op rd rs1 imm) = false
cas_double (OpImm32 op rd rs1 imm) = false
cas_double (Op op rd rs1 rs2) = false
cas_double (Op32 op rd rs1 rs2) = false
cas_double (Fence rd rs1 imm) = false
cas_double Ecall = false
cas_double Ebreak = false

-- a legal word is no AMOCAS.D and what it is at 64 bits, or an AMOCAS.D: at 64 bits of doublewords, at 32 of pairs of words, with the word's own registers
-- and ordering bits
pub same_32 : (w : ℕ) → decode_at 32 w ≢ Illegal
    → ((decode_of w ≢ D.atomic_as w Cas Double) × (decode_at 32 w ≡ decode_of w))
    ⊎ ((decode_of w ≡ D.atomic_as w Cas Double) × (decode_at 32 w ≡ D.atomic_as w CasPair Word))
unfolding decode_at narrowed
same_32 w h =
    decoded As w (λ l. absurd l) (as_was refl) (as_was refl) (as_was refl) (as_was refl) (as_was refl) (as_was refl) (as_was refl) (λ a. as_was refl)
    (λ a. if_kept_lem (kept_load a) _ refl) (λ a. if_kept_lem (kept_store a) _ refl) (λ a. if_kept_lem (kept_imm a (imm_i w)) _ refl)
    (λ a. if_kept_lem (kept_imm a (bits 25 20 w)) _ refl)
    (λ l. absurd l) (λ a l. absurd l) (λ a. as_was refl) (λ a l. absurd l)
    (sized Lr (λ l. absurd l)) (sized Sc (λ l. absurd l)) (sized Cas as_pair_lem) (λ d s l. absurd l) (λ a. sized (Rmw a) (λ l. absurd l))
    (ne_legal (narrowed (decode_of w)) h)
  where
    As : Instr → Type 0
    As i =
        Kept i
        → ((i ≢ D.atomic_as w Cas Double) × (narrowed i ≡ i)) ⊎ ((i ≡ D.atomic_as w Cas Double) × (narrowed i ≡ D.atomic_as w CasPair Word))

    other : {i : Instr} → cas_double i ≡ false → i ≢ D.atomic_as w Cas Double
    other f e = contrary (ap cas_double e) f

    as_was : {A B : Type 0} {i : Instr} → cas_double i ≡ false → A → ((i ≢ D.atomic_as w Cas Double) × (i ≡ i)) ⊎ B
    as_was f l = inl (other f, refl)

    if_kept_lem : {B : Type 0} (t : Bool) (i : Instr) → cas_double i ≡ false → T (legal (if_kept t i))
        → ((i ≢ D.atomic_as w Cas Double) × (if_kept t i ≡ i)) ⊎ B
    if_kept_lem true i f l = inl (other f, refl)
    if_kept_lem false i f l = absurd l

    sized : (a : AtomicOp) → As (D.atomic_as w a Double) → (width : Width) → As (D.atomic_as w a width)
    sized a double Word = as_was refl
    sized a double Double = double

    as_pair_lem : As (D.atomic_as w Cas Double)
    as_pair_lem l = go (is_even (rd_of w) && is_even (rs2_of w)) l
      where
        go : (t : Bool) → T (legal (if_kept t (D.atomic_as w CasPair Word)))
            → ((D.atomic_as w Cas Double ≢ D.atomic_as w Cas Double) × (if_kept t (D.atomic_as w CasPair Word) ≡ D.atomic_as w Cas Double))
            ⊎ ((D.atomic_as w Cas Double ≡ D.atomic_as w Cas Double) × (if_kept t (D.atomic_as w CasPair Word) ≡ D.atomic_as w CasPair Word))
        go true l = inr (refl, refl)
        go false l = absurd l
