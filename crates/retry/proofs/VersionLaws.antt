-- The loops of the two versions of A, at one register width: under 2.1 exactly the reasons of 2.0 apply, and reason 2 at each later JALR. So without a JALR
-- 2.0 accepts what 2.1 accepts, and 2.1 accepts no block with one. Assumes nothing.
use Rattle.std.proofs.Common.{◌≡◌, ℕ, Option, Some, ◌<◌, ◌≢◌, ◌⊎◌, ◌↔◌, List, length, get_or, sym, refl, ◌∙◌, subst, inl, inr, ⊎_elim, arith}
use native.Mathlib.Decide.{dec_lt}
use Rattle.settings.specs.Settings.{xlen_of, VersionRules, JalrPermitted, ReadingRules}
use Rattle.settings.specs.declared.Settings.{Settings}
use Rattle.settings.proofs.SettingsLaws.{not_both, kind_xlen, kind_rules}
use Rattle.isa.specs.Decode.{class_of}
use Rattle.isa.specs.declared.class.Class.{Class}
use Rattle.isa.specs.declared.class.Class.TheVariants as C
use Rattle.isa.specs.Narrow.{decode_at}
use Rattle.isa.specs.declared.Instr.{Instr}
use Rattle.isa.specs.declared.Instr.TheVariants as I
use Rattle.retry.specs.declared.LoopAnswer.{LoopAnswer}
use Rattle.retry.specs.declared.LoopAnswer.TheVariants.{Accepted, Rejected, Refused}
use Rattle.retry.specs.Loop.{check_of}
use Rattle.retry.specs.Reasons.{Stands, PermittedClass, is_lui, is_auipc, is_jal, is_branch, is_op, is_op_imm, is_op32, is_op_imm32, is_jalr}
use Rattle.retry.specs.Reasons.{FirstSc, NotLr, Permitted, NotPermitted, BadOffset, Overwrites, OtherSc, NoSc}
use Rattle.retry.specs.Reasons.{Reason, one, two, three, four, five, six, Lowest, RefusedBy, by_setting, by_length}
use Rattle.retry.specs.Versions.{NoJalr, LaterJalr}
use Rattle.retry.proofs.ClassLaws.{InClass, in_class}
use Rattle.retry.proofs.ReasonLaws.{exactly}

-- ---- JALR and its class

abbrev AJalr : Instr → Type 0
AJalr i = (rd : ℕ) × (rs1 : ℕ) × (imm : ℕ) × (i ≡ I.Jalr rd rs1 imm)

-- every instruction is one or isn't
jalr_or_not : (i : Instr) → AJalr i ⊎ (AJalr i → ⊥)
jalr_or_not I.Illegal = inr (λ j. cc j.3)
jalr_or_not (I.Lui rd imm) = inr (λ j. cc j.3)
jalr_or_not (I.Auipc rd imm) = inr (λ j. cc j.3)
jalr_or_not (I.Jal rd imm) = inr (λ j. cc j.3)
jalr_or_not (I.Jalr rd rs1 imm) = inl (rd, rs1, imm, refl)
jalr_or_not (I.Branch op rs1 rs2 imm) = inr (λ j. cc j.3)
jalr_or_not (I.Load op rd rs1 imm) = inr (λ j. cc j.3)
jalr_or_not (I.Store op rs1 rs2 imm) = inr (λ j. cc j.3)
jalr_or_not (I.OpImm op rd rs1 imm) = inr (λ j. cc j.3)
jalr_or_not (I.OpImm32 op rd rs1 imm) = inr (λ j. cc j.3)
jalr_or_not (I.Op op rd rs1 rs2) = inr (λ j. cc j.3)
jalr_or_not (I.Op32 op rd rs1 rs2) = inr (λ j. cc j.3)
jalr_or_not (I.Fence rd rs1 imm) = inr (λ j. cc j.3)
jalr_or_not I.Ecall = inr (λ j. cc j.3)
jalr_or_not I.Ebreak = inr (λ j. cc j.3)
jalr_or_not (I.Amo a) = inr (λ j. cc j.3)

-- a legal word of that class is a JALR
jalr_of_lem : (c : Option Class) (i : Instr) → InClass c i → c ≡ Some C.Jalr → i ≢ I.Illegal → AJalr i
jalr_of_lem c I.Illegal e q n = absurd (n refl)
jalr_of_lem c (I.Lui rd imm) e q n = cc
jalr_of_lem c (I.Auipc rd imm) e q n = cc
jalr_of_lem c (I.Jal rd imm) e q n = cc
jalr_of_lem c (I.Jalr rd rs1 imm) e q n = (rd, rs1, imm, refl)
jalr_of_lem c (I.Branch op rs1 rs2 imm) e q n = cc
jalr_of_lem c (I.Load op rd rs1 imm) e q n = cc
jalr_of_lem c (I.Store op rs1 rs2 imm) e q n = cc
jalr_of_lem c (I.OpImm op rd rs1 imm) e q n = cc
jalr_of_lem c (I.OpImm32 op rd rs1 imm) e q n = cc
jalr_of_lem c (I.Op op rd rs1 rs2) e q n = cc
jalr_of_lem c (I.Op32 op rd rs1 rs2) e q n = cc
jalr_of_lem c (I.Fence rd rs1 imm) e q n = cc
jalr_of_lem c I.Ecall e q n = cc
jalr_of_lem c I.Ebreak e q n = cc
jalr_of_lem c (I.Amo a) e q n = cc

-- and only its words are
jalr_class : (xlen w rd rs1 imm : ℕ) → decode_at xlen w ≡ I.Jalr rd rs1 imm → class_of w ≡ Some C.Jalr
jalr_class xlen w rd rs1 imm e = subst (InClass (class_of w)) e (in_class xlen w)

-- where JALR isn't permitted, its class is none of the permitted ones
other_class : (s : Settings) (c : Option Class) → (JalrPermitted s → ⊥) → c ≡ Some C.Jalr → PermittedClass s c → ⊥
other_class s c n q (is_lui e) = cc
other_class s c n q (is_auipc e) = cc
other_class s c n q (is_jal e) = cc
other_class s c n q (is_branch e) = cc
other_class s c n q (is_op e) = cc
other_class s c n q (is_op_imm e) = cc
other_class s c n q (is_op32 e) = cc
other_class s c n q (is_op_imm32 e) = cc
other_class s c n q (is_jalr p e) = n p

-- a class that s permits t permits too, JALR's if it does
class_by : (s t : Settings) (c : Option Class) → (JalrPermitted s → c ≡ Some C.Jalr → PermittedClass t c) → PermittedClass s c → PermittedClass t c
class_by s t c j (is_lui e) = is_lui e
class_by s t c j (is_auipc e) = is_auipc e
class_by s t c j (is_jal e) = is_jal e
class_by s t c j (is_branch e) = is_branch e
class_by s t c j (is_op e) = is_op e
class_by s t c j (is_op_imm e) = is_op_imm e
class_by s t c j (is_op32 e) = is_op32 e
class_by s t c j (is_op_imm32 e) = is_op_imm32 e
class_by s t c j (is_jalr p e) = j p e

-- and so a word, if both have one width
permitted_by : (s t : Settings) → xlen_of s ≡ xlen_of t → (w : ℕ) → (JalrPermitted s → class_of w ≡ Some C.Jalr → PermittedClass t (class_of w))
    → Permitted s w → Permitted t w
permitted_by s t same w j p = (class_by s t (class_of w) j p.0, subst (λ (n : ℕ). decode_at n w ≢ I.Illegal) same p.1)

-- ---- reasons under one version and under another

module _ (ws : List ℕ) where
  -- the words of the block that s permits t permits too
  abbrev Permits : Settings → Settings → Type 0
  Permits s t = (place : ℕ) → place < length ws → Permitted s (get_or ws place 0) → Permitted t (get_or ws place 0)

  -- only reason 2 asks what is permitted: the others are the same under settings of one width
  carried : (s t : Settings) → xlen_of t ≡ xlen_of s → (place reason : ℕ) → Reason t ws place reason
      → Reason s ws place reason ⊎ ((reason ≡ 2) × NotPermitted t ws place)
  carried s t same place reason (one q x) = inl (one q (subst (λ (n : ℕ). NotLr n ws place) same x))
  carried s t same place reason (two q x) = inr (q, x)
  carried s t same place reason (three q x) = inl (three q (subst (λ (n : ℕ). BadOffset n ws place) same x))
  carried s t same place reason (four q x) = inl (four q (subst (λ (n : ℕ). Overwrites n ws place) same x))
  carried s t same place reason (five q x) = inl (five q (subst (λ (n : ℕ). OtherSc n ws place) same x))
  carried s t same place reason (six q x) = inl (six q (subst (λ (n : ℕ). NoSc n ws place) same x))

  two_by : (s t : Settings) → xlen_of t ≡ xlen_of s → (place : ℕ) → (Permitted s (get_or ws place 0) → Permitted t (get_or ws place 0))
      → NotPermitted t ws place → NotPermitted s ws place
  two_by s t same place f x = (x.0, x.1, subst (λ (n : ℕ). FirstSc n ws place → ⊥) same x.2, λ p. x.3 (f p))

  reason_by : (s t : Settings) → xlen_of t ≡ xlen_of s → Permits s t → (place reason : ℕ) → Reason t ws place reason → Reason s ws place reason
  reason_by s t same f place reason r =
      ⊎_elim (λ r. r) (λ (x : (reason ≡ 2) × NotPermitted t ws place). two x.0 (two_by s t same place (f place x.1.1) x.1))
      (carried s t same place reason r)

  -- ---- two settings that permit the same

  module _ (s t : Settings) (same : xlen_of s ≡ xlen_of t) (rules : ReadingRules s → ReadingRules t) (back : ReadingRules t → ReadingRules s)
      (f : Permits s t) (g : Permits t s) where
    lowest_by : (place reason : ℕ) → Lowest s ws place reason → Lowest t ws place reason
    lowest_by place reason l =
        record {
          applies = reason_by t s same g place reason l.applies;
          lowest_place = λ p r h q. l.lowest_place p r h (reason_by s t (sym same) f p r q);
          lowest_reason = λ r h q. l.lowest_reason r h (reason_by s t (sym same) f place r q);
        }

    refused_by : (number : ℕ) → RefusedBy s ws number → RefusedBy t ws number
    refused_by number (by_setting q n) = by_setting q (λ v. n (back v))
    refused_by number (by_length q v u) = by_length q (rules v) u

    answered : (answer : LoopAnswer) → check_of s ws ≡ answer → check_of t ws ≡ answer
    answered Accepted q =
        let x = (exactly s ws).accepts.0 q in
        (exactly t ws).accepts.1 (rules x.0, x.1, λ p r h. x.2 p r (reason_by s t (sym same) f p r h))
    answered (Rejected place reason) q =
        let x = ((exactly s ws).rejects place reason).0 q in
        ((exactly t ws).rejects place reason).1 (rules x.0, x.1, lowest_by place reason x.2)
    answered (Refused number) q = ((exactly t ws).refuses number).1 (refused_by number (((exactly s ws).refuses number).0 q))

  -- of settings only the kind and the version are looked at: those of one kind and one version give every block the same answer
  pub checked_same : (s t : Settings) → s.kind ≡ t.kind → s.version ≡ t.version → check_of s ws ≡ check_of t ws
  checked_same s t k e =
      let same = kind_xlen s t k in
      sym (answered s t same (rules s t k e) (rules t s (sym k) (sym e)) (permits s t same e) (permits t s (sym same) (sym e)) (check_of s ws) refl)
    where
      rules : (s t : Settings) → s.kind ≡ t.kind → s.version ≡ t.version → ReadingRules s → ReadingRules t
      rules s t k e r =
          (⊎_elim (λ (q : s.version ≡ 20). inl (sym e ∙ q)) (λ (q : s.version ≡ 21). inr (sym e ∙ q)) r.0, kind_rules s t k r.1)

      permits : (s t : Settings) → xlen_of s ≡ xlen_of t → s.version ≡ t.version → Permits s t
      permits s t same e place l p = permitted_by s t same _ (λ j q. is_jalr (sym e ∙ j) q) p

  -- ---- 2.0 and 2.1

  module _ (s t : Settings) (kinds : s.kind ≡ t.kind) (a : s.version ≡ 20) (b : t.version ≡ 21) where
    abbrev xlen : ℕ
    xlen = xlen_of s

    same : xlen_of s ≡ xlen_of t
    same = kind_xlen s t kinds

    not_20 : JalrPermitted t → ⊥
    not_20 p = not_both t b p

    -- what 2.1 permits 2.0 permits
    more : Permits t s
    more place l p = permitted_by t s (sym same) _ (λ j e. absurd (not_20 j)) p

    -- and of a word that is no JALR the other way round
    other_word_lem : (w : ℕ) → (AJalr (decode_at xlen w) → ⊥) → Permitted s w → Permitted t w
    other_word_lem w none p =
        permitted_by s t same w (λ j e. absurd (none (jalr_of_lem (class_of w) (decode_at xlen w) (in_class xlen w) e p.1))) p

    no_more : NoJalr xlen ws → Permits s t
    no_more none place l p =
        other_word_lem (get_or ws place 0) (λ i. none place i.0 i.1 i.2 (record { in_block = l; decodes = i.3 })) p

    -- under 2.1 a later JALR isn't permitted
    jalr_two : (place rd rs1 imm : ℕ) → Stands xlen ws place (I.Jalr rd rs1 imm) → 0 < place → NotPermitted t ws place
    jalr_two place rd rs1 imm st l = (
      l,
      st.in_block,
      (λ f. cc (same, st.decodes, f.0.1.0.decodes)),
      λ p. other_class t _ not_20 (jalr_class xlen (get_or ws place 0) rd rs1 imm st.decodes) p.0,
    )

    -- "All else is the same.", of every block: under 2.1 exactly the reasons of 2.0 apply, and reason 2 at each later JALR
    pub reasons_21 : (place reason : ℕ) → Reason t ws place reason ↔ (Reason s ws place reason ⊎ LaterJalr xlen ws place reason)
    reasons_21 place reason = ((λ r. forth (carried s t (sym same) place reason r) (jalr_or_not (decode_at xlen w))), back)
      where
        w : ℕ
        w = get_or ws place 0

        forth : Reason s ws place reason ⊎ ((reason ≡ 2) × NotPermitted t ws place) → AJalr (decode_at xlen w) ⊎ (AJalr (decode_at xlen w) → ⊥)
            → Reason s ws place reason ⊎ LaterJalr xlen ws place reason
        forth (inl r) i = inl r
        forth (inr x) (inl i) = inr (x.0, x.1.0, i.0, i.1, i.2, record { in_block = x.1.1; decodes = i.3 })
        forth (inr x) (inr n) = inl (two x.0 (two_by s t (sym same) place (other_word_lem w n) x.1))

        back : Reason s ws place reason ⊎ LaterJalr xlen ws place reason → Reason t ws place reason
        back (inl r) = reason_by t s same more place reason r
        back (inr j) = two j.0 (jalr_two place j.2 j.3 j.4 j.5 j.1)

    -- a JALR is a reason under 2.1, at place 0 and at any later one
    jalr_reason : (place rd rs1 imm : ℕ) → Stands xlen ws place (I.Jalr rd rs1 imm) → ((p r : ℕ) → Reason t ws p r → ⊥) → ⊥
    jalr_reason place rd rs1 imm st none = go (dec_lt 0 place)
      where
        go : Dec (0 < place) → ⊥
        go (yes l) = none place 2 (two refl (jalr_two place rd rs1 imm st l))
        go (no l) =
            none 0 1
            (one refl (
              refl,
              λ at x.
                  let start : place ≡ 0 = omega arith in
                  let first = subst (λ (k : ℕ). decode_at xlen (get_or ws k 0) ≡ I.Jalr rd rs1 imm) start st.decodes in
                  cc (same, first, x.0.decodes),
            ))

    -- "All else is the same.": a block without a JALR gets the same answer under both, a place and a reason or a refusal among them
    pub answers_without_jalr : NoJalr xlen ws → check_of s ws ≡ check_of t ws
    answers_without_jalr none =
        sym (answered s t same (λ v. (inr b, kind_rules s t kinds v.1)) (λ v. (inl a, kind_rules t s (sym kinds) v.1)) (no_more none) more
        (check_of s ws) refl)

    -- 02 [7]: "for 2.0 only for loops with no JALR; show that these are exactly the loops that 2.1 accepts"
    pub without_jalr : ((check_of s ws ≡ Accepted) × NoJalr xlen ws) ↔ (check_of t ws ≡ Accepted)
    without_jalr = (
      λ h.
          let x = (exactly s ws).accepts.0 h.0 in
          (exactly t ws).accepts.1 ((inr b, kind_rules s t kinds x.0.1), x.1, λ p r q. x.2 p r (reason_by s t (sym same) (no_more h.1) p r q)),
      λ h.
          let x = (exactly t ws).accepts.0 h in (
            (exactly s ws).accepts.1 ((inl a, kind_rules t s (sym kinds) x.0.1), x.1, λ p r q. x.2 p r (reason_by t s same more p r q)),
            λ place rd rs1 imm st. jalr_reason place rd rs1 imm st x.2,
          ),
    )

  -- the same of a version that is either: a block is accepted under it, and has no JALR where it permits one, exactly if it is accepted under 2.1
  pub accepted_either : (s t : Settings) → s.kind ≡ t.kind → t.version ≡ 21 → VersionRules s
      → ((check_of s ws ≡ Accepted) × (JalrPermitted s → NoJalr (xlen_of s) ws)) ↔ (check_of t ws ≡ Accepted)
  accepted_either s t same d v =
      ⊎_elim
      (λ (a : s.version ≡ 20).
      let both = without_jalr s t same a d in
      (λ h. both.0 (h.0, h.1 a), λ h. let x = both.1 h in (x.0, λ p. x.1)))
      (λ (b : s.version ≡ 21).
      let one = checked_same s t same (b ∙ sym d) in
      (λ h. sym one ∙ h.0, λ h. (one ∙ h, λ p. absurd (not_both s b p))))
      v
