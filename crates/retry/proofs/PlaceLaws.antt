-- At a place of a block that starts with an LR, the tests of the definition say what the reasons say. Assumes nothing.
use Rattle.std.proofs.Common.{◌≡◌, ℕ, zero, suc, ◌+◌, ◌*◌, ◌%◌, ◌^◌, ◌<◌, ◌≤◌, Bool, true, false, not, ◌&&◌, ◌||◌, eqb, ltb}
use Rattle.std.proofs.Common.{◌⊎◌, List, length, get_or, sym, refl, ap, ◌∙◌, subst, inl, inr, ⊎_elim, arith, ◌≢◌, ltb-false, ltb-true, lt-ltb, eqb-true}
use borrow.Author.Tests.{eqb-false, not-true, not-false}
use Rattle.std.specs.Bool.{Decides}
use Rattle.std.proofs.lemmas.Bool.{and_from, or_parts, or_right, not_from_false}
use Rattle.std.proofs.lemmas.Bool.Decides.{Decides-eqb, Decides-ltb, Decides-not, Decides-and, Decides-or, not_from_Decides}
use Rattle.word.proofs.TestLaws.{bool_cases, contrary, and_both, or_either}
use Rattle.settings.specs.Settings.{xlen_of}
use Rattle.settings.specs.declared.Settings.{Settings}
use Rattle.isa.specs.Width.{bytes_of}
use Rattle.isa.specs.Narrow.{decode_at}
use Rattle.isa.specs.declared.Atomic.{Atomic}
use Rattle.isa.specs.declared.AtomicOp.TheVariants as A
use Rattle.isa.specs.declared.Instr.{Instr}
use Rattle.isa.specs.declared.Instr.TheVariants as I
use Rattle.retry.specs.declared.View.{View}
use Rattle.retry.specs.declared.View.TheVariants.{Lr, Sc, Plain, Jump, Branch, Other}
use Rattle.retry.specs.Loop.{view_of, view_at, is_sc, past_sc, is_above, wrong_offset, clobbers, reason2, reason3, reason4, reason5}
use Rattle.retry.specs.Reasons.{Stands, LrAt, ScAt, AnSc, FirstSc, BeforeSc, AfterSc}
use Rattle.retry.specs.Reasons.{Permitted, NotPermitted, LeadsBy, Above, ToStart, BadOffset, HasRd, Overwrites, OtherSc}
use Rattle.retry.proofs.ViewLaws.{Seen, SeenSc, seen, lr_view, sc_view, RdSeen, rd_seen, Body, permitted_body, body_permitted, widths_same}

-- ---- tests

pub and_second : (s t : Bool) → (s && t) ≡ false → s ≡ true → t ≡ false
and_second s t e h = rw h at e

pub is_above_decides : (offset : ℕ) → Decides (is_above offset) (Above offset)
is_above_decides offset = Decides-and _ _ (Decides-ltb 0 offset) (Decides-ltb offset (2 ^ 63))

-- the offset is wrong, where After says that the first SC stands before
pub wrong_decides : {After : Type 0} (past : Bool) (place offset : ℕ) → Decides past After
    → Decides (wrong_offset past place offset) ((offset % 4 ≢ 0) ⊎ ((Above offset → ⊥) × (After × ToStart place offset → ⊥)))
unfolding wrong_offset
wrong_decides past place offset after =
    Decides-or _ _ (Decides-not _ (Decides-eqb (offset % 4) 0))
    (Decides-and _ _ (Decides-not _ (is_above_decides offset))
    (Decides-not _ (Decides-and _ _ after (Decides-eqb ((4 * place + offset) % 2 ^ 64) 0))))

pub clobbers_decides : (rs1 rd : ℕ) → Decides (clobbers rs1 rd) ((rd ≡ rs1) × (rs1 ≢ 0))
unfolding clobbers
clobbers_decides rs1 rd = Decides-and _ _ (Decides-eqb rd rs1) (Decides-not _ (Decides-eqb rs1 0))

-- ---- the first SC

seen_sc : (i : Instr) (v : View) → Seen i v → is_sc v ≡ true → (a : Atomic) × (i ≡ I.Amo a) × (a.op ≡ A.Sc)
seen_sc i (Lr rd rs1 width) s t = contrary t refl
seen_sc i (Sc rs1 width) s t = (s.of, s.is, s.kind)
seen_sc i (Plain rd) s t = contrary t refl
seen_sc i (Jump rd offset) s t = contrary t refl
seen_sc i (Branch offset) s t = contrary t refl
seen_sc i Other s t = contrary t refl

module _ (settings : Settings) (ws : List ℕ) where
  abbrev xlen : ℕ
  xlen = xlen_of settings

  abbrev word : ℕ → Instr
  word p = decode_at xlen (get_or ws p 0)

  pub sc_is : (p : ℕ) → AnSc xlen ws p → is_sc (view_at settings ws p) ≡ true
  sc_is p s =
      ap (λ (i : Instr). is_sc (view_of settings i)) s.1.0.decodes ∙ ap is_sc (sc_view settings s.0 s.1.1)

  pub is_sc_lem : (p : ℕ) → p < length ws → is_sc (view_at settings ws p) ≡ true → AnSc xlen ws p
  is_sc_lem p h t =
      let s = seen_sc (word p) (view_of settings (word p)) (seen settings (word p)) t in
      (s.0, (record { in_block = h; decodes = s.1 }, s.2))

  pub past_none : (p : ℕ) → past_sc settings ws p ≡ false → (k : ℕ) → k < p → AnSc xlen ws k → ⊥
  unfolding past_sc
  past_none zero t k h s = omega arith
  past_none (suc p) t k h s =
      bool_cases (ltb k p) (λ l. past_none p (or_parts (past_sc settings ws p) (is_sc (view_at settings ws p)) t).0 k (ltb-true k p l) s)
      (λ l.
      let e : k ≡ p = omega (arith, ltb-false k p l) in
      contrary (sc_is p (subst (λ (n : ℕ). AnSc xlen ws n) e s)) (or_parts (past_sc settings ws p) (is_sc (view_at settings ws p)) t).1)

  pub past_first : (p : ℕ) → p ≤ length ws → past_sc settings ws p ≡ true → AfterSc xlen ws p
  unfolding past_sc
  past_first zero l t = contrary t refl
  past_first (suc p) l t =
      bool_cases (past_sc settings ws p)
      (λ q. let f = past_first p (omega arith) q in (f.0, f.1, omega (arith, f.2)))
      (λ q. (p, (is_sc_lem p l (last (past_sc settings ws p) (is_sc (view_at settings ws p)) q t), past_none p q), omega arith))
    where
      last : (a b : Bool) → a ≡ false → (a || b) ≡ true → b ≡ true
      last true b e f = contrary refl e
      last false b e f = f

  -- a first SC has none before it
  pub first_past : (p : ℕ) → p ≤ length ws → FirstSc xlen ws p → past_sc settings ws p ≡ false
  first_past p l f =
      bool_cases (past_sc settings ws p) (λ t. let s = past_first p l t in absurd (f.1 s.0 s.2 s.1.0)) (λ t. t)

  pub after_past : (p : ℕ) → AfterSc xlen ws p → past_sc settings ws p ≡ true
  after_past p s =
      bool_cases (past_sc settings ws p) (λ t. t) (λ t. absurd (past_none p t s.0 s.2 s.1.0))

  pub before_past : (p : ℕ) → p ≤ length ws → BeforeSc xlen ws p → past_sc settings ws p ≡ false
  before_past p l b =
      bool_cases (past_sc settings ws p) (λ t. let s = past_first p l t in absurd (omega (arith, b s.0 s.1, s.2))) (λ t. t)

  -- a place that is no SC and has none before it stands before the first SC
  pub past_before : (p : ℕ) → past_sc settings ws p ≡ false → is_sc (view_at settings ws p) ≡ false → BeforeSc xlen ws p
  past_before p t n first f =
      bool_cases (ltb p first) (λ l. ltb-true p first l)
      (λ l.
      bool_cases (ltb first p) (λ m. absurd (past_none p t first (ltb-true first p m) f.0))
      (λ m.
      let e : first ≡ p = omega (arith, ltb-false p first l, ltb-false first p m) in
      contrary (sc_is p (subst (λ (k : ℕ). AnSc xlen ws k) e f.0)) n))

  -- an SC is not before the first SC
  pub sc_late : (p : ℕ) → p < length ws → is_sc (view_at settings ws p) ≡ true → BeforeSc xlen ws p → ⊥
  unfolding past_sc
  sc_late p l t b =
      let s = past_first (suc p) l (or_right (past_sc settings ws p) (is_sc (view_at settings ws p)) t) in omega (arith, b s.0 s.1, s.2)

  -- ---- the reasons at a place

  module _ (p : ℕ) (l : p < length ws) where
    abbrev past : Bool
    past = past_sc settings ws p

    abbrev stands : (i : Instr) → word p ≡ i → Stands xlen ws p i
    stands i e = record { in_block = l; decodes = e }

    body : (v : View) → view_at settings ws p ≡ v → Permitted settings (get_or ws p 0) → Body v
    body v q h = subst Body q (permitted_body settings (get_or ws p 0) h)

    no_first : (v : View) → view_at settings ws p ≡ v → is_sc v ≡ false → FirstSc xlen ws p → ⊥
    no_first v q n f = contrary (sc_is p f.0) (ap is_sc q ∙ n)

    pub two_true : (v : View) → view_at settings ws p ≡ v → reason2 past p v ≡ true → NotPermitted settings ws p
    two_true (Lr rd s u) q t = (ltb-true 0 p t, l, no_first (Lr rd s u) q refl, body (Lr rd s u) q)
    two_true (Sc s u) q t =
        let b = and_both (ltb 0 p) past t in
        (ltb-true 0 p b.0, l, (λ f. contrary b.1 (first_past p (omega arith) f)), body (Sc s u) q)
    two_true (Plain rd) q t = contrary t refl
    two_true (Jump rd off) q t = contrary t refl
    two_true (Branch off) q t = contrary t refl
    two_true Other q t = (ltb-true 0 p t, l, no_first Other q refl, body Other q)

    allowed : (v : View) → view_at settings ws p ≡ v → Body v → NotPermitted settings ws p → ⊥
    allowed v q b n = n.3 (body_permitted settings (get_or ws p 0) (subst Body (sym q) b))

    pub two_false : (v : View) → view_at settings ws p ≡ v → reason2 past p v ≡ false → NotPermitted settings ws p → ⊥
    two_false (Lr rd s u) q t n = contrary (lt-ltb 0 p n.0) t
    two_false (Sc s u) q t n =
        n.2 (is_sc_lem p l (ap is_sc q), past_none p (and_second (ltb 0 p) past t (lt-ltb 0 p n.0)))
    two_false (Plain rd) q t n = allowed (Plain rd) q tt n
    two_false (Jump rd off) q t n = allowed (Jump rd off) q tt n
    two_false (Branch off) q t n = allowed (Branch off) q tt n
    two_false Other q t n = contrary (lt-ltb 0 p n.0) t

    bad_decides : (offset : ℕ) → Decides (wrong_offset past p offset) ((offset % 4 ≢ 0) ⊎ ((Above offset → ⊥) × (AfterSc xlen ws p × ToStart p offset → ⊥)))
    bad_decides offset = wrong_decides past p offset (past_first p (omega arith), after_past p)

    pub three_true : (v : View) → view_at settings ws p ≡ v → reason3 past p v ≡ true → BadOffset xlen ws p
    three_true (Lr rd s u) q t = contrary t refl
    three_true (Sc s u) q t = contrary t refl
    three_true (Plain rd) q t = contrary t refl
    three_true (Jump rd off) q t =
        let e : Seen (word p) (Jump rd off) = subst (Seen (word p)) q (seen settings (word p)) in
        (off, inl (rd, stands (I.Jal rd off) e), (bad_decides off).0 t)
    three_true (Branch off) q t =
        let e : Seen (word p) (Branch off) = subst (Seen (word p)) q (seen settings (word p)) in
        (off, inr (e.0, e.1, e.2, stands (I.Branch e.0 e.1 e.2 off) e.3), (bad_decides off).0 t)
    three_true Other q t = contrary t refl

    leads : (offset : ℕ) → LeadsBy xlen ws p offset → reason3 past p (view_at settings ws p) ≡ wrong_offset past p offset
    unfolding view_of
    leads offset (inl j) = ap (λ (i : Instr). reason3 past p (view_of settings i)) j.1.decodes
    leads offset (inr b) = ap (λ (i : Instr). reason3 past p (view_of settings i)) b.3.decodes

    pub three_false : reason3 past p (view_at settings ws p) ≡ false → BadOffset xlen ws p → ⊥
    three_false t b = not_from_Decides _ (bad_decides b.0) (sym (leads b.0 b.1) ∙ t) b.2

    -- ---- with the LR at place 0

    module _ (lr : Atomic) (first : LrAt xlen ws 0 lr) where
      abbrev rs1 : ℕ
      rs1 = lr.rs1

      abbrev width : ℕ
      width = bytes_of lr.width

      same_lr : (a : Atomic) → LrAt xlen ws 0 a → a ≡ lr
      same_lr a s = let e : I.Amo a ≡ I.Amo lr = sym s.0.decodes ∙ first.0.decodes in cc

      -- what stands at place 0
      pub at_start : p ≡ 0 → view_at settings ws p ≡ Lr lr.rd rs1 width
      at_start e =
          ap (λ (n : ℕ). view_at settings ws n) e ∙ ap (view_of settings) first.0.decodes ∙ lr_view settings lr first.1

      writes : (v : View) → view_at settings ws p ≡ v → is_sc v ≡ false → (rd : ℕ) → HasRd (word p) rd → (not past && clobbers rs1 rd) ≡ true
          → Overwrites xlen ws p
      writes v q n rd h t =
          let s = and_both (not past) (clobbers rs1 rd) t in
          let c = (clobbers_decides rs1 rd).0 s.1 in
          (lr, word p, first, inr (past_before p (not-true past s.0) (ap is_sc q ∙ n)), stands (word p) refl, subst (HasRd (word p)) c.0 h, c.1)

      pub four_true : (v : View) → view_at settings ws p ≡ v → reason4 rs1 past v ≡ true → Overwrites xlen ws p
      four_true (Lr rd s u) q t =
          let e : Seen (word p) (Lr rd s u) = subst (Seen (word p)) q (seen settings (word p)) in
          writes (Lr rd s u) q refl rd (subst (λ (i : Instr). HasRd i rd) (sym e.is) e.rd_is) t
      four_true (Sc s u) q t = contrary t refl
      four_true (Plain rd) q t = writes (Plain rd) q refl rd (subst (Seen (word p)) q (seen settings (word p))) t
      four_true (Jump rd off) q t =
          let e : Seen (word p) (Jump rd off) = subst (Seen (word p)) q (seen settings (word p)) in
          writes (Jump rd off) q refl rd (subst (λ (i : Instr). HasRd i rd) (sym e) refl) t
      four_true (Branch off) q t = contrary t refl
      four_true Other q t = contrary t refl

      early : (p ≡ 0) ⊎ BeforeSc xlen ws p → past ≡ false
      unfolding past_sc
      early (inl z) = rw z
      early (inr b) = before_past p (omega arith) b

      not_first : (v : View) → view_at settings ws p ≡ v → (Lr lr.rd rs1 width ≡ v → ⊥) → p ≡ 0 → ⊥
      not_first v q n z = n (sym (at_start z) ∙ q)

      caught : (rd : ℕ) → past ≡ false → rd ≡ rs1 → (rs1 ≡ 0 → ⊥) → (not past && clobbers rs1 rd) ≡ false → ⊥
      caught rd e h n t = contrary (and_from (not past) (clobbers rs1 rd) (not_from_false past e) ((clobbers_decides rs1 rd).1 (h, n))) t

      overwritten : (v : View) → view_at settings ws p ≡ v → reason2 past p v ≡ false → reason4 rs1 past v ≡ false
          → (p ≡ 0) ⊎ BeforeSc xlen ws p → RdSeen v rs1 → (rs1 ≡ 0 → ⊥) → ⊥
      overwritten (Lr rd s u) q t f b h n = caught rd (early b) h n f
      overwritten (Sc s u) q t f (inl z) h n = not_first (Sc s u) q (λ e. cc) z
      overwritten (Sc s u) q t f (inr b) h n = sc_late p l (ap is_sc q) b
      overwritten (Plain rd) q t f b h n = caught rd (early b) h n f
      overwritten (Jump rd off) q t f b h n = caught rd (early b) h n f
      overwritten (Branch off) q t f b h n = h
      overwritten Other q t f b h n =
          not_first Other q (λ e. cc) (omega (arith, ltb-false 0 p t))

      pub four_false : (v : View) → view_at settings ws p ≡ v → reason2 past p v ≡ false → reason4 rs1 past v ≡ false → Overwrites xlen ws p → ⊥
      four_false v q t f o =
          let e : o.0.rs1 ≡ rs1 = ap (λ (a : Atomic). a.rs1) (same_lr o.0 o.2) in
          let i : word p ≡ o.1 = o.4.decodes in
          let h : HasRd (word p) rs1 = subst (λ (j : Instr). HasRd j rs1) (sym i) (subst (HasRd o.1) e o.5) in
          overwritten v q t f o.3 (subst (λ (u : View). RdSeen u rs1) q (rd_seen settings (word p) rs1 h)) (λ z. o.6 (e ∙ z))

      pub five_true : (v : View) → view_at settings ws p ≡ v → reason5 rs1 width past v ≡ true → OtherSc xlen ws p
      five_true (Lr rd s u) q t = contrary t refl
      five_true (Sc s u) q t =
          let e : SeenSc (word p) s u = subst (Seen (word p)) q (seen settings (word p)) in
          let b = and_both (not past) (not (eqb u width) || not (eqb s rs1)) t in
          let sc : ScAt xlen ws p e.of = (stands (I.Amo e.of) e.is, e.kind) in (
            lr,
            e.of,
            first,
            ((e.of, sc), past_none p (not-true past b.0)),
            sc,
            ⊎_elim
                (λ (w : not (eqb u width) ≡ true).
                inl (λ z. eqb-false u width (not-true (eqb u width) w) (sym e.width_is ∙ ap bytes_of z)))
                (λ (w : not (eqb s rs1) ≡ true). inr (λ z. eqb-false s rs1 (not-true (eqb s rs1) w) (sym e.rs1_is ∙ z)))
                (or_either (not (eqb u width)) (not (eqb s rs1)) b.1),
          )
      five_true (Plain rd) q t = contrary t refl
      five_true (Jump rd off) q t = contrary t refl
      five_true (Branch off) q t = contrary t refl
      five_true Other q t = contrary t refl

      pub five_false : reason5 rs1 width past (view_at settings ws p) ≡ false → OtherSc xlen ws p → ⊥
      five_false t o =
          let lr_is : o.0 ≡ lr = same_lr o.0 o.2 in
          let sc = o.1 in
          let v : view_at settings ws p ≡ Sc sc.rs1 (bytes_of sc.width) = ap (view_of settings) o.4.0.decodes ∙ sc_view settings sc o.4.1 in
          let fits = eqb (bytes_of sc.width) width in
          let same = eqb sc.rs1 rs1 in
          let f : (not past && (not fits || not same)) ≡ false = sym (ap (reason5 rs1 width past) v) ∙ t in
          let g = and_second (not past) (not fits || not same) f (not_from_false past (first_past p (omega arith) o.3)) in
          ⊎_elim
          (λ (w : sc.width ≡ o.0.width → ⊥).
          w (widths_same sc.width lr.width (eqb-true (bytes_of sc.width) width (not-false fits (or_parts (not fits) (not same) g).0))
          ∙ sym (ap (λ (a : Atomic). a.width) lr_is)))
          (λ (w : sc.rs1 ≡ o.0.rs1 → ⊥).
          w (eqb-true sc.rs1 rs1 (not-false same (or_parts (not fits) (not same) g).1) ∙ sym (ap (λ (a : Atomic). a.rs1) lr_is)))
          o.5
