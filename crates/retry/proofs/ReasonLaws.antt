-- The definition's answer is the one that the reasons decide: `exactly`. Assumes nothing.
use Rattle.std.proofs.Common.{◌≡◌, ℕ, zero, suc, ◌+◌, ◌<◌, ◌≤◌, Bool, true, false, cond, ltb, ◌⊎◌, List, length, get_or, sym, refl, ap, ◌∙◌, subst, inl, inr, arith, ltb-false, ltb-true}
use Rattle.word.proofs.TestLaws.{bool_cases, contrary, never}
use Rattle.settings.specs.Settings.{xlen_of, ReadingRules, reading_ok}
use Rattle.settings.specs.declared.Settings.{Settings}
use Rattle.settings.proofs.SettingsLaws.{reading_exact}
use Rattle.isa.specs.Width.{bytes_of}
use Rattle.isa.specs.Narrow.{decode_at}
use Rattle.isa.specs.declared.Atomic.{Atomic}
use Rattle.retry.specs.declared.View.{View}
use Rattle.retry.specs.declared.View.TheVariants.{Lr, Sc, Plain, Jump, Branch, Other}
use Rattle.retry.specs.declared.LoopAnswer.{LoopAnswer}
use Rattle.retry.specs.declared.LoopAnswer.TheVariants.{Accepted, Rejected, Refused}
use Rattle.retry.specs.Loop.{loop_refusal, view_of, view_at, past_sc, reason2, reason3, reason4, reason5, lowest_of, or_else, scan_of, start_of, check_of}
use Rattle.retry.specs.Reasons.{LrAt, NotLr, NotPermitted, BadOffset, LeadsBy, Overwrites, OtherSc, NoSc}
use Rattle.retry.specs.Reasons.{Reason, one, two, three, four, five, six, Unreasoned, Lowest, Sized, RefusedBy, by_setting, by_length, Exactly}
use Rattle.retry.proofs.ViewLaws.{SeenLr, seen, Seen, lr_view}
use Rattle.retry.proofs.PlaceLaws.{past_none, past_first, two_true, two_false, three_true, three_false, four_true, four_false, five_true, five_false}

-- ---- reasons by their numbers

module _ (settings : Settings) (ws : List ℕ) (p : ℕ) where
  abbrev xlen : ℕ
  xlen = xlen_of settings

  below : (n : ℕ) → (1 < n → NotLr xlen ws p → ⊥) → (2 < n → NotPermitted settings ws p → ⊥) → (3 < n → BadOffset xlen ws p → ⊥)
      → (4 < n → Overwrites xlen ws p → ⊥) → (5 < n → OtherSc xlen ws p → ⊥) → (6 < n → NoSc xlen ws p → ⊥)
      → (r : ℕ) → r < n → Reason settings ws p r → ⊥
  below n a b c d e f r l (one q x) = a (omega arith) x
  below n a b c d e f r l (two q x) = b (omega arith) x
  below n a b c d e f r l (three q x) = c (omega arith) x
  below n a b c d e f r l (four q x) = d (omega arith) x
  below n a b c d e f r l (five q x) = e (omega arith) x
  below n a b c d e f r l (six q x) = f (omega arith) x

  numbered : (r : ℕ) → Reason settings ws p r → (1 ≤ r) × (r ≤ 6)
  numbered r (one q x) = (omega arith, omega arith)
  numbered r (two q x) = (omega arith, omega arith)
  numbered r (three q x) = (omega arith, omega arith)
  numbered r (four q x) = (omega arith, omega arith)
  numbered r (five q x) = (omega arith, omega arith)
  numbered r (six q x) = (omega arith, omega arith)

-- the lowest reason at a place, or 0 where there is none
pub data At (settings : Settings) (ws : List ℕ) (p r : ℕ) : Type 0 where
  clear : r ≡ 0 → ((s : ℕ) → Reason settings ws p s → ⊥) → At settings ws p r
  found : (r ≡ 0 → ⊥) → Reason settings ws p r → ((s : ℕ) → s < r → Reason settings ws p s → ⊥) → At settings ws p r

-- what an answer says of the reasons
abbrev Decides : Settings → List ℕ → LoopAnswer → Type 0
Decides settings ws Accepted = Unreasoned settings ws
Decides settings ws (Rejected p r) = Lowest settings ws p r
Decides settings ws (Refused n) = ⊥

leads_in : (xlen : ℕ) (ws : List ℕ) (p offset : ℕ) → LeadsBy xlen ws p offset → p < length ws
leads_in _ ws p offset (inl j) = j.1.in_block
leads_in _ ws p offset (inr b) = b.3.in_block

module _ (settings : Settings) (ws : List ℕ) (lr : Atomic) (first : LrAt (xlen_of settings) ws 0 lr) where
  abbrev rs1 : ℕ
  rs1 = lr.rs1

  abbrev width : ℕ
  width = bytes_of lr.width

  is_lr_lem : (p : ℕ) → NotLr (xlen_of settings) ws p → ⊥
  is_lr_lem p n = n.1 lr first

  module _ (p : ℕ) (l : p < length ws) where
    v : View
    v = view_at settings ws p

    inside : NoSc (xlen_of settings) ws p → ⊥
    inside n = omega (arith, n.0)

    pub at_place : At settings ws p (lowest_of rs1 width (past_sc settings ws p) p (view_at settings ws p))
    unfolding lowest_of v
    at_place = by_two (reason2 past p v) refl
      where
        past : Bool
        past = past_sc settings ws p

        by_five : (t : Bool) → reason5 rs1 width past v ≡ t → reason2 past p v ≡ false → reason3 past p v ≡ false → reason4 rs1 past v ≡ false
            → At settings ws p (cond t 5 0)
        by_five true e a b c =
            found (λ z. omega arith) (five refl (five_true settings ws p l lr first v refl e))
            (below settings ws p 5 (λ h. is_lr_lem p) (λ h. two_false settings ws p l v refl a) (λ h. three_false settings ws p l b)
            (λ h. four_false settings ws p l lr first v refl a c) (never refl) (λ h. inside))
        by_five false e a b c =
            clear refl
            (λ s r.
            below settings ws p 7 (λ h. is_lr_lem p) (λ h. two_false settings ws p l v refl a) (λ h. three_false settings ws p l b)
            (λ h. four_false settings ws p l lr first v refl a c) (λ h. five_false settings ws p l lr first e) (λ h. inside)
            s (omega (arith, (numbered settings ws p s r).1)) r)

        by_four : (t : Bool) → reason4 rs1 past v ≡ t → reason2 past p v ≡ false → reason3 past p v ≡ false
            → At settings ws p (cond t 4 (cond (reason5 rs1 width past v) 5 0))
        by_four true e a b =
            found (λ z. omega arith) (four refl (four_true settings ws p l lr first v refl e))
            (below settings ws p 4 (λ h. is_lr_lem p) (λ h. two_false settings ws p l v refl a) (λ h. three_false settings ws p l b) (never refl) (never refl)
            (λ h. inside))
        by_four false e a b = by_five (reason5 rs1 width past v) refl a b e

        by_three : (t : Bool) → reason3 past p v ≡ t → reason2 past p v ≡ false
            → At settings ws p (cond t 3 (cond (reason4 rs1 past v) 4 (cond (reason5 rs1 width past v) 5 0)))
        by_three true e a =
            found (λ z. omega arith) (three refl (three_true settings ws p l v refl e))
            (below settings ws p 3 (λ h. is_lr_lem p) (λ h. two_false settings ws p l v refl a) (never refl) (never refl) (never refl) (λ h. inside))
        by_three false e a = by_four (reason4 rs1 past v) refl a e

        by_two : (t : Bool) → reason2 past p v ≡ t
            → At settings ws p (cond t 2 (cond (reason3 past p v) 3 (cond (reason4 rs1 past v) 4 (cond (reason5 rs1 width past v) 5 0))))
        by_two true e =
            found (λ z. omega arith) (two refl (two_true settings ws p l v refl e))
            (below settings ws p 2 (λ h. is_lr_lem p) (never refl) (never refl) (never refl) (never refl) (λ h. inside))
        by_two false e = by_three (reason3 past p v) refl e

  -- at the end of the block, and behind it, only reason 6 can apply
  at_end : (p : ℕ) → length ws ≤ p → (r : ℕ) → Reason settings ws p r → (r ≡ 6) × NoSc (xlen_of settings) ws p
  at_end p l r (one q x) = absurd (is_lr_lem p x)
  at_end p l r (two q x) = absurd (omega (arith, x.1))
  at_end p l r (three q x) = absurd (omega (arith, leads_in (xlen_of settings) ws p x.0 x.1))
  at_end p l r (four q x) = absurd (omega (arith, x.4.in_block))
  at_end p l r (five q x) = absurd (omega (arith, x.4.0.in_block))
  at_end p l r (six q x) = (q, x)

  ended : (p : ℕ) (t : Bool) → past_sc settings ws p ≡ t → p ≡ length ws → ((k r : ℕ) → k < p → Reason settings ws k r → ⊥)
      → Decides settings ws (cond t Accepted (Rejected p 6))
  ended p true t e h =
      let s = past_first settings ws p (omega arith) t in
      λ k r q.
      bool_cases (ltb k p) (λ m. h k r (ltb-true k p m) q)
      (λ m. let n = (at_end k (omega (arith, ltb-false k p m)) r q).1 in n.1 s.0 s.1.0)
  ended p false t e h =
      record {
        applies = six refl (e, λ k s. past_none settings ws p t k (omega (arith, s.1.0.in_block)) s);
        lowest_place = h;
        lowest_reason = λ r m q. omega (arith, (at_end p (omega arith) r q).0);
      }

  one_more : (p : ℕ) → ((k r : ℕ) → k < p → Reason settings ws k r → ⊥) → ((r : ℕ) → Reason settings ws p r → ⊥)
      → (k r : ℕ) → k < suc p → Reason settings ws k r → ⊥
  one_more p h f k r m q =
      bool_cases (ltb k p) (λ t. h k r (ltb-true k p t) q)
      (λ t. let e : k ≡ p = omega (arith, ltb-false k p t) in f r (subst (λ (n : ℕ). Reason settings ws n r) e q))

  settles : (p r : ℕ) (rest : LoopAnswer) → At settings ws p r → ((k s : ℕ) → k < p → Reason settings ws k s → ⊥)
      → (((k s : ℕ) → k < suc p → Reason settings ws k s → ⊥) → Decides settings ws rest) → Decides settings ws (or_else p r rest)
  settles p zero rest (clear z f) h go = go (one_more p h f)
  settles p zero rest (found n a b) h go = absurd (n refl)
  settles p (suc r) rest (clear z f) h go = absurd (omega arith)
  settles p (suc r) rest (found n a b) h go = record { applies = a; lowest_place = h; lowest_reason = b }

  scanned : (n p : ℕ) → p + n ≡ length ws → ((k r : ℕ) → k < p → Reason settings ws k r → ⊥) → Decides settings ws (scan_of settings rs1 width ws n p)
  unfolding scan_of
  scanned zero p e h = ended p (past_sc settings ws p) refl (omega arith) h
  scanned (suc n) p e h =
      settles p (lowest_of rs1 width (past_sc settings ws p) p (view_at settings ws p)) (scan_of settings rs1 width ws n (suc p)) (at_place p (omega arith)) h
      (λ more. scanned n (suc p) (omega arith) more)

-- ---- the whole block

lr_at : (settings : Settings) (ws : List ℕ) (rd s u : ℕ) → 0 < length ws → view_at settings ws 0 ≡ Lr rd s u
    → (a : Atomic) × LrAt (xlen_of settings) ws 0 a × (a.rs1 ≡ s) × (bytes_of a.width ≡ u)
lr_at settings ws rd s u l q =
    let i = decode_at (xlen_of settings) (get_or ws 0 0) in
    let e : SeenLr i rd s u = subst (Seen i) q (seen settings i) in
    (e.of, (record { in_block = l; decodes = e.is }, e.kind), e.rs1_is, e.width_is)

lowest_one : (settings : Settings) (ws : List ℕ) → ((a : Atomic) → LrAt (xlen_of settings) ws 0 a → ⊥) → Lowest settings ws 0 1
lowest_one settings ws n =
    record {
      applies = one refl (refl, n);
      lowest_place = λ p r l q. omega arith;
      lowest_reason = λ r l q. omega (arith, (numbered settings ws 0 r q).0);
    }

no_lr_lem : (settings : Settings) (ws : List ℕ) (v : View) → view_at settings ws 0 ≡ v → ((rd s u : ℕ) → v ≡ Lr rd s u → ⊥) → Lowest settings ws 0 1
no_lr_lem settings ws v q n =
    lowest_one settings ws
    (λ a s. n a.rd a.rs1 (bytes_of a.width) (sym q ∙ ap (view_of settings) s.0.decodes ∙ lr_view settings a s.1))

started : (settings : Settings) (ws : List ℕ) (v : View) → view_at settings ws 0 ≡ v → 0 < length ws → Decides settings ws (start_of settings v ws)
unfolding start_of
started settings ws (Lr rd s u) q l =
    let f = lr_at settings ws rd s u l q in
    subst (λ (n : ℕ). Decides settings ws (scan_of settings n u ws (length ws) 0)) f.2
    (subst (λ (n : ℕ). Decides settings ws (scan_of settings f.0.rs1 n ws (length ws) 0)) f.3
    (scanned settings ws f.0 f.1 (length ws) 0 (omega arith) (λ k r h. absurd (omega arith))))
started settings ws (Sc s u) q l = no_lr_lem settings ws (Sc s u) q (λ a b c e. cc)
started settings ws (Plain rd) q l = no_lr_lem settings ws (Plain rd) q (λ a b c e. cc)
started settings ws (Jump rd off) q l = no_lr_lem settings ws (Jump rd off) q (λ a b c e. cc)
started settings ws (Branch off) q l = no_lr_lem settings ws (Branch off) q (λ a b c e. cc)
started settings ws Other q l = no_lr_lem settings ws Other q (λ a b c e. cc)

abbrev Unsized : List ℕ → Type 0
Unsized ws = (length ws < 2) ⊎ (16 < length ws)

-- the answer with what it says
pub data Checked (settings : Settings) (ws : List ℕ) (r : LoopAnswer) : Type 0 where
  judged : ReadingRules settings → Sized ws → Decides settings ws r → Checked settings ws r
  turned : (n : ℕ) → RefusedBy settings ws n → r ≡ Refused n → Checked settings ws r

pub checked : (settings : Settings) (ws : List ℕ) → Checked settings ws (check_of settings ws)
unfolding check_of
checked settings ws = by_setting_lem (reading_ok settings) refl
  where
    long : ReadingRules settings → (t : Bool) → ltb 16 (length ws) ≡ t → 2 ≤ length ws
        → Checked settings ws (cond t (Refused 6) (start_of settings (view_at settings ws 0) ws))
    long v true e h = turned 6 (by_length refl v (inr (ltb-true 16 (length ws) e))) refl
    long v false e h = judged v (h, ltb-false 16 (length ws) e) (started settings ws (view_at settings ws 0) refl (omega arith))

    short : ReadingRules settings → (t : Bool) → ltb (length ws) 2 ≡ t
        → Checked settings ws (cond t (Refused 6) (cond (ltb 16 (length ws)) (Refused 6) (start_of settings (view_at settings ws 0) ws)))
    short v true e = turned 6 (by_length refl v (inl (ltb-true (length ws) 2 e))) refl
    short v false e = long v (ltb 16 (length ws)) refl (ltb-false (length ws) 2 e)

    by_setting_lem : (t : Bool) → reading_ok settings ≡ t
        → Checked settings ws
        (cond t (cond (ltb (length ws) 2) (Refused 6) (cond (ltb 16 (length ws)) (Refused 6) (start_of settings (view_at settings ws 0) ws))) (Refused 2))
    by_setting_lem true e = short ((reading_exact settings).0 e) (ltb (length ws) 2) refl
    by_setting_lem false e = turned 2 (by_setting refl (λ v. contrary ((reading_exact settings).1 v) e)) refl

-- what is refused isn't judged
judged_not : (settings : Settings) (ws : List ℕ) (n : ℕ) → ReadingRules settings → Sized ws → RefusedBy settings ws n → ⊥
judged_not settings ws n v s (by_setting q b) = b v
judged_not settings ws n v s (by_length q w u) = sized_not u
  where
    sized_not : Unsized ws → ⊥
    sized_not (inl h) = omega arith
    sized_not (inr h) = omega arith

-- by one number
same_number : (settings : Settings) (ws : List ℕ) (m n : ℕ) → RefusedBy settings ws m → RefusedBy settings ws n → m ≡ n
same_number settings ws m n (by_setting p b) (by_setting q c) = omega arith
same_number settings ws m n (by_setting p b) (by_length q v u) = absurd (b v)
same_number settings ws m n (by_length p v u) (by_setting q c) = absurd (c v)
same_number settings ws m n (by_length p v u) (by_length q w o) = omega arith

some_number : (settings : Settings) (ws : List ℕ) (n : ℕ) → RefusedBy settings ws n → 0 < n
some_number settings ws n (by_setting q b) = omega arith
some_number settings ws n (by_length q v u) = omega arith

-- the lowest is one
same_lowest : (settings : Settings) (ws : List ℕ) (p r q s : ℕ) → Lowest settings ws p r → Lowest settings ws q s → (p ≡ q) × (r ≡ s)
same_lowest settings ws p r q s a b = (places, reasons)
  where
    places : p ≡ q
    places =
        bool_cases (ltb p q) (λ t. absurd (b.lowest_place p r (ltb-true p q t) a.applies))
        (λ t.
        bool_cases (ltb q p) (λ u. absurd (a.lowest_place q s (ltb-true q p u) b.applies)) (λ u. omega (arith, ltb-false p q t, ltb-false q p u)))

    reasons : r ≡ s
    reasons =
        bool_cases (ltb r s)
        (λ t. absurd (b.lowest_reason r (ltb-true r s t) (subst (λ (n : ℕ). Reason settings ws n r) places a.applies)))
        (λ t.
        bool_cases (ltb s r)
        (λ u. absurd (a.lowest_reason s (ltb-true s r u) (subst (λ (n : ℕ). Reason settings ws n s) (sym places) b.applies)))
        (λ u. omega (arith, ltb-false r s t, ltb-false s r u)))

module _ (settings : Settings) (ws : List ℕ) where
  accepts_to : (r : LoopAnswer) → Checked settings ws r → r ≡ Accepted → ReadingRules settings × Sized ws × Unreasoned settings ws
  accepts_to r (judged v s d) e = (v, s, subst (Decides settings ws) e d)
  accepts_to r (turned n u q) e = cc

  to_accepts : (r : LoopAnswer) → Checked settings ws r → ReadingRules settings × Sized ws × Unreasoned settings ws → r ≡ Accepted
  to_accepts Accepted c h = refl
  to_accepts (Rejected p r) (judged v s d) h = absurd (h.2 p r d.applies)
  to_accepts (Rejected p r) (turned n u q) h = absurd (judged_not settings ws n h.0 h.1 u)
  to_accepts (Refused m) (judged v s d) h = absurd d
  to_accepts (Refused m) (turned n u q) h = absurd (judged_not settings ws n h.0 h.1 u)

  rejects_to : (p r : ℕ) (a : LoopAnswer) → Checked settings ws a → a ≡ Rejected p r → ReadingRules settings × Sized ws × Lowest settings ws p r
  rejects_to p r a (judged v s d) e = (v, s, subst (Decides settings ws) e d)
  rejects_to p r a (turned n u q) e = cc

  to_rejects : (p r : ℕ) (a : LoopAnswer) → Checked settings ws a → ReadingRules settings × Sized ws × Lowest settings ws p r → a ≡ Rejected p r
  to_rejects p r Accepted (judged v s d) h = absurd (d p r h.2.applies)
  to_rejects p r Accepted (turned n u q) h = absurd (judged_not settings ws n h.0 h.1 u)
  to_rejects p r (Rejected k s) (judged v z d) h = let e = same_lowest settings ws k s p r d h.2 in cc
  to_rejects p r (Rejected k s) (turned n u q) h = absurd (judged_not settings ws n h.0 h.1 u)
  to_rejects p r (Refused m) (judged v s d) h = absurd d
  to_rejects p r (Refused m) (turned n u q) h = absurd (judged_not settings ws n h.0 h.1 u)

  refuses_to : (n : ℕ) (a : LoopAnswer) → Checked settings ws a → 0 < n → loop_refusal a ≡ n → RefusedBy settings ws n
  refuses_to n Accepted c z e = absurd (omega arith)
  refuses_to n (Rejected p r) c z e = absurd (omega arith)
  refuses_to n (Refused m) (judged v s d) z e = absurd d
  refuses_to n (Refused m) (turned k u q) z e =
      let same : k ≡ n = sym (ap loop_refusal q) ∙ e in
      subst (RefusedBy settings ws) same u

  to_refuses : (n : ℕ) (a : LoopAnswer) → Checked settings ws a → RefusedBy settings ws n → a ≡ Refused n
  to_refuses n a (judged v s d) h = absurd (judged_not settings ws n v s h)
  to_refuses n a (turned k u q) h = q ∙ ap Refused (same_number settings ws k n u h)

  -- a refusal has a number
  told : (n : ℕ) (a : LoopAnswer) → Checked settings ws a → a ≡ Refused n → RefusedBy settings ws n
  told n a (judged v s d) e = absurd (subst (Decides settings ws) e d)
  told n a (turned k u q) e = subst (RefusedBy settings ws) (ap loop_refusal (sym q ∙ e)) u

  -- 01, "Retry loops", of every list of words, under every version
  pub exactly : Exactly settings ws
  exactly =
      let answer = check_of settings ws in
      let c = checked settings ws in
      record {
        accepts = (accepts_to answer c, to_accepts answer c);
        rejects = λ p r. (rejects_to p r answer c, to_rejects p r answer c);
        refuses = λ n. (told n answer c, to_refuses n answer c);
        number = λ n. (λ h. refuses_to n answer c h.0 h.1, λ u. (some_number settings ws n u, ap loop_refusal (to_refuses n answer c u)));
      }
