-- What acceptance of a block says of the word at each place. Assumes nothing.
use Rattle.std.proofs.Common.{◌≡◌, ℕ, zero, suc, ◌+◌, ◌*◌, ◌%◌, ◌^◌, ◌<◌, ◌≤◌, Bool, true, false, cond, not, ◌&&◌, ◌||◌}
use Rattle.std.proofs.Common.{eqb, ltb, ◌⊎◌, List, length, get_or, sym, refl, ap, ◌∙◌, subst, inl, inr, arith, ltb-false, ltb-true, lt-ltb, eqb-true}
use borrow.Author.Tests.{not-false, eqb-false}
use Rattle.std.proofs.lemmas.Bool.{or_parts, not_from_false}
use Rattle.word.proofs.TestLaws.{bool_cases, contrary, and_both}
use Rattle.settings.specs.Settings.{xlen_of, reading_ok}
use Rattle.settings.specs.declared.Settings.{Settings}
use Rattle.isa.specs.Width.{bytes_of}
use Rattle.isa.specs.Narrow.{decode_at}
use Rattle.isa.specs.declared.Width.{Width}
use Rattle.isa.specs.declared.Width.TheVariants.{Word, Double}
use Rattle.isa.specs.declared.Instr.{Instr}
use Rattle.isa.proofs.NarrowLaws.{Short, Near, near_at}
use Rattle.retry.specs.declared.View.{View}
use Rattle.retry.specs.declared.View.TheVariants.{Lr, Sc, Plain, Jump, Branch, Other}
use Rattle.retry.specs.declared.LoopAnswer.{LoopAnswer}
use Rattle.retry.specs.declared.LoopAnswer.TheVariants.{Accepted, Rejected, Refused}
use Rattle.retry.specs.Loop.{view_at, is_sc, past_sc, is_above, to_start, wrong_offset, clobbers}
use Rattle.retry.specs.Loop.{reason2, reason3, reason4, reason5, lowest_of, or_else, scan_of, start_of, check_of}
use Rattle.retry.specs.Reasons.{FirstSc, Sized}
use Rattle.retry.proofs.ViewLaws.{Seen, SeenLr, seen}
use Rattle.retry.proofs.PlaceLaws.{and_second, is_above_decides, clobbers_decides, sc_is, is_sc_lem, past_first, first_past, after_past}

-- the offset leads forward by whole words, and not farther than a JAL can
abbrev pub Ahead : ℕ → Type 0
Ahead offset = (offset % 4 ≡ 0) × (0 < offset) × (offset < 2 ^ 21)

-- from this place the offset leads to place 0
abbrev pub Home : ℕ → ℕ → Type 0
Home place offset = (offset % 4 ≡ 0) × ((4 * place + offset) % 2 ^ 64 ≡ 0)

-- a write of rd leaves rs1 as it is
abbrev pub Keeps : ℕ → ℕ → Type 0
Keeps rs1 rd = rs1 ≡ rd → rs1 ≡ 0

-- a word between the LR and the first SC
abbrev pub Before : ℕ → View → Type 0
Before rs1 (Lr rd s w) = ⊥
Before rs1 (Sc s w) = ⊥
Before rs1 (Plain rd) = Keeps rs1 rd
Before rs1 (Jump rd offset) = Ahead offset × Keeps rs1 rd
Before rs1 (Branch offset) = Ahead offset
Before rs1 Other = ⊥

-- a word at a place after the first SC
abbrev pub After : ℕ → View → Type 0
After place (Lr rd s w) = ⊥
After place (Sc s w) = ⊥
After place (Plain rd) = Unit {0}
After place (Jump rd offset) = Ahead offset ⊎ Home place offset
After place (Branch offset) = Ahead offset ⊎ Home place offset
After place Other = ⊥

-- An accepted block: its LR at place 0, its first SC at place sc, and the words between and behind.
pub record Block (settings : Settings) (ws : List ℕ) : Type 0 where
  pub rd : ℕ
  pub rs1 : ℕ
  pub width : ℕ
  pub sc : ℕ
  pub sized : Sized ws
  pub lr_is : view_at settings ws 0 ≡ Lr rd rs1 width
  pub widths : (width ≡ 4) ⊎ (width ≡ 8)
  pub keeps : Keeps rs1 rd
  pub later : 0 < sc
  pub in_block : sc < length ws
  pub sc_is_first : view_at settings ws sc ≡ Sc rs1 width
  pub before : (k : ℕ) → 0 < k → k < sc → Before rs1 (view_at settings ws k)
  pub after : (k : ℕ) → sc < k → k < length ws → After k (view_at settings ws k)

-- ---- tests that failed

zero_then : (t : Bool) (x y : ℕ) → cond t (suc x) y ≡ 0 → (t ≡ false) × (y ≡ 0)
zero_then true x y e = absurd (omega arith)
zero_then false x y e = (refl, e)

-- no reason of 2 to 5
record Clear (rs1 width : ℕ) (past : Bool) (place : ℕ) (v : View) : Type 0 where
  pub no2 : reason2 past place v ≡ false
  pub no3 : reason3 past place v ≡ false
  pub no4 : reason4 rs1 past v ≡ false
  pub no5 : reason5 rs1 width past v ≡ false

clear : (rs1 width : ℕ) (past : Bool) (place : ℕ) (v : View) → lowest_of rs1 width past place v ≡ 0 → Clear rs1 width past place v
unfolding lowest_of
clear rs1 width past place v e =
    let a = zero_then (reason2 past place v) 1 (cond (reason3 past place v) 3 (cond (reason4 rs1 past v) 4 (cond (reason5 rs1 width past v) 5 0))) e in
    let b = zero_then (reason3 past place v) 2 (cond (reason4 rs1 past v) 4 (cond (reason5 rs1 width past v) 5 0)) a.1 in
    let c = zero_then (reason4 rs1 past v) 3 (cond (reason5 rs1 width past v) 5 0) b.1 in
    let d = zero_then (reason5 rs1 width past v) 4 0 c.1 in
    record { no2 = a.0; no3 = b.0; no4 = c.0; no5 = d.0 }

keeps_rs1 : (rs1 rd : ℕ) → clobbers rs1 rd ≡ false → Keeps rs1 rd
keeps_rs1 rs1 rd t e =
    bool_cases (eqb rs1 0) (λ z. eqb-true rs1 0 z)
    (λ z. contrary ((clobbers_decides rs1 rd).1 (sym e, eqb-false rs1 0 z)) t)

-- what every word shows: its offset, if it has one, is short
abbrev ShortIn : View → Type 0
ShortIn (Lr rd rs1 width) = Unit {0}
ShortIn (Sc rs1 width) = Unit {0}
ShortIn (Plain rd) = Unit {0}
ShortIn (Jump rd offset) = Short offset
ShortIn (Branch offset) = Short offset
ShortIn Other = Unit {0}

short_in : (i : Instr) (v : View) → Near i → Seen i v → ShortIn v
short_in i (Lr rd rs1 width) n s = tt
short_in i (Sc rs1 width) n s = tt
short_in i (Plain rd) n s = tt
short_in i (Jump rd offset) n s = subst Near s n
short_in i (Branch offset) n s = subst Near s.3 n
short_in i Other n s = tt

offset_right : (past : Bool) (place offset : ℕ) → Short offset → wrong_offset past place offset ≡ false
    → Ahead offset ⊎ ((past ≡ true) × Home place offset)
unfolding wrong_offset
offset_right past place offset near t =
    let f = or_parts (not (eqb (offset % 4) 0)) (not (is_above offset) && not (past && to_start place offset)) t in
    let four : offset % 4 ≡ 0 = eqb-true (offset % 4) 0 (not-false (eqb (offset % 4) 0) f.0) in
    bool_cases (is_above offset) (λ a. let s = (is_above_decides offset).0 a in inl (four, s.0, near s.1))
    (λ a.
    let home = not-false (past && to_start place offset) (and_second (not (is_above offset)) _ f.1 (not_from_false (is_above offset) a)) in
    let s = and_both past (to_start place offset) home in
    inr (s.0, (four, eqb-true ((4 * place + offset) % 2 ^ 64) 0 s.1)))

-- ---- one place

module _ (rs1 width : ℕ) (past : Bool) (place : ℕ) (0<place : 0 < place) where
  forward : past ≡ false → (offset : ℕ) → Short offset → wrong_offset past place offset ≡ false → Ahead offset
  forward e offset near t = go (offset_right past place offset near t)
    where
      go : Ahead offset ⊎ ((past ≡ true) × Home place offset) → Ahead offset
      go (inl a) = a
      go (inr b) = contrary b.0 e

  either_way : (offset : ℕ) → Short offset → wrong_offset past place offset ≡ false → Ahead offset ⊎ Home place offset
  either_way offset near t = go (offset_right past place offset near t)
    where
      go : Ahead offset ⊎ ((past ≡ true) × Home place offset) → Ahead offset ⊎ Home place offset
      go (inl a) = inl a
      go (inr b) = inr b.1

  kept : past ≡ false → (rd : ℕ) → (not past && clobbers rs1 rd) ≡ false → Keeps rs1 rd
  kept e rd t = keeps_rs1 rs1 rd (and_second (not past) (clobbers rs1 rd) t (not_from_false past e))

  before_at : (v : View) → ShortIn v → Clear rs1 width past place v → past ≡ false → is_sc v ≡ false → Before rs1 v
  before_at (Lr rd s u) near c e n = contrary (lt-ltb 0 place 0<place) c.no2
  before_at (Sc s u) near c e n = contrary refl n
  before_at (Plain rd) near c e n = kept e rd c.no4
  before_at (Jump rd offset) near c e n = (forward e offset near c.no3, kept e rd c.no4)
  before_at (Branch offset) near c e n = forward e offset near c.no3
  before_at Other near c e n = contrary (lt-ltb 0 place 0<place) c.no2

  after_at : (v : View) → ShortIn v → Clear rs1 width past place v → past ≡ true → After place v
  after_at (Lr rd s u) near c e = contrary (lt-ltb 0 place 0<place) c.no2
  after_at (Sc s u) near c e = contrary e (and_second (ltb 0 place) past c.no2 (lt-ltb 0 place 0<place))
  after_at (Plain rd) near c e = tt
  after_at (Jump rd offset) near c e = either_way offset near c.no3
  after_at (Branch offset) near c e = either_way offset near c.no3
  after_at Other near c e = contrary (lt-ltb 0 place 0<place) c.no2

  sc_at : (v : View) → Clear rs1 width past place v → past ≡ false → is_sc v ≡ true → v ≡ Sc rs1 width
  sc_at (Lr rd s u) c e n = contrary n refl
  sc_at (Sc s u) c e n =
      let f = and_second (not past) (not (eqb u width) || not (eqb s rs1)) c.no5 (not_from_false past e) in
      let g = or_parts (not (eqb u width)) (not (eqb s rs1)) f in
      let a : u ≡ width = eqb-true u width (not-false (eqb u width) g.0) in
      let b : s ≡ rs1 = eqb-true s rs1 (not-false (eqb s rs1) g.1) in
      cc
  sc_at (Plain rd) c e n = contrary n refl
  sc_at (Jump rd offset) c e n = contrary n refl
  sc_at (Branch offset) c e n = contrary n refl
  sc_at Other c e n = contrary n refl

-- ---- the block

bytes_cases : (w : Width) → (bytes_of w ≡ 4) ⊎ (bytes_of w ≡ 8)
bytes_cases Word = inl refl
bytes_cases Double = inr refl

goes_on : (place r : ℕ) (rest : LoopAnswer) → or_else place r rest ≡ Accepted → (r ≡ 0) × (rest ≡ Accepted)
goes_on place zero rest e = (refl, e)
goes_on place (suc r) rest e = cc

module _ (settings : Settings) (rs1 width : ℕ) (ws : List ℕ) where
  -- every place from p on is clear, and an SC stands in the block
  cleared : (n p : ℕ) → p + n ≡ length ws → scan_of settings rs1 width ws n p ≡ Accepted
      → ((k : ℕ) → p ≤ k → k < length ws → lowest_of rs1 width (past_sc settings ws k) k (view_at settings ws k) ≡ 0) × (past_sc settings ws (length ws) ≡ true)
  unfolding scan_of
  cleared zero p e a =
      let f : p ≡ length ws = omega arith in
      ((λ k m l. absurd (omega arith)), subst (λ (n : ℕ). past_sc settings ws n ≡ true) f (ended (past_sc settings ws p) a))
    where
      ended : (t : Bool) → cond t Accepted (Rejected p 6) ≡ Accepted → t ≡ true
      ended true q = refl
      ended false q = cc
  cleared (suc n) p e a =
      let g = goes_on p (lowest_of rs1 width (past_sc settings ws p) p (view_at settings ws p)) (scan_of settings rs1 width ws n (suc p)) a in
      let r = cleared n (suc p) (omega arith) g.1 in (
        (λ k m l.
            bool_cases (ltb p k) (λ t. r.0 k (ltb-true p k t) l)
            (λ t.
            let f : p ≡ k = omega (arith, ltb-false p k t) in
            subst (λ (j : ℕ). lowest_of rs1 width (past_sc settings ws j) j (view_at settings ws j) ≡ 0) f g.0)),
        r.1,
      )

  built : (rd : ℕ) → Sized ws → view_at settings ws 0 ≡ Lr rd rs1 width → scan_of settings rs1 width ws (length ws) 0 ≡ Accepted → Block settings ws
  built rd z q a =
      record {
        rd = rd;
        rs1 = rs1;
        width = width;
        sc = j;
        sized = z;
        lr_is = q;
        widths = subst (λ (n : ℕ). (n ≡ 4) ⊎ (n ≡ 8)) lr.width_is (bytes_cases lr.of.width);
        keeps = own (clear_at 0 (omega arith));
        later = late;
        in_block = s.2;
        sc_is_first =
            sc_at rs1 width (past_sc settings ws j) j late (view_at settings ws j) (clear_at j s.2)
            (first_past settings ws j (omega (arith, s.2)) s.1) (sc_is settings ws j s.1.0);
        before =
            λ k o h.
            before_at rs1 width (past_sc settings ws k) k o (view_at settings ws k) (short_at k) (clear_at k (omega (arith, s.2))) (past_early k h) (no_sc_lem k h);
        after =
            λ k h l.
            after_at rs1 width (past_sc settings ws k) k (omega arith) (view_at settings ws k) (short_at k) (clear_at k l)
            (after_past settings ws k (j, s.1, h));
      }
    where
      r : ((k : ℕ) → 0 ≤ k → k < length ws → lowest_of rs1 width (past_sc settings ws k) k (view_at settings ws k) ≡ 0) × (past_sc settings ws (length ws) ≡ true)
      r = cleared (length ws) 0 (omega arith) a

      clear_at : (k : ℕ) → k < length ws → Clear rs1 width (past_sc settings ws k) k (view_at settings ws k)
      clear_at k l = clear rs1 width (past_sc settings ws k) k (view_at settings ws k) (r.0 k (omega arith) l)

      s : (first : ℕ) × FirstSc (xlen_of settings) ws first × (first < length ws)
      s = past_first settings ws (length ws) (omega arith) r.1

      j : ℕ
      j = s.0

      word : ℕ → Instr
      word k = decode_at (xlen_of settings) (get_or ws k 0)

      short_at : (k : ℕ) → ShortIn (view_at settings ws k)
      short_at k = short_in (word k) (view_at settings ws k) (near_at (xlen_of settings) (get_or ws k 0)) (seen settings (word k))

      lr : SeenLr (word 0) rd rs1 width
      lr = subst (Seen (word 0)) q (seen settings (word 0))

      late : 0 < j
      late =
          bool_cases (ltb 0 j) (λ t. ltb-true 0 j t)
          (λ t.
          let e : j ≡ 0 = omega (arith, ltb-false 0 j t) in
          contrary (sc_is settings ws j s.1.0) (ap (λ (n : ℕ). is_sc (view_at settings ws n)) e ∙ ap is_sc q))

      own : Clear rs1 width (past_sc settings ws 0) 0 (view_at settings ws 0) → Keeps rs1 rd
      own c =
          let past = past_sc settings ws 0 in
          keeps_rs1 rs1 rd (and_second (not past) (clobbers rs1 rd) (sym (ap (reason4 rs1 past) q) ∙ c.no4) (not_from_false past start))
        where
          start : past_sc settings ws 0 ≡ false
          start = bool_cases (past_sc settings ws 0) (λ t. let f = past_first settings ws 0 (omega arith) t in absurd (omega (arith, f.2))) (λ t. t)

      past_early : (k : ℕ) → k < j → past_sc settings ws k ≡ false
      past_early k h =
          bool_cases (past_sc settings ws k)
          (λ t. let f = past_first settings ws k (omega (arith, s.2)) t in absurd (s.1.1 f.0 (omega (arith, f.2)) f.1.0)) (λ t. t)

      no_sc_lem : (k : ℕ) → k < j → is_sc (view_at settings ws k) ≡ false
      no_sc_lem k h =
          bool_cases (is_sc (view_at settings ws k)) (λ t. absurd (s.1.1 k h (is_sc_lem settings ws k (omega (arith, s.2)) t))) (λ t. t)

started : (settings : Settings) (ws : List ℕ) (v : View) → view_at settings ws 0 ≡ v → Sized ws → start_of settings v ws ≡ Accepted → Block settings ws
unfolding start_of
started settings ws (Lr rd rs1 width) q z a = built settings rs1 width ws rd z q a
started settings ws (Sc s u) q z a = cc
started settings ws (Plain rd) q z a = cc
started settings ws (Jump rd offset) q z a = cc
started settings ws (Branch offset) q z a = cc
started settings ws Other q z a = cc

pub block : (settings : Settings) (ws : List ℕ) → check_of settings ws ≡ Accepted → Block settings ws
unfolding check_of
block settings ws a = by_setting_lem (reading_ok settings) a
  where
    long : (t : Bool) → ltb 16 (length ws) ≡ t → 2 ≤ length ws → cond t (Refused 6) (start_of settings (view_at settings ws 0) ws) ≡ Accepted
        → Block settings ws
    long true e h q = cc
    long false e h q = started settings ws (view_at settings ws 0) refl (h, ltb-false 16 (length ws) e) q

    short : (t : Bool) → ltb (length ws) 2 ≡ t
        → cond t (Refused 6) (cond (ltb 16 (length ws)) (Refused 6) (start_of settings (view_at settings ws 0) ws)) ≡ Accepted → Block settings ws
    short true e q = cc
    short false e q = long (ltb 16 (length ws)) refl (ltb-false (length ws) 2 e) q

    by_setting_lem : (t : Bool)
        → cond t (cond (ltb (length ws) 2) (Refused 6) (cond (ltb 16 (length ws)) (Refused 6) (start_of settings (view_at settings ws 0) ws))) (Refused 2)
        ≡ Accepted
        → Block settings ws
    by_setting_lem true q = short (ltb (length ws) 2) refl q
    by_setting_lem false q = cc
