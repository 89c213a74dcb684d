-- Sizes that are powers of two: the test says what the rule says, and what is a multiple of the larger of 64 and the size is one of the size. Proved over
-- the exponent and over the digits. And versions of A, kinds of core, what a misaligned atomic access gives, and boards. Assumes nothing.
use mathlib.Core.Path.{◌≡◌, refl, sym, ap, ◌∙◌, subst}
use mathlib.Core.Bool.{true, cond}
use mathlib.Core.Logic.{◌↔◌, ◌⊎◌, inl, inr, ⊎_elim}
use Prim.Native.Nat.{ℕ, suc, ◌+◌, ◌*◌, ◌-◌, ◌/◌, ◌%◌, ◌^◌, ◌≤◌, ◌<◌, min, max}
use native.Mathlib.Nat.{pow-suc, one-mul, zero-mod}
use native.Mathlib.Omega.{arith}
use lib.Arith.{bin_ind}
use lib.Bits.{bit_and, and_step, and_self, and_shifted}
use lib.Dec.{eqb, leb}
use lib.Pow.{pow-lt, pow_mono, mod-mod-pow, ones_lt}
use borrow.Author.Tests.{eqb-true, leb-true, eq-eqb, ne_eqb, le-leb}
use Rattle.word.proofs.TestLaws.{bool_cases, contrary, and_both, or_either}
use Rattle.word.proofs.WordLaws.{split_lt}
use Rattle.word.specs.Word.{Xlen}
use Rattle.word.proofs.ChooseLaws.{cond_all}
use Rattle.settings.specs.Settings.{PowerOfTwo, defaults, at_version, xlen_of, SizeRules, size_ok, granule_of}
use Rattle.settings.specs.Settings.{VersionRules, version_ok, KindRules, kind_ok, ReadingRules, reading_ok}
use Rattle.settings.specs.Settings.{DevicesBreak, devices_break, JalrPermitted, jalr_permitted}
use Rattle.settings.specs.Settings.{MisalignedRules, misaligned_ok, LrCause, lr_cause, AmoCause, amo_cause}
use Rattle.settings.specs.Boards.{on_board, default_board, BoardRules, board_ok}
use Rattle.settings.specs.declared.Board.{Board}
use Rattle.settings.specs.declared.Settings.{Settings}

-- a power of two and the number before it have no bit in common
power_apart : (k : ℕ) → bit_and (2 ^ k) (2 ^ k - 1) ≡ 0
power_apart k = subst (λ (n : ℕ). bit_and n (2 ^ k - 1) ≡ 0) (one-mul (2 ^ k)) (and_shifted 1 k (2 ^ k - 1) (ones_lt k))

-- and no other number but 0 has none: an odd one above 1 has them all but the lowest, and an even one has those of its half
apart_power : (n : ℕ) → 0 < n → bit_and n (n - 1) ≡ 0 → PowerOfTwo n
apart_power = bin_ind (λ (n : ℕ). 0 < n → bit_and n (n - 1) ≡ 0 → PowerOfTwo n) (λ h e. absurd (omega arith)) step
  where
    step : (n : ℕ) → (0 < n / 2 → bit_and (n / 2) (n / 2 - 1) ≡ 0 → PowerOfTwo (n / 2)) → 0 < n → bit_and n (n - 1) ≡ 0 → PowerOfTwo n
    step n half h e =
        ⊎_elim
        (λ (even : n % 2 < 1).
        let below : (n - 1) / 2 ≡ n / 2 - 1 = omega arith in
        let digits : bit_and (n / 2) (n / 2 - 1) * 2 + min (n % 2) ((n - 1) % 2) ≡ 0 =
        ap (λ (m : ℕ). bit_and (n / 2) m * 2 + min (n % 2) ((n - 1) % 2)) (sym below) ∙ sym (and_step n (n - 1)) ∙ e in
        let p = half (omega arith) (omega (arith, digits)) in
        (suc p.0, omega (arith, p.1, pow-suc 2 p.0)))
        (λ (odd : 1 ≤ n % 2).
        let below : (n - 1) / 2 ≡ n / 2 = omega arith in
        let digits : n / 2 * 2 + min (n % 2) ((n - 1) % 2) ≡ 0 =
        ap (λ (m : ℕ). m * 2 + min (n % 2) ((n - 1) % 2)) (sym (and_self (n / 2)))
        ∙ ap (λ (m : ℕ). bit_and (n / 2) m * 2 + min (n % 2) ((n - 1) % 2)) (sym below)
        ∙ sym (and_step n (n - 1)) ∙ e in
        (0, omega (arith, digits)))
        (split_lt (n % 2) 1)

module _ (s : Settings) where
  -- the test of the size passes exactly if the rule holds
  pub size_exact : (size_ok s ≡ true) ↔ SizeRules s
  unfolding size_ok
  size_exact = (
    λ e.
        let a = and_both (leb 8 s.size) _ e in
        let b = and_both (leb s.size 4096) _ a.1 in
        let low = leb-true 8 s.size a.0 in
        (apart_power s.size (omega arith) (eqb-true _ 0 b.1), low, leb-true s.size 4096 b.0),
    λ r.
        let apart : bit_and s.size (s.size - 1) ≡ 0 =
        subst (λ (n : ℕ). bit_and n (n - 1) ≡ 0) (sym r.0.1) (power_apart r.0.0) in
        rw (le-leb 8 s.size r.1, le-leb s.size 4096 r.2, eq-eqb _ 0 apart),
  )

-- the larger of two powers of two is one
larger_power : (j k : ℕ) → PowerOfTwo (max (2 ^ j) (2 ^ k))
larger_power j k =
    ⊎_elim (λ (h : j < k). (k, omega (arith, pow-lt h))) (λ (h : k ≤ j). (j, omega (arith, pow_mono h))) (split_lt j k)

pub granule_power : (s : Settings) → SizeRules s → PowerOfTwo (granule_of s)
granule_power s r = subst (λ (n : ℕ). PowerOfTwo (max 64 n)) (sym r.0.1) (larger_power 6 r.0.0)

-- and a multiple of it is one of the second; the two may change places
pub larger_whole : (j k n : ℕ) → n % max (2 ^ j) (2 ^ k) ≡ 0 → n % 2 ^ k ≡ 0
larger_whole j k n e =
    ⊎_elim
    (λ (h : j < k).
    let larger : max (2 ^ j) (2 ^ k) ≡ 2 ^ k = omega (arith, pow-lt h) in
    ap (λ (m : ℕ). n % m) (sym larger) ∙ e)
    (λ (h : k ≤ j).
    let larger : max (2 ^ j) (2 ^ k) ≡ 2 ^ j = omega (arith, pow_mono h) in
    let some : j - k + k ≡ j = omega arith in
    let whole : n % 2 ^ (j - k + k) ≡ 0 = ap (λ (i : ℕ). n % 2 ^ i) some ∙ ap (λ (m : ℕ). n % m) (sym larger) ∙ e in
    sym (mod-mod-pow n (j - k) k) ∙ ap (λ (m : ℕ). m % 2 ^ k) whole ∙ zero-mod (2 ^ k))
    (split_lt j k)

-- so a memory's base and length are multiples of the set's size
pub granule_whole : (s : Settings) → SizeRules s → (n : ℕ) → n % granule_of s ≡ 0 → n % s.size ≡ 0
granule_whole s r n e =
    let k = r.0.0 in
    let size = r.0.1 in
    ap (λ (m : ℕ). n % m) size ∙ larger_whole 6 k n (ap (λ (m : ℕ). n % max 64 m) (sym size) ∙ e)

-- the test of the version passes exactly if the rule holds
pub version_exact : (s : Settings) → (version_ok s ≡ true) ↔ VersionRules s
unfolding version_ok
version_exact s = (
  λ e.
      ⊎_elim (λ (t : eqb s.version 20 ≡ true). inl (eqb-true s.version 20 t)) (λ (t : eqb s.version 21 ≡ true). inr (eqb-true s.version 21 t))
      (or_either (eqb s.version 20) (eqb s.version 21) e),
  λ r. ⊎_elim (λ (e : s.version ≡ 20). rw e) (λ (e : s.version ≡ 21). rw e) r,
)

-- and so do the tests of what a version permits
pub devices_exact : (s : Settings) → (devices_break s ≡ true) ↔ DevicesBreak s
devices_exact s = (λ e. omega (arith, eqb-true s.version 21 e), λ q. eq-eqb s.version 21 (omega (arith, q)))

pub jalr_exact : (s : Settings) → (jalr_permitted s ≡ true) ↔ JalrPermitted s
jalr_exact s = (λ e. eqb-true s.version 20 e, λ q. eq-eqb s.version 20 q)

-- no version has both
pub not_both : (s : Settings) → DevicesBreak s → JalrPermitted s → ⊥
not_both s d j = omega (arith, d, j)

-- the test of the kind passes exactly if the rule holds
pub kind_exact : (s : Settings) → (kind_ok s ≡ true) ↔ KindRules s
unfolding kind_ok
kind_exact s = (
  λ e.
      ⊎_elim (λ (t : eqb s.kind 0 ≡ true). inl (eqb-true s.kind 0 t)) (λ (t : eqb s.kind 1 ≡ true). inr (eqb-true s.kind 1 t))
      (or_either (eqb s.kind 0) (eqb s.kind 1) e),
  λ r. ⊎_elim (λ (e : s.kind ≡ 0). rw e) (λ (e : s.kind ≡ 1). rw e) r,
)

pub reading_exact : (s : Settings) → (reading_ok s ≡ true) ↔ ReadingRules s
unfolding reading_ok
reading_exact s = (
  λ e. let b = and_both (version_ok s) (kind_ok s) e in ((version_exact s).0 b.0, (kind_exact s).0 b.1),
  λ r. rw ((version_exact s).1 r.0, (kind_exact s).1 r.1),
)

-- the test of what a misaligned atomic access gives passes exactly if the rule holds
pub misaligned_exact : (s : Settings) → (misaligned_ok s ≡ true) ↔ MisalignedRules s
unfolding misaligned_ok
misaligned_exact s = (
  λ e.
      ⊎_elim (λ (t : eqb s.misaligned 0 ≡ true). inl (eqb-true s.misaligned 0 t))
      (λ (t : eqb s.misaligned 1 ≡ true). inr (eqb-true s.misaligned 1 t))
      (or_either (eqb s.misaligned 0) (eqb s.misaligned 1) e),
  λ r. ⊎_elim (λ (e : s.misaligned ≡ 0). rw e) (λ (e : s.misaligned ≡ 1). rw e) r,
)

-- a number by a setting: what is said of it in words has exactly that number
cause_exact : (one other m c : ℕ) → ((m ≡ 1 → c ≡ one) × ((m ≡ 1 → ⊥) → c ≡ other)) ↔ (c ≡ cond (eqb m 1) one other)
cause_exact one other m c = (
  λ r.
      bool_cases (eqb m 1) (λ t. r.0 (eqb-true m 1 t) ∙ rw t) (λ f. r.1 (λ (e : m ≡ 1). contrary (eq-eqb m 1 e) f) ∙ rw f),
  λ e. (λ is. e ∙ rw (eq-eqb m 1 is), λ not. e ∙ rw (ne_eqb m 1 not)),
)

pub lr_cause_exact : (m c : ℕ) → LrCause m c ↔ (c ≡ lr_cause m)
unfolding lr_cause
lr_cause_exact m c = cause_exact 5 4 m c

pub amo_cause_exact : (m c : ℕ) → AmoCause m c ↔ (c ≡ amo_cause m)
unfolding amo_cause
amo_cause_exact m c = cause_exact 7 6 m c

-- one of two numbers each
pub lr_cause_is : (m : ℕ) → (lr_cause m ≡ 4) ⊎ (lr_cause m ≡ 5)
unfolding lr_cause
lr_cause_is m = cond_all (λ c. (c ≡ 4) ⊎ (c ≡ 5)) (eqb m 1) 5 4 (inr refl) (inl refl)

pub amo_cause_is : (m : ℕ) → (amo_cause m ≡ 6) ⊎ (amo_cause m ≡ 7)
unfolding amo_cause
amo_cause_is m = cond_all (λ c. (c ≡ 6) ⊎ (c ≡ 7)) (eqb m 1) 7 6 (inr refl) (inl refl)

pub lr_cause_some : (m : ℕ) → 0 < lr_cause m
unfolding lr_cause
lr_cause_some m = cond_all (λ c. 0 < c) (eqb m 1) 5 4 (omega arith) (omega arith)

pub amo_cause_some : (m : ℕ) → 0 < amo_cause m
unfolding amo_cause
amo_cause_some m = cond_all (λ c. 0 < c) (eqb m 1) 7 6 (omega arith) (omega arith)

-- the test of a board passes exactly if the rules hold
pub board_exact : (b : Board) → (board_ok b ≡ true) ↔ BoardRules b
unfolding board_ok
board_exact b = (
  λ e.
      let p = and_both (size_ok (on_board b 0)) _ e in
      let q = and_both (version_ok (on_board b 0)) (misaligned_ok (on_board b 0)) p.1 in
      ((size_exact (on_board b 0)).0 p.0, (version_exact (on_board b 0)).0 q.0, (misaligned_exact (on_board b 0)).0 q.1),
  λ r.
      rw ((size_exact (on_board b 0)).1 r.0, (version_exact (on_board b 0)).1 r.1, (misaligned_exact (on_board b 0)).1 r.2),
)

-- the defaults are allowed, and those of a board
pub defaults_allowed : SizeRules defaults × ReadingRules defaults × MisalignedRules defaults
defaults_allowed = (((6, refl), omega arith, omega arith), (inr refl, inl refl), inl refl)

pub default_board_allowed : BoardRules default_board
default_board_allowed = (((6, refl), omega arith, omega arith), inr refl, inl refl)

-- the register width is one of the two, by the kind
pub xlen_is : (s : Settings) → Xlen (xlen_of s)
unfolding xlen_of
xlen_is s = cond_all Xlen (eqb s.kind 1) 32 64 (inl refl) (inr refl)

pub xlen_64 : (s : Settings) → s.kind ≡ 0 → xlen_of s ≡ 64
unfolding xlen_of
xlen_64 s e = rw e

pub xlen_32 : (s : Settings) → s.kind ≡ 1 → xlen_of s ≡ 32
unfolding xlen_of
xlen_32 s e = rw e

-- and by nothing else
pub kind_xlen : (s t : Settings) → s.kind ≡ t.kind → xlen_of s ≡ xlen_of t
unfolding xlen_of
kind_xlen s t e = ap (λ (k : ℕ). cond (eqb k 1) 32 64) e

pub kind_rules : (s t : Settings) → s.kind ≡ t.kind → KindRules s → KindRules t
kind_rules s t e = ⊎_elim (λ (z : s.kind ≡ 0). inl (sym e ∙ z)) (λ (o : s.kind ≡ 1). inr (sym e ∙ o))

-- no version changes it
pub at_version-xlen : (version : ℕ) (s : Settings) → xlen_of (at_version version s) ≡ xlen_of s
unfolding xlen_of
at_version-xlen version s = refl

-- 01's registers have 64 bits
pub defaults_64 : xlen_of defaults ≡ 64
unfolding xlen_of
defaults_64 = refl
