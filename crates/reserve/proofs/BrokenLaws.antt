-- The number whose bits tell whose reservation a notice broke: bit k is set exactly if it broke hart k's, which is below the count. Assumes nothing.
use mathlib.Core.Path.{◌≡◌, refl, sym, ap, ◌∙◌, subst}
use mathlib.Core.Bool.{Bool, true, false, cond}
use mathlib.Core.List.{List}
use mathlib.Core.Logic.{◌↔◌, ⊎_elim}
use Prim.Native.Nat.{ℕ, zero, suc, ◌+◌, ◌*◌, ◌-◌, ◌/◌, ◌%◌, ◌^◌, ◌≤◌, ◌<◌}
use native.Mathlib.Nat.{pow-suc, div-eq_of_lt}
use native.Mathlib.Omega.{arith}
use lib.ListN.{get_or}
use lib.Pow.{pow_mono, high, low, field, mod-mod-pow}
use Rattle.std.specs.Prelude.{Option, None}
use Rattle.word.proofs.TestLaws.{bool_cases, contrary}
use Rattle.word.proofs.WordLaws.{split_lt}
use Rattle.settings.specs.declared.Settings.{Settings}
use Rattle.reserve.specs.Reserve.{breaks_of, broken_of}
use Rattle.reserve.specs.declared.Reservation.{Reservation}
use Rattle.reserve.specs.declared.Notice.{Notice}

-- bit k of a number
abbrev bit : ℕ → ℕ → ℕ
bit k n = n / 2 ^ k % 2

-- above a number that has no bits from c on, hi has no part in the bits below c
bit_low : (k c hi lo : ℕ) → k < c → lo < 2 ^ c → bit k (hi * 2 ^ c + lo) ≡ bit k lo
bit_low k c hi lo u h =
    let j = c - (1 + k) in
    let n = hi * 2 ^ c + lo in
    let some : j + (1 + k) ≡ c = omega arith in
    let same : n % 2 ^ (1 + k) ≡ lo % 2 ^ (1 + k) =
    sym (mod-mod-pow n j (1 + k)) ∙ ap (λ (d : ℕ). n % 2 ^ d % 2 ^ (1 + k)) some ∙ ap (λ (r : ℕ). r % 2 ^ (1 + k)) (low hi c h) in
    sym (field n 1 k) ∙ ap (λ (r : ℕ). r / 2 ^ k) same ∙ field lo 1 k

bit_none : (k n : ℕ) → n < 2 ^ k → bit k n ≡ 0
bit_none k n h = ap (λ (q : ℕ). q % 2) (div-eq_of_lt h)

abbrev digit : Bool → ℕ
digit b = cond b 1 0

digit_set : (b : Bool) → (digit b % 2 ≡ 1) ↔ (b ≡ true)
digit_set true = (λ q. refl, λ q. refl)
digit_set false = (λ q. absurd (omega arith), λ q. contrary q refl)

module _ (settings : Settings) (n : Notice) (l : List (Option Reservation)) where
  abbrev hit : ℕ → Bool
  hit k = breaks_of settings k n (get_or l k None)

  broken_more : (c : ℕ) → broken_of settings n (suc c) l ≡ digit (hit c) * 2 ^ c + broken_of settings n c l
  unfolding broken_of
  broken_more c = bool_cases (hit c) (λ t. rw t (omega arith)) (λ t. rw t (omega arith))

  pub broken_below : (c : ℕ) → broken_of settings n c l < 2 ^ c
  unfolding broken_of
  broken_below zero = omega arith
  broken_below (suc c) =
      bool_cases (hit c) (λ t. rw t (omega (arith, pow-suc 2 c, broken_below c))) (λ t. rw t (omega (arith, pow-suc 2 c, broken_below c)))

  bit_at : (c k : ℕ) → k < c → bit k (broken_of settings n c l) ≡ digit (hit k) % 2
  bit_at zero k u = absurd (omega arith)
  bit_at (suc c) k u =
      ap (bit k) (broken_more c)
      ∙ ⊎_elim (λ (v : k < c). bit_low k c (digit (hit c)) (broken_of settings n c l) v (broken_below c) ∙ bit_at c k v)
      (λ (v : c ≤ k).
      let same : c ≡ k = omega arith in
      subst (λ (i : ℕ). bit i (digit (hit c) * 2 ^ c + broken_of settings n c l) ≡ digit (hit i) % 2) same
      (ap (λ (q : ℕ). q % 2) (high (digit (hit c)) c (broken_below c))))
      (split_lt k c)

  -- bit k is set exactly if k is below the count and the notice breaks the reservation at k
  pub bit_exact : (count k : ℕ) → (bit k (broken_of settings n count l) ≡ 1) ↔ ((k < count) × (hit k ≡ true))
  bit_exact count k =
      ⊎_elim
      (λ (u : k < count).
      let same = bit_at count k u in
      (λ q. (u, (digit_set (hit k)).0 (sym same ∙ q)), λ q. same ∙ (digit_set (hit k)).1 q.1))
      (λ (u : count ≤ k).
      let none = bit_none k (broken_of settings n count l) (omega (arith, broken_below count, pow_mono u)) in
      (λ q. absurd (omega (arith, none, q)), λ q. absurd (omega (arith, q.0))))
      (split_lt k count)
