-- A sign-extended immediate, over its width k. Assumes nothing.
use mathlib.Core.Path.{◌≡◌, refl, sym, ap, ◌∙◌}
use Prim.Native.Nat.{ℕ, ◌-◌, ◌%◌, ◌^◌, ◌<◌, ◌≤◌}
use native.Mathlib.Omega.{arith}
use lib.Pow.{pow_mono}
use Rattle.word.specs.Word.{low, sign_extend}
use Rattle.word.proofs.WordLaws.{halves, low-low, low-sign_extend, sign_extend_cases}

module _ (k x : ℕ) (most : k ≤ 64) where
  -- an offset forward is the field itself
  pub forward : 0 < k → x < 2 ^ k → sign_extend 64 k x < 2 ^ 63 → sign_extend 64 k x ≡ x
  forward some h =
      sign_extend_cases 64 k x some most h (λ (r : ℕ). r < 2 ^ 63 → r ≡ x) (λ p l. refl)
      (λ n l. absurd (omega (arith, halves k some, pow_mono {i = k - 1} {j = 63} (omega arith))))

  -- the j lowest bits are the field's
  pub lowest : (j : ℕ) → 0 < k → j ≤ k → sign_extend 64 k x % 2 ^ j ≡ x % 2 ^ j
  unfolding low
  lowest j some h =
      sym (low-low k j h (sign_extend 64 k x)) ∙ ap (low j) (low-sign_extend 64 k most some x) ∙ low-low k j h x
