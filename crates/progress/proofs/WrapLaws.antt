-- Where sums modulo 2 ^ xlen lead. Assumes nothing.
use mathlib.Core.Path.{◌≡◌, sym, ap, ◌∙◌}
use mathlib.Core.Logic.{◌≢◌, ⊎_elim}
use Prim.Native.Nat.{ℕ, ◌+◌, ◌*◌, ◌-◌, ◌/◌, ◌%◌, ◌^◌, ◌≤◌, ◌<◌}
use native.Mathlib.Nat.{mod-eq_of_lt, div-add-mod', one-mul}
use native.Mathlib.Omega.{arith}
use lib.Arith.{digits_mod}
use lib.Pow.{pow_mono}
use Rattle.word.specs.Word.{low, Xlen}
use Rattle.word.proofs.WordLaws.{low-low, split_lt, xlen_bounds}

-- a way that is shorter than all addresses doesn't lead back
pub moved : (n u d : ℕ) → u < n → 0 < d → d < n → (u + d) % n ≢ u
moved n u d below some short e =
    ⊎_elim
    (λ (l : u + d < n). let f : (u + d) % n ≡ u + d = mod-eq_of_lt l in omega (arith, e, f))
    (λ (g : n ≤ u + d).
    let split : u + d ≡ 1 * n + (u + d - n) = omega (arith, one-mul n) in
    let f : (u + d) % n ≡ u + d - n = ap (λ (x : ℕ). x % n) split ∙ digits_mod 1 {m = n} {r = u + d - n} (omega arith) in
    omega (arith, e, f))
    (split_lt (u + d) n)

-- what leads by a multiple of 2 ^ 64 leads nowhere, at a width of at most 64 bits
pub stays_put : (xlen p v : ℕ) → xlen ≤ 64 → p < 2 ^ xlen → v % 2 ^ 64 ≡ 0 → (p + v) % 2 ^ xlen ≡ p
unfolding low
stays_put xlen p v most below e =
    let whole : v % 2 ^ xlen ≡ 0 = sym (low-low 64 xlen most v) ∙ ap (λ (x : ℕ). x % 2 ^ xlen) e ∙ mod-eq_of_lt (omega (arith, below)) in
    let split : p + v ≡ v / 2 ^ xlen * 2 ^ xlen + p = omega (arith, whole, div-add-mod' v (2 ^ xlen)) in
    ap (λ (x : ℕ). x % 2 ^ xlen) split ∙ digits_mod (v / 2 ^ xlen) below

-- there are at least 2 ^ 32 addresses
pub addresses : (xlen : ℕ) → Xlen xlen → 2 ^ 32 ≤ 2 ^ xlen
addresses xlen is = pow_mono (xlen_bounds xlen is).0
