use mathlib.Core.Bool.{Bool, true}
use mathlib.Core.Logic.{◌⊎◌, ◌↔◌, inl, inr}
use mathlib.Core.Path.{◌≡◌, refl}
use native.Mathlib.Omega.{arith}
use borrow.Author.Tests.{leb-true, le-leb}
use Rattle.word.proofs.TestLaws.{contrary, not_zero}
use Prim.Native.Nat.{ℕ, ◌^◌, ◌≤◌}
use Rattle.reserve.specs.Range.{Touch, touches}
use Rattle.reserve.proofs.RangeLaws.{touches_only, empty_apart, ends_exact}
use Rattle.reserve.proofs.touch.Goals as goal

told : (b n c m : ℕ) (r : Bool) → (Touch b n c m → r ≡ true) → (r ≡ true → Touch b n c m) → ((r ≡ true) ↔ Touch b n c m) × (r ≡ touches b n c m)
told b n c m r always only = ((only, always), touches_only b n c m r (only, always))

pub returns-then-n-eq0 : goal.returns-then-n-eq0
returns-then-n-eq0 c =
    let a = c.args in
    let none : (a.n ≡ 0) ⊎ (a.m ≡ 0) = elim c.then-n-eq0.branch [
      | goal.then-n-eq0-via-then-n-eq0 w ↦ let e : a.n ≡ 0 = omega arith in inl e
      | goal.then-n-eq0-via-else-n-eq0+then-m-eq0 w ↦ let e : a.m ≡ 0 = omega arith in inr e
    ] in
    let t = told a.b a.n a.c a.m _ (λ s. absurd (empty_apart a.b a.n a.c a.m none s)) (λ e. contrary e refl) in
    record { variant = t.0; value = t.1 }

pub returns : goal.returns
returns c =
    let a = c.args in
    let some-n = not_zero a.n (λ (e : a.n ≡ 0). omega (arith, e, c.if-n-eq0.false)) in
    let some-m = not_zero a.m (λ (e : a.m ≡ 0). omega (arith, e, c.if-m-eq0.false)) in
    let exact : (c.max.result ≤ c.min.result) ↔ Touch a.b a.n a.c a.m =
    rw (c.max.ensures, c.min.ensures, c.last.ensures, c.last-2.ensures)
    (ends_exact a.b a.n a.c a.m (2 ^ 64) (omega arith) (omega arith) some-n some-m) in
    let t = told a.b a.n a.c a.m _ (λ s. le-leb c.max.result c.min.result (exact.1 s))
    (λ e. exact.0 (leb-true c.max.result c.min.result e)) in
    record { variant = t.0; value = t.1 }
