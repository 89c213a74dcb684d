-- What the rows of refusals decide: a refusal has one number and one place, and an answer is refused exactly so by the rows. Assumes nothing.
use Prim.Native.Nat.{ℕ, ◌≤◌}
use mathlib.Core.Path.{◌≡◌, sym, ◌∙◌, ap, ap₂}
use native.Mathlib.Omega.{arith}
use Rattle.events.specs.Rows.{FirstRow, NoRow}
use Rattle.events.proofs.RuleLaws.{not_lower}

-- one number and one place
pub one_row : (Row : ℕ → ℕ → Type 0) (m p n q : ℕ) → FirstRow Row m p → FirstRow Row n q → (m ≡ n) × (p ≡ q)
one_row Row m p n q a b =
    let up : n ≤ m = not_lower m n (λ l. b.first m p l a.applies) in
    let down : m ≤ n = not_lower n m (λ l. a.first n q l b.applies) in
    let e : m ≡ n = omega (arith, up, down) in
    let right : q ≤ p = not_lower p q (λ l. b.lowest p l (rw (← e) a.applies)) in
    let left : p ≤ q = not_lower q p (λ l. a.lowest q l (rw e b.applies)) in
    (e, omega (arith, left, right))

-- An answer that is refused by a number at a place, or is the one without a refusal.
module _ (Row : ℕ → ℕ → Type 0) {A : Type 0} (answer : A) (refused : ℕ → ℕ → A) (accepted : A) where
  -- refused by the first row that applies, at the lowest place, or not at all
  pub data Decided : Type 0 where
    refuses : (n p : ℕ) → answer ≡ refused n p → FirstRow Row n p → Decided
    accepts : answer ≡ accepted → NoRow Row → Decided

  pub refused_by : Decided → (n p : ℕ) → FirstRow Row n p → answer ≡ refused n p
  refused_by (refuses m q c r) n p g = let one = one_row Row m q n p r g in c ∙ ap₂ refused one.0 one.1
  refused_by (accepts c u) n p g = absurd (u n p g.applies)

  pub accepted_by : Decided → NoRow Row → answer ≡ accepted
  accepted_by (refuses m q c r) u = absurd (u m q r.applies)
  accepted_by (accepts c _) u = c

  -- and the other way, where an answer tells whether it is a refusal (1) or not (0), its number and its place
  module _ (refusals number_in place_in : A → ℕ) (counted : (n p : ℕ) → refusals (refused n p) ≡ 1) (uncounted : refusals accepted ≡ 0)
      (numbered : (n p : ℕ) → number_in (refused n p) ≡ n) (placed : (n p : ℕ) → place_in (refused n p) ≡ p) where
    pub row_of : Decided → refusals answer ≡ 1 → FirstRow Row (number_in answer) (place_in answer)
    row_of (refuses m q c r) o =
        let a : m ≡ number_in answer = sym (ap number_in c ∙ numbered m q) in
        let b : q ≡ place_in answer = sym (ap place_in c ∙ placed m q) in
        rw (← a, ← b) r
    row_of (accepts c u) o = let z : ◌≡◌ {A = ℕ} 1 0 = sym o ∙ ap refusals c ∙ uncounted in absurd (omega arith)

    pub no_row_of : Decided → refusals answer ≡ 0 → NoRow Row
    no_row_of (refuses m q c r) o = let z : ◌≡◌ {A = ℕ} 0 1 = sym o ∙ ap refusals c ∙ counted m q in absurd (omega arith)
    no_row_of (accepts c u) o = u
