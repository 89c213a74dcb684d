-- Accesses to memory that trap or don't, and compare-and-swap, from what the code says of them. Assumes nothing.
use mathlib.Core.Path.{◌≡◌, refl, sym, ap, ◌∙◌, subst}
use Rattle.std.proofs.Common.{Result, Ok, Err, IsErrAnd}
use Rattle.std.proofs.lemmas.Result.{err_from_is_err_and}
use mathlib.Core.Bool.{Bool, true, false, cond}
use mathlib.Core.List.{List}
use Prim.Native.Nat.{ℕ, ◌-◌}
use lib.Dec.{eqb}
use Rattle.word.specs.Bytes.{to_le}
use Rattle.word.specs.Memory.{splice}
use Rattle.word.proofs.BytesLaws.{length-to_le}
use Rattle.reserve.specs.declared.Notice.TheVariants.{Quiet, Write}
use Rattle.effect.specs.Effect.{Exec, trap, effect, Writes, nothing, store, stored, notice_of, retired, Meets}
use Rattle.effect.specs.declared.Effect.{Effect}
use Rattle.effect.specs.declared.Trap.{Trap}
use Rattle.effect.specs.Memory.{fault_of, checked}
use Rattle.effect.specs.Atomic.{swapped}

-- what the code finds of an access of n bytes at a, in a memory of len bytes at base: its place there, or its trap
abbrev pub accessed : ℕ → ℕ → ℕ → ℕ → ℕ → ℕ → Result ℕ Trap
accessed unaligned outside a n base len =
    cond (eqb (fault_of unaligned outside a n base len) 0) (Ok (a - base)) (Err (record { cause = fault_of unaligned outside a n base len; value = a }))

module _ (unaligned outside a n base len : ℕ) where
  module _ {at : ℕ} (found : Ok at ≡ accessed unaligned outside a n base len) where
    -- the access is at the place
    pub placed : at ≡ a - base
    placed = go (eqb (fault_of unaligned outside a n base len) 0) _ found
      where
        go : (b : Bool) (t : Trap) → Ok at ≡ cond b (Ok (a - base)) (Err t) → at ≡ a - base
        go true t q = cc q
        go false t q = let no : Ok at ≡ Err t = q in absurd cc

    pub passed : (e : Exec) → e ≡ checked unaligned outside a n base len e
    unfolding checked
    passed e = go (eqb (fault_of unaligned outside a n base len) 0) _ found
      where
        go : (b : Bool) (t : Trap) → Ok at ≡ cond b (Ok (a - base)) (Err t) → e ≡ cond b e (trap t.cause t.value)
        go true t q = refl
        go false t q = let no : Ok at ≡ Err t = q in absurd cc

    -- so that the instruction is what it is of an access that doesn't trap
    pub met_done : (e : Exec) {h : ℕ} {mem after : List ℕ} {r : Result Effect Trap} → Meets h e base mem r after
        → Meets h (checked unaligned outside a n base len e) base mem r after
    met_done e {h} {mem} {after} {r} m = subst (λ (x : Exec). Meets h x base mem r after) (passed e) m

  -- or it traps, and `?` returns the trap
  module _ {t : Trap} (found : Err t ≡ accessed unaligned outside a n base len) where
    pub trapped : (e : Exec) → trap t.cause t.value ≡ checked unaligned outside a n base len e
    unfolding checked
    trapped e = go (eqb (fault_of unaligned outside a n base len) 0) _ found
      where
        go : (b : Bool) (s : Trap) → Err t ≡ cond b (Ok (a - base)) (Err s) → trap t.cause t.value ≡ cond b e (trap s.cause s.value)
        go true s q = let no : Err t ≡ Ok (a - base) = q in absurd cc
        go false s q = cc q

    pub met_trap : (e : Exec) {h : ℕ} {mem : List ℕ} {r : Result Effect Trap} → IsErrAnd r (λ x. x ≡ t)
        → Meets h (checked unaligned outside a n base len e) base mem r mem
    met_trap e {h} {mem} {r} is =
        let p = err_from_is_err_and r is in
        rw (p.1, p.2) (subst (λ (x : Exec). Meets h x base mem (Err t) mem) (trapped e) (record { answer = refl; memory = refl }))

-- the effect of a compare-and-swap of hart h, from what the code says of its answer and of memory
pub met_swap : (h : ℕ) (ws : Writes) (to a n old want new base : ℕ) (mem after : List ℕ) (r : Result Effect Trap)
    → r ≡ retired ws to (cond (eqb old want) (Write h a n) Quiet)
    → after ≡ cond (eqb old want) (splice mem (a - base) (to_le n new)) mem
    → Meets h (effect ws to (swapped a n old want new)) base mem r after
met_swap h ws to a n old want new base mem after r p q =
    record { answer = p ∙ ap (retired ws to) (told_of_lem (eqb old want)); memory = q ∙ left_of_lem (eqb old want) }
  where
    told_of_lem : (t : Bool) → cond t (Write h a n) Quiet ≡ notice_of h (cond t (store a (to_le n new)) nothing)
    told_of_lem true = ap (Write h a) (sym (length-to_le n new))
    told_of_lem false = refl

    left_of_lem : (t : Bool) → cond t (splice mem (a - base) (to_le n new)) mem ≡ stored base mem (cond t (store a (to_le n new)) nothing)
    left_of_lem true = refl
    left_of_lem false = refl
