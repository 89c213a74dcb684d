-- The 8 bytes beside the answer to an event tell who lost a reservation to it. Assumes nothing.
use mathlib.Core.Path.{◌≡◌, refl, sym, ap, ◌∙◌, subst}
use mathlib.Core.Logic.{◌↔◌}
use mathlib.Core.List.{List}
use Prim.Native.Nat.{ℕ, ◌<◌}
use native.Mathlib.Nat.{mod-eq_of_lt}
use native.Mathlib.Omega.{arith}
use lib.ListN.{length}
use Rattle.word.specs.Bytes.{le, to_le}
use Rattle.word.proofs.BytesLaws.{le-to_le}
use Rattle.layout.specs.Layout.{state_size, state_in}
use Rattle.events.specs.declared.Event.{Event}
use Rattle.model.specs.Perform.{Machine, broke_at, outcome_at}
use Rattle.model.specs.declared.Outcome.{Outcome}
use Rattle.model.specs.declared.Outcome.TheVariants.{Retired, ScStored, ScFailed, Trap, Refused}
use Rattle.broken.specs.Broken.{Bit, Loses}
use Rattle.broken.proofs.Broken.{broke_byte, broke_exact}
use Rattle.capi.specs.Events.{code_of, value_of, PerformedOn}
use Rattle.capi_means.specs.Values.{TellsLosers}
use Rattle.capi_means.proofs.Means.{sized}

retired_value : (o : Outcome) (broke : ℕ) → code_of o < 256 → value_of o broke ≡ broke
retired_value Retired broke h = refl
retired_value ScStored broke h = refl
retired_value ScFailed broke h = refl
retired_value (Trap cause value) broke h = absurd (omega arith)
retired_value (Refused number) broke h = absurd (omega arith)

pub tells_losers : (e : Event) (base : ℕ) (state mem value : List ℕ) (r : ℕ) (state' mem' value' : List ℕ)
    → PerformedOn e base state mem value r state' mem' value' → TellsLosers e base state mem r value'
tells_losers e base state mem value r state' mem' value' p h k =
    sized (length state) state_size (length value) 8
    (λ l n.
    let m : Machine = record { state = state_in state; mem = mem } in
    let t = p.right l n in
    let number = ap (to_le 8) (retired_value (outcome_at base m e) (broke_at base m e) (omega (arith, t.answer))) in
    let read = ap le (t.value ∙ number) ∙ le-to_le 8 (broke_at base m e) ∙ mod-eq_of_lt (omega (arith, broke_byte base m e)) in
    subst (λ (v : ℕ). Bit k v ↔ Loses base m e k) (sym read) (broke_exact base m e k))
    (λ w. absurd (omega (arith, (p.wrong w).0)))
