-- The numbers of events and runs are small, and what is written is what an answer says. Assumes nothing.
use mathlib.Core.Path.{◌≡◌, sym, ◌∙◌, subst}
use mathlib.Core.Bool.{Bool, true, false, cond}
use mathlib.Core.List.{List}
use Prim.Native.Nat.{ℕ, ◌≤◌}
use native.Mathlib.Omega.{arith}
use lib.Dec.{eqb}
use lib.ListN.{length}
use Rattle.machine.specs.State.{memory_ok, state_ok, refusal_of}
use Rattle.machine.specs.declared.State.{State}
use Rattle.std.specs.Prelude.{Ok, Err}
use Rattle.events.specs.Events.{Checked, checked_of}
use Rattle.events.specs.declared.Event.{Event}
use Rattle.model.specs.Perform.{answer_of}
use Rattle.model.specs.Run.{run_checked, refused_run, result_of}
use Rattle.model.specs.declared.Answer.{Answer}
use Rattle.model.specs.declared.Ran.{Ran}
use Rattle.model.specs.declared.Outcome.{Outcome}
use Rattle.model.specs.declared.Outcome.TheVariants.{Retired, ScStored, ScFailed, Trap, Refused}
use Rattle.model.specs.Retired.{IsRetired}
use Rattle.answers.specs.Answered.{Answered, refused, trapped, retired}
use Rattle.answers.proofs.Answers.{answered}
use Rattle.capi.specs.Events.{state_if, Small, is_retired, is_performed, SmallVerdict}

small_retired : (o : Outcome) → IsRetired o → Small o
small_retired Retired r = tt
small_retired ScStored r = tt
small_retired ScFailed r = tt
small_retired (Trap cause value) r = absurd r
small_retired (Refused number) r = absurd r

small_answered : (o : Outcome) → Answered o → Small o
small_answered o (refused number least most e) = subst Small (sym e) (omega arith)
small_answered o (trapped cause value most e) = subst Small (sym e) most
small_answered o (retired r) = small_retired o r

module _ (base : ℕ) (mem : List ℕ) (s : State) where
  pub small_answer : (e : Event) → Small (answer_of base mem s e).outcome
  small_answer e = small_answered (answer_of base mem s e).outcome (answered base mem s e)

  pub small_refusal : refusal_of base (length mem) s ≤ 2
  unfolding refusal_of
  small_refusal = go (memory_ok s.settings base (length mem)) (state_ok base (length mem) s)
    where
      go : (p q : Bool) → cond p (cond q 0 2) 1 ≤ 2
      go true true = omega arith
      go true false = omega arith
      go false q = omega arith

  small_checked : (c : Checked) (body : List ℕ) (budget : ℕ) → SmallVerdict (run_checked c base mem s body budget).ran.verdict
  small_checked (Ok x) body budget = tt
  small_checked (Err place) body budget = omega arith

  pub small_result : (body : List ℕ) (budget : ℕ) → SmallVerdict (result_of base mem s body budget).ran.verdict
  unfolding result_of
  small_result body budget = go (eqb (refusal_of base (length mem) s) 0)
    where
      go : (t : Bool)
          → SmallVerdict
          (cond t (run_checked (checked_of s.count base (length mem) body) base mem s body budget) (refused_run (refusal_of base (length mem) s) 0 s mem)
          ).ran.verdict
      go true = small_checked (checked_of s.count base (length mem) body) body budget
      go false = omega (arith, small_refusal)

-- the bytes of a state written if a flag says so, where the flag and the state are those of an answer
module _ (state : List ℕ) where
  pub event_written : (a b : Answer) → a ≡ b → (t : Bool) → t ≡ is_retired a.outcome → (new : List ℕ) → new ≡ state_if t state a.state
      → new ≡ state_if (is_retired b.outcome) state b.state
  event_written a b p t f new e = e ∙ rw (f, p)

  pub run_written : (a b : Ran) → a ≡ b → (t : Bool) → t ≡ is_performed a.verdict → (new : List ℕ) → new ≡ state_if t state a.state
      → new ≡ state_if (is_performed b.verdict) state b.state
  run_written a b p t f new e = e ∙ rw (f, p)
