-- States that differ at most in unused harts (01, refusal 2: "unused harts' fields aren't looked at and never change").
-- RULES 1.1, 2.1.
use Rattle.std.specs.Prelude.{◌≡◌, List, [], ◌∷◌, ℕ, ◌<◌, get_or}
use Rattle.machine.specs.declared.State.{State}
use Rattle.effect.specs.Execute.{reg_at}
use Rattle.events.specs.declared.Event.{Event}
use Rattle.model.specs.Perform.{Machine, reservation_of, reply_at, next_of}
use Rattle.model.specs.Run.{Result}
use Rattle.model.specs.declared.Reply.{Reply}

-- The counts and the settings are the same, and so are all registers, the pc and the reservation of each hart below the count. Nothing is asked of
-- unused harts.
pub record Agree (s t : State) : Type 0 where
  pub counts : s.count ≡ t.count
  pub settings : s.settings ≡ t.settings
  pub registers : (k : ℕ) → k < s.count → (r : ℕ) → reg_at s.x k r ≡ reg_at t.x k r
  pub pcs : (k : ℕ) → k < s.count → get_or s.pc k 0 ≡ get_or t.pc k 0
  pub reservations : (k : ℕ) → k < s.count → reservation_of s k ≡ reservation_of t k

-- The same memory, and states that agree.
pub record Alike (m n : Machine) : Type 0 where
  pub memory : m.mem ≡ n.mem
  pub states : Agree m.state n.state

-- Two runs of an events body end alike: the same verdict, the same count of events performed, the same memory, and states that agree.
pub record AlikeRuns (a b : Result) : Type 0 where
  pub verdict : a.ran.verdict ≡ b.ran.verdict
  pub performed : a.ran.performed ≡ b.ran.performed
  pub memory : a.mem ≡ b.mem
  pub states : Agree a.ran.state b.ran.state

-- the replies to events one after another, the first one first: of each the outcome and the harts whose reservation it broke
unfoldable pub replies_of : ℕ → Machine → List Event → List Reply
replies_of base m [] = []
replies_of base m (e ∷ es) = reply_at base m e ∷ replies_of base (next_of base m e) es
