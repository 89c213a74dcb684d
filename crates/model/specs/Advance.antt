-- What the code that works in place promises: of what a step came to, of an act, and of an event.
use Rattle.std.specs.Prelude.{◌≡◌, ℕ, Result, Ok, Err, set}
use Rattle.reserve.specs.Reserve.{observe_all_of}
use Rattle.machine.specs.declared.State.{State}
use Rattle.effect.specs.declared.Effect.{Effect}
use Rattle.effect.specs.declared.Trap.{Trap}
use Rattle.events.specs.declared.Event.{Event}
use Rattle.model.specs.Act.{Act, set_reg, retired_as, outcome_of, broken_after, apply, leaves}
use Rattle.model.specs.Perform.{Machine, outcome_at, broke_at, next_of}
use Rattle.model.specs.declared.Reply.{Reply}
use Rattle.model.specs.declared.Outcome.TheVariants as O

-- the state and the reply after what a step of hart h came to
unfoldable pub state_by : ℕ → Result Effect Trap → State → State
state_by h (Ok e) s =
    record {
      count = s.count;
      settings = s.settings;
      x = set_reg h e.rd2 e.value2 (set_reg h e.rd e.value s.x);
      pc = set s.pc h e.next;
      res = (observe_all_of s.settings s.count e.notice s.res).slots;
    }
state_by h (Err t) s = s

unfoldable pub reply_by : Result Effect Trap → State → Reply
reply_by (Ok e) s = record { outcome = retired_as e.notice; broke = (observe_all_of s.settings s.count e.notice s.res).broken }
reply_by (Err t) s = record { outcome = O.Trap t.cause t.value; broke = 0 }

-- the reply to an act on a state
abbrev pub told : State → Act → Reply
told s act = record { outcome = outcome_of act; broke = broken_after s.settings s.count act s.res }

-- the reply r to an act on a machine, and the machine afterwards
pub record Does (base : ℕ) (act : Act) (m : Machine) (r : Reply) (m' : Machine) : Type 0 where
  pub reply : r ≡ told m.state act
  pub state : m'.state ≡ apply m.state act
  pub memory : m'.mem ≡ leaves base m.mem act

-- the reply r to event e, and the machine afterwards: registers, pcs, reservations and memory
pub record Advances (base : ℕ) (e : Event) (m : Machine) (r : Reply) (m' : Machine) : Type 0 where
  pub outcome : r.outcome ≡ outcome_at base m e
  pub broke : r.broke ≡ broke_at base m e
  pub machine : m' ≡ next_of base m e
