-- How a line tells whose reservation its event broke (02 [3]: "An event line gets ` broke` and two lower-case hex digits where the set isn't empty,
-- before the line end."), without tests.
-- RULES 9.
use Rattle.std.specs.Prelude.{◌≡◌, ◌≢◌, List, [], ◌++◌, ℕ, length}
use Rattle.text.specs.Ascii.{ascii}
use Rattle.text.specs.Number.{decimal_of, Numeral}
use Rattle.events.specs.declared.Event.{Event}
use Rattle.model.specs.declared.Outcome.{Outcome}
use Rattle.lines.specs.Lines.{who_of, said_of}

-- what stands behind the outcome, where these harts lost their reservations: nothing if there are none, else the word and two digits that are the set
pub data Suffix (broke : ℕ) (text : List ℕ) : Type 0 where
  none : broke ≡ 0 → text ≡ [] → Suffix broke text
  some : broke ≢ 0 → (digits : List ℕ) → text ≡ ascii " broke " ++ digits → length digits ≡ 2 → Numeral 16 broke digits → Suffix broke text

-- the line of event number k, with this outcome: its number, who, what came of it, the harts that lost their reservations, a line feed
pub record Line (k : ℕ) (e : Event) (o : Outcome) (broke : ℕ) (text : List ℕ) : Type 0 where
  pub suffix : List ℕ
  pub tells : Suffix broke suffix
  pub whole : text ≡ decimal_of k ++ (ascii " " ++ (who_of e ++ (said_of o ++ (suffix ++ ascii "\n"))))
