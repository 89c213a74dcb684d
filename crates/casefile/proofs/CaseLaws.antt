-- What holds of every case that is read, on every board; on a board that is allowed it is sound. Assumes nothing.
use mathlib.Core.Path.{◌≡◌, refl, sym, ap, subst}
use mathlib.Core.Bool.{true}
use mathlib.Core.List.{List}
use Prim.Native.Nat.{ℕ, zero, suc, ◌+◌, ◌*◌, ◌-◌, ◌/◌, ◌%◌, ◌≤◌}
use native.Mathlib.Omega.{arith}
use lib.Dec.{eqb}
use lib.ListN.{length, drop, length-drop}
use borrow.Author.Tests.{eqb-true}
use Rattle.word.specs.Memory.{part}
use Rattle.word.proofs.TestLaws.{bool_cases}
use Rattle.word.proofs.ChooseLaws.{cond_all}
use Rattle.word.proofs.MemoryLaws.{length_part}
use Rattle.settings.specs.Boards.{default_board, BoardRules}
use Rattle.settings.specs.declared.Board.{Board}
use Rattle.settings.proofs.SettingsLaws.{default_board_allowed}
use Rattle.machine.specs.Rules.{LentRules, Shaped}
use Rattle.machine.specs.declared.State.{State}
use Rattle.machine.proofs.StateLaws.{refusal_0}
use Rattle.std.specs.Prelude.{Result, Ok, Err}
use Rattle.refusal.specs.declared.Refusal.{Refusal}
use Rattle.events.specs.Events.{good_event, first_bad, Checked, checked_of, Within}
use Rattle.casefile.specs.Table.{table_of, InsideFile}
use Rattle.casefile.specs.Harts.{base_of, count_of, harts_ok, settings_of, state_of}
use Rattle.casefile.specs.Case.{memory_body_ok, checked_case, bodies_of, parts_of, case_on, case_of, SoundCase}
use Rattle.casefile.specs.Rules.{harts_in}
use Rattle.casefile.specs.declared.Bodies.{Bodies}
use Rattle.casefile.specs.declared.Case.{Case}
use Rattle.casefile.proofs.TableLaws.{table_inside}
use Rattle.casefile.proofs.HartsLaws.{harts_exact, harts_state, state_shaped}
use Rattle.casefile.proofs.RuleLaws.{memory_body_exact, accepted_exact_on}

-- the place of a bad event is in the body
module _ (count base len : ℕ) (body : List ℕ) where
  first_within : (k : ℕ) → k % 24 ≡ 0 → (n p : ℕ) → p + 24 * n ≤ k → Within (first_bad count base len body n p) k
  unfolding first_bad
  first_within k whole zero p h = whole
  first_within k whole (suc n) p h =
      let here : p ≤ k = omega arith in
      cond_all (λ c. Within c k) (good_event count base len (part body p 24)) _ (Err p) (first_within k whole n (p + 24) (omega arith)) here

  pub checked_within : Within (checked_of count base len body) (length body)
  unfolding checked_of
  checked_within =
      bool_cases (eqb (length body % 24) 0)
      (λ t. rw t (first_within (length body) (eqb-true _ _ t) (length body / 24) 0 (omega arith)))
      (λ t. rw t (omega arith))

-- the bodies of a file that start at 40, m and e
module _ (board : Board) (ok : BoardRules board) (file : List ℕ) (m e : ℕ)
    (least : 40 ≤ m) (next : m ≤ e) (last : e ≤ length file) (most : length file ≤ 65536) (harts : List ℕ) where
  abbrev memory : List ℕ
  memory = part file m (e - m)

  some : length memory ≡ e - m
  some = length_part file m (e - m) (omega arith)

  rest : length (drop e file) ≡ length file - e
  rest = rw length-drop refl

  abbrev checked : Checked
  checked = checked_of (count_of harts) (base_of harts) (length memory) (drop e file)

  checked_sound : harts_ok board harts ≡ true → memory_body_ok board harts (length memory) ≡ true → (r : Checked) → checked ≡ r → Within r (length (drop e file))
      → SoundCase file (checked_case board m e harts r)
  unfolding state_of
  checked_sound h l (Err place) c w = (omega arith, omega arith, omega (arith, rest))
  checked_sound h l (Ok x) c w =
      let r = (harts_exact board harts).0 h in
      let q = (memory_body_exact board harts (length memory)).0 l in
      let lent : LentRules (settings_of board harts) (base_of harts) (e - m) = ((rw some at q).0.0, (rw some at q).0.1, (rw some at q).0.2, r.4, r.5) in (
        least,
        next,
        last,
        most,
        (refusal_0 (base_of harts) (e - m) (state_of board (count_of harts) harts)).1
            ((ok.0, lent, (rw some at q).1), harts_state board harts (base_of harts) (e - m) ok r),
        rw some at c,
        rw rest at w,
      )

  bodies_sound : SoundCase file (bodies_of board m e harts memory (drop e file))
  unfolding bodies_of
  bodies_sound =
      bool_cases (harts_ok board harts)
      (λ h.
      bool_cases (memory_body_ok board harts (length memory))
      (λ l. rw (h, l) (checked_sound h l checked refl (checked_within (count_of harts) (base_of harts) (length memory) (drop e file))))
      (λ l. rw (h, l) (omega arith, omega arith, omega arith)))
      (λ h. rw h (omega arith, omega arith, omega arith))

-- what holds of the state of every harts body holds of a case's
module _ (board : Board) (P : State → Type 0) (some : (harts : List ℕ) → P (state_of board (count_of harts) harts)) where
  case_state : (file : List ℕ) (c : Case) → case_on board file ≡ Ok c → P c.state
  case_state file c read =
      subst (λ (k : Case). P k.state) (sym ((accepted_exact_on board file c).0 read).0) (some (harts_in file))

module _ (board : Board) where
  -- a refusal's place is in the file; a case's bodies are, and no run of it is refused
  pub case_sound_on : BoardRules board → (file : List ℕ) → SoundCase file (case_on board file)
  unfolding case_on
  case_sound_on ok file = go (table_of file) (table_inside file)
    where
      go : (t : Result Bodies Refusal) → InsideFile (length file) t → SoundCase file (parts_of board file t)
      go (Err r) h = (h.0, omega arith, h.2)
      go (Ok b) h = bodies_sound board ok file b.memory b.events h.0 h.1 h.2 h.3 (part file 40 (b.memory - 40))

  -- and the arrays of its state have the lengths that their types say
  pub case_shaped_on : (file : List ℕ) (c : Case) → case_on board file ≡ Ok c → Shaped c.state
  case_shaped_on = case_state board Shaped (λ harts. state_shaped board harts (count_of harts))

  -- a case that is read has the board's settings and its own kind
  pub case_settings_on : (file : List ℕ) (c : Case) → case_on board file ≡ Ok c → c.state.settings ≡ settings_of board (harts_in file)
  unfolding state_of
  case_settings_on file c read = ap (λ (k : Case). k.state.settings) ((accepted_exact_on board file c).0 read).0

  pub read_sound : BoardRules board → (file : List ℕ) (r : Result Case Refusal) → r ≡ case_on board file → (r ≡ case_on board file) × SoundCase file r
  read_sound ok file r h = (h, subst (λ (c : Result Case Refusal). SoundCase file c) (sym h) (case_sound_on ok file))

-- where no board is given
pub case_sound : (file : List ℕ) → SoundCase file (case_of file)
case_sound = case_sound_on default_board default_board_allowed

pub case_shaped : (file : List ℕ) (c : Case) → case_of file ≡ Ok c → Shaped c.state
case_shaped = case_shaped_on default_board

-- a read case then has the default settings but for its kind: 02 [5], "default 64"; [7], "2.1 the default"
pub case_settings : (file : List ℕ) (c : Case) → case_of file ≡ Ok c → (c.state.settings.size ≡ 64) × (c.state.settings.version ≡ 21)
unfolding state_of
case_settings = case_state default_board (λ s. (s.settings.size ≡ 64) × (s.settings.version ≡ 21)) (λ harts. (refl, refl))

-- [11]: "default 0"
pub case_misaligned : (file : List ℕ) (c : Case) → case_of file ≡ Ok c → c.state.settings.misaligned ≡ 0
unfolding state_of
case_misaligned = case_state default_board (λ s. s.settings.misaligned ≡ 0) (λ harts. refl)
