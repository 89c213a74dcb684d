-- A log replayed from a case file, case by case and without tests: 7 to 11 first, then 12, then 13, then its rows; and what becomes of the file's bytes. On
-- every board that is allowed. Assumes nothing.
use Rattle.std.specs.Prelude.{Option, Some, None, Ok, Err}
use mathlib.Core.Path.{◌≡◌, refl, sym, ap, ◌∙◌, subst}
use mathlib.Core.Logic.{◌⊎◌, ⊎_elim}
use mathlib.Core.List.{List, [], ◌∷◌}
use Prim.Native.Nat.{ℕ, ◌+◌, ◌-◌, ◌/◌, ◌%◌, ◌≤◌, ◌<◌}
use native.Mathlib.Omega.{arith}
use lib.Dec.{eqb}
use lib.ListN.{length, get_or}
use borrow.Author.Tests.{eq-eqb, ne_eqb}
use borrow.Rule.Slice.PartMut.{put_same}
use Rattle.word.specs.Memory.{part, splice}
use Rattle.word.proofs.ChooseLaws.{cond_all}
use Rattle.word.proofs.MemoryLaws.{length_part, splice_before, splice_after, part-splice}
use Rattle.settings.specs.Boards.{default_board, BoardRules}
use Rattle.settings.specs.declared.Board.{Board}
use Rattle.settings.proofs.SettingsLaws.{default_board_allowed}
use Rattle.machine.specs.State.{refusal_of}
use Rattle.machine.specs.declared.State.{State}
use Rattle.machine.proofs.StateLaws.{refusal_0}
use Rattle.events.specs.declared.Event.TheVariants.{Step}
use Rattle.model.specs.Perform.{Machine}
use Rattle.model.specs.Valid.{Valid}
use Rattle.model.proofs.Valid.{length_next}
use Rattle.refusal.specs.declared.Refusal.{Refusal}
use Rattle.steplog.specs.declared.Row.{Row}
use Rattle.casefile.specs.Case.{case_on, case_of, SoundCase}
use Rattle.casefile.specs.Harts.{no_state}
use Rattle.casefile.specs.declared.Case.{Case}
use Rattle.casefile.proofs.CaseLaws.{case_sound_on}
use Rattle.rows.specs.Row.{Told, told_of, stepped}
use Rattle.rows.specs.Replay.{readings, End, end_by, end_of, Result, refused_replay, replay_of}
use Rattle.rows.specs.declared.Stop.TheVariants as S
use Rattle.rows.proofs.ReplayLaws.{valid_stepped}
use Rattle.case_replay.specs.CaseReplay.{FileResult, left_at, case_replay, file_replay_on, file_replay}
use Rattle.case_replay.proofs.FileLaws.{lent_body}

-- ---- the memory keeps its length

length_stepped : (base : ℕ) (m : Machine) → Valid base m → (r : Option Row) → length (stepped base m r).mem ≡ length m.mem
unfolding stepped
length_stepped base m v None = refl
length_stepped base m v (Some r) = length_next base m v (Step r.hart)

length_end : (base : ℕ) (m : Machine) → Valid base m → (rs : List (Option Row)) → length (end_of base m rs).machine.mem ≡ length m.mem
unfolding end_of
length_end base m v [] = refl
length_end base m v (r ∷ rs) =
    go (told_of base m r) (end_of base (stepped base m r) rs)
    (length_end base (stepped base m r) (valid_stepped base m v r) rs ∙ length_stepped base m v r)
  where
    go : (t : Told) (e : End) → length e.machine.mem ≡ length m.mem → length (end_by t m e).machine.mem ≡ length m.mem
    go (Ok x) e h = h
    go (Err s) e h = refl

abbrev KeepsLength : List ℕ → Result → Type 0
KeepsLength mem r = length r.mem ≡ length mem

length_replay : (base : ℕ) (mem : List ℕ) (s : State) (log : List ℕ) → refusal_of base (length mem) s ≡ 0 → KeepsLength mem (replay_of base mem s log)
unfolding replay_of
length_replay base mem s log ok =
    let m : Machine = record { state = s; mem = mem } in
    let rows = length_end base m ((refusal_0 base (length mem) s).0 ok) (readings s.count (length log / 48) log) in
    cond_all (KeepsLength mem) (eqb (refusal_of base (length mem) s) 0) _ _
    (cond_all (KeepsLength mem) (eqb (length log % 48) 0) _ _ (cond_all (KeepsLength mem) (eqb (length log) 0) _ _ refl rows) refl) refl

-- ---- case by case

module _ (board : Board) (file log : List ℕ) where
  -- "after 11": a file that 7 to 11 refuse is refused so, whatever the log, and no byte of it changes
  pub file_refused_on : (r : Refusal) → case_on board file ≡ Err r
      → file_replay_on board file log ≡ record { replayed = record { stop = S.Refused r; rows = 0; state = no_state }; file = file }
  unfolding file_replay_on
  file_refused_on r h = ap (case_replay file log) h

  module _ (allowed : BoardRules board) (c : Case) (h : case_on board file ≡ Ok c) where
    abbrev m : ℕ
    m = c.memory

    abbrev e : ℕ
    e = c.events

    abbrev body : List ℕ
    body = part file m (e - m)

    sound : SoundCase file (Ok c)
    sound = subst (SoundCase file) h (case_sound_on board allowed file)

    long : length body ≡ e - m
    long = length_part file m (e - m) (omega (arith, sound.1, sound.2))

    ok : refusal_of c.base (length body) c.state ≡ 0
    ok = rw long sound.4

    -- Of a file that 7 to 11 don't refuse, it is the replay on the case's harts and the file's memory body: 12 and 13 then, or its rows.
    pub is_on : file_replay_on board file log ≡ left_at file m (replay_of c.base body c.state log)
    unfolding file_replay_on
    is_on = ap (case_replay file log) h

    same : splice file m body ≡ file
    unfolding part
    same = sym (lent_body file m e body body sound.1 sound.2 refl refl) ∙ put_same m (e - m) file

    refused_so : (number : ℕ) → replay_of c.base body c.state log ≡ refused_replay number c.state body
        → file_replay_on board file log ≡ record { replayed = record { stop = S.Refused (record { number = number; place = 0 }); rows = 0; state = c.state }; file = file }
    refused_so number r =
        is_on ∙ ap (left_at file m) r
        ∙ ap (λ (l : List ℕ). record { replayed = record { stop = S.Refused (record { number = number; place = 0 }); rows = 0; state = c.state }; file = l }) same

    -- "12, log length not a multiple of 48, after 11": no byte changes
    pub log_cut_on : (length log % 48 ≡ 0 → ⊥)
        → file_replay_on board file log ≡ record { replayed = record { stop = S.Refused (record { number = 12; place = 0 }); rows = 0; state = c.state }; file = file }
    unfolding replay_of
    log_cut_on d = refused_so 12 (rw (eq-eqb _ _ ok, ne_eqb _ _ d) refl)

    -- "13, a log of no rows, after 12": no byte changes
    pub log_empty_on : length log ≡ 0 → file_replay_on board file log ≡ record { replayed = record { stop = S.Refused (record { number = 13; place = 0 }); rows = 0; state = c.state }; file = file }
    unfolding replay_of
    log_empty_on z =
        let whole : length log % 48 ≡ 0 = omega arith in
        refused_so 13 (rw (eq-eqb _ _ ok, eq-eqb _ _ whole, eq-eqb _ _ z) refl)

    -- ---- the bytes of the file
    as_long : length (replay_of c.base body c.state log).mem ≡ e - m
    as_long = length_replay c.base body c.state log ok ∙ long

    fits : m + length (replay_of c.base body c.state log).mem ≤ length file
    fits = omega (arith, sound.1, sound.2, as_long)

    -- every byte outside the memory body is as before
    pub outside_kept_on : (k : ℕ) → (k < m) ⊎ (e ≤ k) → get_or (file_replay_on board file log).file k 0 ≡ get_or file k 0
    outside_kept_on k out =
        ap (λ (r : FileResult). get_or r.file k 0) is_on
        ∙ ⊎_elim (λ (b : k < m). splice_before file m (replay_of c.base body c.state log).mem fits k b)
        (λ (a : e ≤ k). splice_after file m (replay_of c.base body c.state log).mem fits k (omega (arith, sound.1, sound.2, as_long))) out

    -- and the memory body is the memory that the replay leaves
    pub memory_left_on : part (file_replay_on board file log).file m (e - m) ≡ (replay_of c.base body c.state log).mem
    memory_left_on =
        ap (λ (r : FileResult). part r.file m (e - m)) is_on
        ∙ ap (part (splice file m (replay_of c.base body c.state log).mem) m) (sym as_long)
        ∙ part-splice file m (replay_of c.base body c.state log).mem fits

-- ---- and where no board is given

module _ (file log : List ℕ) where
  pub file_refused : (r : Refusal) → case_of file ≡ Err r
      → file_replay file log ≡ record { replayed = record { stop = S.Refused r; rows = 0; state = no_state }; file = file }
  file_refused = file_refused_on default_board file log

  module _ (c : Case) (h : case_of file ≡ Ok c) where
    abbrev mem : List ℕ
    mem = part file c.memory (c.events - c.memory)

    pub is : file_replay file log ≡ left_at file c.memory (replay_of c.base mem c.state log)
    is = is_on default_board file log default_board_allowed c h

    pub log_cut : (length log % 48 ≡ 0 → ⊥)
        → file_replay file log ≡ record { replayed = record { stop = S.Refused (record { number = 12; place = 0 }); rows = 0; state = c.state }; file = file }
    log_cut = log_cut_on default_board file log default_board_allowed c h

    pub log_empty : length log ≡ 0
        → file_replay file log ≡ record { replayed = record { stop = S.Refused (record { number = 13; place = 0 }); rows = 0; state = c.state }; file = file }
    log_empty = log_empty_on default_board file log default_board_allowed c h

    pub outside_kept : (k : ℕ) → (k < c.memory) ⊎ (c.events ≤ k) → get_or (file_replay file log).file k 0 ≡ get_or file k 0
    outside_kept = outside_kept_on default_board file log default_board_allowed c h

    pub memory_left : part (file_replay file log).file c.memory (c.events - c.memory) ≡ (replay_of c.base mem c.state log).mem
    memory_left = memory_left_on default_board file log default_board_allowed c h
