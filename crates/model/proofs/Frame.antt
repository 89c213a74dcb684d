-- The frame of an event: what follows its notice, and what stays as it was. Assumes nothing, and asks nothing of single instructions but that
-- they store inside memory.
use mathlib.Core.Path.{◌≡◌, refl, sym, ap, ◌∙◌}
use mathlib.Core.Logic.{◌≢◌, ◌⊎◌, inl, inr, ⊎_elim}
use mathlib.Core.Bool.{◌&&◌}
use mathlib.Core.List.{List, [], ◌∷◌}
use Prim.Native.Nat.{ℕ, ◌+◌, ◌-◌, ◌*◌, ◌%◌, ◌≤◌, ◌<◌, max, min}
use native.Mathlib.Nat.{add-zero}
use native.Mathlib.Omega.{arith}
use lib.Dec.{eqb, ltb, leb}
use lib.ListN.{length, get_or, length-set, take-append-drop}
use lib.Seq.{get_or-set_other}
use borrow.Author.Tests.{ltb-true, lt-ltb}
use Rattle.std.specs.Prelude.{Option, None, Some}
use Rattle.word.specs.Bytes.{le, to_le}
use Rattle.word.specs.Memory.{part, splice}
use Rattle.word.proofs.MemoryLaws.{splice_before, splice_after, part-splice_before, part-splice_after}
use Rattle.word.proofs.WordLaws.{split_lt}
use Rattle.word.proofs.ChooseLaws.{cond_cases}
use Rattle.word.proofs.TestLaws.{bool_cases}
use Rattle.word.proofs.EachLaws.{each_at, each_past, length-each}
use Rattle.reserve.specs.Range.{Touch, Inside, inside_of}
use Rattle.settings.specs.declared.Settings.{Settings}
use Rattle.reserve.specs.Reserve.{covers_of, breaks_of, own_of, observe_of, observe_slot, observe_all_of}
use Rattle.reserve.specs.declared.Reservation.{Reservation}
use Rattle.reserve.specs.declared.Notice.{Notice}
use Rattle.reserve.specs.declared.Notice.TheVariants.{Quiet, DeviceWrite, Yield}
use Rattle.reserve.proofs.RangeLaws.{of_inside}
use Rattle.isa.specs.declared.Instr.{Instr}
use Rattle.machine.specs.Rules.{Shaped}
use Rattle.machine.specs.State.{refusal_of}
use Rattle.machine.specs.declared.State.{State}
use Rattle.effect.specs.Effect.{Writes, none, one, pair, Access, nothing, reserve, store, sc_stored, sc_failed, Exec, trap, effect, stored, notice_of}
use Rattle.effect.specs.Execute.{reg_at, execute, execute_word}
use Rattle.effect.specs.Memory.{value_at}
use Rattle.effect.specs.Sound.{AccessOk}
use Rattle.events.specs.declared.Event.{Event}
use Rattle.events.specs.declared.Event.TheVariants.{Step, Device, Yield as YieldOf}
use Rattle.model.specs.Act.{Act, refuse, fault, change, put, release, act_notice, set_reg, written, registers_after, pcs_after, apply, leaves}
use Rattle.model.specs.Perform.{Machine, reservation_of, fetch_of, step_of, of_exec, device_of, act_on, act_of, answer_of, memory_of, next_of, run_of, xlen, misaligned}
use Rattle.model.specs.Valid.{Valid, ActOk}
use Rattle.model.specs.Trace.{notice_at, WritesInto, NotBy}
use Rattle.model.specs.Fetch.{Fetches}
use Rattle.model.proofs.Valid.{act_valid, act_ok}

-- What holds of every act that an event can come to holds of its act: a step and a yield are of a hart below the count.
module _ (base : ℕ) (mem : List ℕ) (s : State) (P : Act → Type 0) (refused : (number : ℕ) → P (refuse number)) where
  by_exec : (h : ℕ) (x : Exec) → ((cause value : ℕ) → P (fault cause value)) → ((ws : Writes) (to : ℕ) (t : Access) → P (change h ws to t)) → P (of_exec h x)
  by_exec h (trap cause value) f g = f cause value
  by_exec h (effect ws to t) f g = g ws to t

  pub acts : (e : Event) → ((cause value : ℕ) → P (fault cause value))
      → ((h : ℕ) → e ≡ Step h → h < s.count → (ws : Writes) (to : ℕ) (t : Access) → P (change h ws to t))
      → ((a n v : ℕ) → e ≡ Device a n v → P (put a (to_le n v))) → ((h : ℕ) → e ≡ YieldOf h → h < s.count → P (release h))
      → P (act_of base mem s e)
  unfolding act_of act_on device_of
  acts (Step h) trapped stepped device yields =
      cond_cases P (eqb (refusal_of base (length mem) s) 0) _ _
      (λ v. cond_cases P (ltb h s.count) _ _ (λ l. by_exec h (step_of base mem s h) trapped (stepped h refl (ltb-true h s.count l))) (λ z. refused 3))
      (λ z. refused _)
  acts (Device a n v) trapped stepped device yields =
      cond_cases P (eqb (refusal_of base (length mem) s) 0) _ _
      (λ r. cond_cases P (leb 1 n && leb n 8) _ _
      (λ i. cond_cases P (inside_of base (length mem) a n) _ _ (λ j. device a n v refl) (λ z. refused 5)) (λ z. refused 4))
      (λ z. refused _)
  acts (YieldOf h) trapped stepped device yields =
      cond_cases P (eqb (refusal_of base (length mem) s) 0) _ _
      (λ v. cond_cases P (ltb h s.count) _ _ (λ l. yields h refl (ltb-true h s.count l)) (λ z. refused 3)) (λ z. refused _)

-- ---- the arrays of a state

pub length-set_reg : (h r v : ℕ) (x : List ℕ) → length (set_reg h r v x) ≡ length x
unfolding set_reg
length-set_reg h r v x = bool_cases (eqb (r % 32) 0) (λ t. rw t) (λ f. rw (f, length-set))

length-written : (h : ℕ) (ws : Writes) (x : List ℕ) → length (written h ws x) ≡ length x
length-written h none x = refl
length-written h (one r v) x = length-set_reg h r v x
length-written h (pair r v r2 v2) x = length-set_reg h r2 v2 (set_reg h r v x) ∙ length-set_reg h r v x

length_slots : (settings : Settings) (count : ℕ) (n : Notice) (l : List (Option Reservation)) → length (observe_all_of settings count n l).slots ≡ length l
unfolding observe_all_of
length_slots settings count n l = length-each (observe_slot settings n) count l

pub shaped_apply : (s : State) (act : Act) → Shaped s → Shaped (apply s act)
unfolding apply
shaped_apply s (refuse number) h = record { registers = h.registers; pcs = h.pcs; reservations = h.reservations }
shaped_apply s (fault cause value) h = record { registers = h.registers; pcs = h.pcs; reservations = h.reservations }
shaped_apply s (change g ws to t) h =
    record {
      registers = length-written g ws s.x ∙ h.registers;
      pcs = rw length-set h.pcs;
      reservations = length_slots s.settings s.count (notice_of g t) s.res ∙ h.reservations;
    }
shaped_apply s (put a bs) h =
    record {
      registers = h.registers;
      pcs = h.pcs;
      reservations = length_slots s.settings s.count (DeviceWrite a (length bs)) s.res ∙ h.reservations;
    }
shaped_apply s (release g) h =
    record {
      registers = h.registers;
      pcs = h.pcs;
      reservations = length_slots s.settings s.count (Yield g) s.res ∙ h.reservations;
    }

-- a register of another hart
reg_set_reg : (g r v k q : ℕ) (x : List ℕ) → g ≢ k → reg_at (set_reg g r v x) k q ≡ reg_at x k q
unfolding set_reg reg_at
reg_set_reg g r v k q x d =
    bool_cases (eqb (r % 32) 0) (λ t. rw t) (λ f. rw f (get_or-set_other x (g * 32 + r % 32) (k * 32 + q % 32) v 0 (λ e. d (omega arith))))

reg_written : (g : ℕ) (ws : Writes) (k q : ℕ) (x : List ℕ) → g ≢ k → reg_at (written g ws x) k q ≡ reg_at x k q
reg_written g none k q x d = refl
reg_written g (one r v) k q x d = reg_set_reg g r v k q x d
reg_written g (pair r v r2 v2) k q x d = reg_set_reg g r2 v2 k q (set_reg g r v x) d ∙ reg_set_reg g r v k q x d

-- ---- reservations

pub observe_quiet : (settings : Settings) (h : ℕ) (r : Option Reservation) → observe_of settings h Quiet r ≡ r
unfolding observe_of breaks_of own_of
observe_quiet settings h None = refl
observe_quiet settings h (Some r) = refl

module _ (s : State) (k : ℕ) where
  slots_at : (n : Notice) → k < s.count → k < length s.res
      → (get_or (observe_all_of s.settings s.count n s.res).slots k None) ≡ observe_of s.settings k n (reservation_of s k)
  unfolding observe_all_of
  slots_at n u l = each_at (observe_slot s.settings n) s.count k s.res None u l

  -- a used hart's reservation follows the notice
  pub res_apply : (act : Act) → k < s.count → k < length s.res
      → reservation_of (apply s act) k ≡ observe_of s.settings k (act_notice act) (reservation_of s k)
  unfolding apply
  res_apply (refuse number) u l = sym (observe_quiet s.settings k (reservation_of s k))
  res_apply (fault cause value) u l = sym (observe_quiet s.settings k (reservation_of s k))
  res_apply (change g ws to t) u l = slots_at (notice_of g t) u l
  res_apply (put a bs) u l = slots_at (DeviceWrite a (length bs)) u l
  res_apply (release g) u l = slots_at (Yield g) u l

  slots_past : (n : Notice) → s.count ≤ k → get_or (observe_all_of s.settings s.count n s.res).slots k None ≡ get_or s.res k None
  unfolding observe_all_of
  slots_past n u = each_past (observe_slot s.settings n) s.count k s.res None u

  -- an unused hart's never changes
  pub res_past : (act : Act) → s.count ≤ k → get_or (apply s act).res k None ≡ get_or s.res k None
  unfolding apply
  res_past (refuse number) u = refl
  res_past (fault cause value) u = refl
  res_past (change g ws to t) u = slots_past (notice_of g t) u
  res_past (put a bs) u = slots_past (DeviceWrite a (length bs)) u
  res_past (release g) u = slots_past (Yield g) u

-- ---- memory

-- two ranges without a common byte
apart : (b n c m : ℕ) → (Touch b n c m → ⊥) → (b + n ≤ c) ⊎ ((c + m ≤ b) ⊎ ((n ≡ 0) ⊎ (m ≡ 0)))
unfolding Touch
apart b n c m d = go (split_lt (max b c) (min (b + n) (c + m))) (split_lt c (b + n)) (split_lt b (c + m)) (split_lt 0 n)
  where
    go : (max b c < min (b + n) (c + m)) ⊎ (min (b + n) (c + m) ≤ max b c) → (c < b + n) ⊎ (b + n ≤ c) → (b < c + m) ⊎ (c + m ≤ b) → (0 < n) ⊎ (n ≤ 0)
        → (b + n ≤ c) ⊎ ((c + m ≤ b) ⊎ ((n ≡ 0) ⊎ (m ≡ 0)))
    go (inl x) y z w = absurd (d (max b c, omega arith, omega arith, omega arith, omega arith))
    go (inr x) (inr y) z w = inl y
    go (inr x) (inl y) (inr z) w = inr (inl z)
    go (inr x) (inl y) (inl z) (inl w) = inr (inr (inr (omega arith)))
    go (inr x) (inl y) (inl z) (inr w) = inr (inr (inl (omega arith)))

splice_none : (mem : List ℕ) (k : ℕ) (bs : List ℕ) → length bs ≡ 0 → splice mem k bs ≡ mem
unfolding splice
splice_none mem k [] e = rw add-zero (take-append-drop k mem)
splice_none mem k (b ∷ bs) e = absurd (omega arith)

-- a write of bytes at b, in memory, leaves the n bytes at a that it doesn't touch
module _ (base : ℕ) (mem : List ℕ) (b : ℕ) (bs : List ℕ) (i : Inside base (length mem) b (length bs)) where
  part_kept : (a n : ℕ) → base ≤ a → (Touch b (length bs) a n → ⊥) → part (splice mem (b - base) bs) (a - base) n ≡ part mem (a - base) n
  unfolding part
  part_kept a n h d =
      ⊎_elim (λ (x : b + length bs ≤ a). part-splice_after mem (b - base) bs (omega arith) (a - base) n (omega arith))
      (⊎_elim (λ (x : a + n ≤ b). part-splice_before mem (b - base) bs (omega arith) (a - base) n (omega arith))
      (⊎_elim (λ (x : length bs ≡ 0). rw (splice_none mem (b - base) bs x)) (λ (x : n ≡ 0). rw x)))
      (apart b (length bs) a n d)

  byte_kept : (k : ℕ) → (Touch b (length bs) (base + k) 1 → ⊥) → get_or (splice mem (b - base) bs) k 0 ≡ get_or mem k 0
  byte_kept k d =
      ⊎_elim (λ (x : b + length bs ≤ base + k). splice_after mem (b - base) bs (omega arith) k (omega arith))
      (⊎_elim (λ (x : base + k + 1 ≤ b). splice_before mem (b - base) bs (omega arith) k (omega arith))
      (⊎_elim (λ (x : length bs ≡ 0). rw (splice_none mem (b - base) bs x)) (λ (x : 1 ≡ 0). absurd (omega arith))))
      (apart b (length bs) (base + k) 1 d)

-- what is kept by every write that a notice tells of is kept by the act: kept says it of one write
module _ (base : ℕ) (mem : List ℕ) (P : List ℕ → Type 0) (same : P mem) (a n : ℕ)
    (kept : (b : ℕ) (bs : List ℕ) → Inside base (length mem) b (length bs) → (Touch b (length bs) a n → ⊥) → P (splice mem (b - base) bs)) where
  by_access : (h : ℕ) (t : Access) → AccessOk base (length mem) t → (WritesInto (notice_of h t) a n → ⊥) → P (stored base mem t)
  by_access h nothing o d = same
  by_access h (reserve b w) o d = same
  by_access h (store b bs) o d = kept b bs o d
  by_access h (sc_stored b bs) o d = kept b bs o d
  by_access h sc_failed o d = same

  by_act : (act : Act) → ActOk base (length mem) act → (WritesInto (act_notice act) a n → ⊥) → P (leaves base mem act)
  unfolding leaves
  by_act (refuse number) o d = same
  by_act (fault cause value) o d = same
  by_act (change h ws to t) o d = by_access h t o.1 d
  by_act (put b bs) o d = kept b bs o d
  by_act (release h) o d = same

-- ---- the event

module _ (base : ℕ) (m : Machine) (e : Event) where
  pub count_next : (next_of base m e).state.count ≡ m.state.count
  unfolding next_of answer_of apply
  count_next = refl

  -- no event changes the settings
  pub settings_next : (next_of base m e).state.settings ≡ m.state.settings
  unfolding next_of answer_of apply
  settings_next = refl

  pub shaped_next : Shaped m.state → Shaped (next_of base m e).state
  unfolding next_of answer_of
  shaped_next h = shaped_apply m.state (act_of base m.mem m.state e) h

  -- 01: "unused harts' fields aren't looked at and never change"
  pub unused_reg : (k r : ℕ) → m.state.count ≤ k → reg_at (next_of base m e).state.x k r ≡ reg_at m.state.x k r
  unfolding next_of answer_of apply
  unused_reg k r u =
      acts base m.mem m.state (λ (a : Act). reg_at (registers_after a m.state.x) k r ≡ reg_at m.state.x k r) (λ n. refl) e (λ c v. refl)
      (λ h q l ws to t. reg_written h ws k r m.state.x (omega arith)) (λ a n w d. refl) (λ h q l. refl)

  pub unused_pc : (k : ℕ) → m.state.count ≤ k → get_or (next_of base m e).state.pc k 0 ≡ get_or m.state.pc k 0
  unfolding next_of answer_of apply
  unused_pc k u =
      acts base m.mem m.state (λ (a : Act). get_or (pcs_after a m.state.pc) k 0 ≡ get_or m.state.pc k 0) (λ n. refl) e (λ c v. refl)
      (λ h q l ws to t. get_or-set_other m.state.pc h k to 0 (omega arith)) (λ a n w d. refl) (λ h q l. refl)

  pub unused_res : (k : ℕ) → m.state.count ≤ k → get_or (next_of base m e).state.res k None ≡ get_or m.state.res k None
  unfolding next_of answer_of
  unused_res k u = res_past m.state k (act_of base m.mem m.state e) u

  -- an event that isn't a step of hart h leaves its registers and its pc, and is no LR, SC or write of it
  module _ (h : ℕ) (other : e ≢ Step h) where
    not_of : (g : ℕ) → e ≡ Step g → g ≢ h
    not_of g q same = other (q ∙ ap Step same)

    pub other_reg : (r : ℕ) → reg_at (next_of base m e).state.x h r ≡ reg_at m.state.x h r
    unfolding next_of answer_of apply
    other_reg r =
        acts base m.mem m.state (λ (a : Act). reg_at (registers_after a m.state.x) h r ≡ reg_at m.state.x h r) (λ n. refl) e (λ c v. refl)
        (λ g q l ws to t. reg_written g ws h r m.state.x (not_of g q)) (λ a n w d. refl) (λ g q l. refl)

    pub other_pc_lem : get_or (next_of base m e).state.pc h 0 ≡ get_or m.state.pc h 0
    unfolding next_of answer_of apply
    other_pc_lem =
        acts base m.mem m.state (λ (a : Act). get_or (pcs_after a m.state.pc) h 0 ≡ get_or m.state.pc h 0) (λ n. refl) e (λ c v. refl)
        (λ g q l ws to t. get_or-set_other m.state.pc g h to 0 (λ z. not_of g q (sym z))) (λ a n w d. refl) (λ g q l. refl)

    not_access : (g : ℕ) → g ≢ h → (t : Access) → NotBy h (notice_of g t)
    not_access g d nothing = tt
    not_access g d (reserve a w) = d
    not_access g d (store a bs) = d
    not_access g d (sc_stored a bs) = d
    not_access g d sc_failed = d

    pub not_by : NotBy h (notice_at base m e)
    not_by =
        acts base m.mem m.state (λ (a : Act). NotBy h (act_notice a)) (λ n. tt) e (λ c v. tt) (λ g q l ws to t. not_access g (not_of g q) t)
        (λ a n w d. tt) (λ g q l. tt)

  module _ (v : Valid base m) where
    -- a used hart's reservation follows the notice
    pub res_next : Shaped m.state → (h : ℕ) → h < m.state.count
        → reservation_of (next_of base m e).state h ≡ observe_of m.state.settings h (notice_at base m e) (reservation_of m.state h)
    unfolding next_of answer_of
    res_next s h u =
        let l : h < length m.state.res = omega (arith, v.1.1, s.reservations) in
        res_apply m.state h (act_of base m.mem m.state e) u l

    act_fine : ActOk base (length m.mem) (act_of base m.mem m.state e)
    act_fine = rw (act_valid base m v e) (act_ok base m.mem m.state v.1 e)

    -- 01: "no other byte changes": the byte at base + k, if the event doesn't write it
    pub byte_next : (k : ℕ) → (WritesInto (notice_at base m e) (base + k) 1 → ⊥) → get_or (next_of base m e).mem k 0 ≡ get_or m.mem k 0
    unfolding next_of memory_of
    byte_next k d =
        by_act base m.mem (λ (l : List ℕ). get_or l k 0 ≡ get_or m.mem k 0) refl (base + k) 1
        (λ b bs i f. byte_kept base m.mem b bs i k f) (act_of base m.mem m.state e) act_fine d

    -- n bytes at a, if the event writes into none of them
    pub part_next : (a n : ℕ) → base ≤ a → (WritesInto (notice_at base m e) a n → ⊥) → part (next_of base m e).mem (a - base) n ≡ part m.mem (a - base) n
    unfolding next_of memory_of
    part_next a n h d =
        by_act base m.mem (λ (l : List ℕ). part l (a - base) n ≡ part m.mem (a - base) n) refl a n
        (λ b bs i f. part_kept base m.mem b bs i a n h f) (act_of base m.mem m.state e) act_fine d

    pub value_next : (a n : ℕ) → base ≤ a → (WritesInto (notice_at base m e) a n → ⊥) → value_at base (next_of base m e).mem a n ≡ value_at base m.mem a n
    unfolding value_at
    value_next a n h d = ap le (part_next a n h d)

-- ---- a step, by its instruction

module _ (base : ℕ) (m : Machine) (v : Valid base m) (h : ℕ) (u : h < m.state.count) where
  pub step_act : (i : Instr) → (f : Fetches base m h i)
      → act_of base m.mem m.state (Step h)
      ≡ of_exec h
      (execute (xlen m) (misaligned m) i (value_at base m.mem (get_or m.state.pc h 0) 4) (reg_at m.state.x h) (get_or m.state.pc h 0) base m.mem
      (covers_of m.state.settings (reservation_of m.state h)))
  unfolding act_on fetch_of execute_word
  step_act i f =
      let inside = of_inside base (length m.mem) (get_or m.state.pc h 0) 4 f.inside in
      rw (act_valid base m v (Step h), lt-ltb h m.state.count u, inside, f.decodes)

-- ---- runs

module _ (base : ℕ) where
  pub count_run : (m : Machine) (es : List Event) → (run_of base m es).state.count ≡ m.state.count
  unfolding run_of
  count_run m [] = refl
  count_run m (e ∷ es) = count_run (next_of base m e) es ∙ count_next base m e

  pub settings_run : (m : Machine) (es : List Event) → (run_of base m es).state.settings ≡ m.state.settings
  unfolding run_of
  settings_run m [] = refl
  settings_run m (e ∷ es) = settings_run (next_of base m e) es ∙ settings_next base m e

  pub shaped_run : (m : Machine) → Shaped m.state → (es : List Event) → Shaped (run_of base m es).state
  unfolding run_of
  shaped_run m s [] = s
  shaped_run m s (e ∷ es) = shaped_run (next_of base m e) (shaped_next base m e s) es
