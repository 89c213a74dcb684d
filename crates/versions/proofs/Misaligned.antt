-- The setting misaligned decides the cause of a misaligned LR, SC, AMO or AMOCAS, and nothing else. Assumes nothing.
use mathlib.Core.Path.{◌≡◌, refl, sym, ◌∙◌, ap}
use mathlib.Core.Logic.{◌≢◌}
use mathlib.Core.Bool.{Bool, true, false}
use mathlib.Core.List.{List, [], ◌∷◌}
use Prim.Native.Nat.{ℕ, ◌%◌}
use native.Mathlib.Omega.{arith}
use lib.Dec.{eqb, ltb}
use lib.ListN.{length, get_or}
use borrow.Author.Tests.{eqb-false}
use Rattle.std.specs.Prelude.{Option}
use Rattle.word.proofs.TestLaws.{bool_cases}
use Rattle.settings.specs.Settings.{devices_break, size_ok, version_ok, kind_ok, reading_ok, misaligned_ok, lr_cause, amo_cause}
use Rattle.settings.proofs.SettingsLaws.{kind_xlen}
use Rattle.settings.specs.declared.Settings.{Settings}
use Rattle.reserve.specs.Range.{inside_of}
use Rattle.reserve.proofs.RangeLaws.{inside_of_lem}
use Rattle.reserve.specs.Reserve.{covers_of, observe_all_of}
use Rattle.reserve.specs.declared.Reservation.{Reservation}
use Rattle.reserve.specs.declared.Notice.{Notice}
use Rattle.reserve.specs.declared.Notice.TheVariants as N
use Rattle.isa.specs.Narrow.{decode_at}
use Rattle.isa.specs.declared.AtomicOp.{AtomicOp}
use Rattle.isa.specs.declared.AtomicOp.TheVariants.{Lr, Sc, Cas, CasPair, Rmw}
use Rattle.isa.specs.declared.Atomic.{Atomic}
use Rattle.isa.specs.declared.Instr.{Instr}
use Rattle.isa.specs.declared.Instr.TheVariants as I
use Rattle.machine.specs.State.{lent_ok, memory_ok, state_ok, refusal_of}
use Rattle.machine.proofs.StateLaws.{top_same, harts_same}
use Rattle.effect.specs.Effect.{Exec, trap, notice_of}
use Rattle.effect.specs.Memory.{fault_of, checked, value_at}
use Rattle.effect.specs.Atomic.{exec_lr, exec_sc, exec_amo, exec_cas, exec_cas_pair}
use Rattle.effect.specs.Execute.{reg_at, atomic_by, exec_atomic, execute, execute_word}
use Rattle.effect.proofs.TrapLaws.{misaligned_traps}
use Rattle.events.specs.declared.Event.{Event}
use Rattle.events.specs.declared.Event.TheVariants.{Step, Device, Yield}
use Rattle.model.specs.Act.{Act, refuse, fault, change, put, release, outcome_of, slots_after, broken_after, apply, leaves}
use Rattle.model.specs.Perform.{Machine, xlen, reservation_of, fetch_of, of_exec, act_on, act_of, outcome_at, broke_at, answer_of, memory_of, next_of, run_of}
use Rattle.model.proofs.Frame.{settings_next}
use Rattle.versions.proofs.Observed.{Alike, access_alike, covers_same, observed_same}
use Rattle.versions.specs.Misaligned.{giving, reach_bytes, MisalignedStep, same, lr, amo, OnlyCauses}

-- ---- an instruction under 0 and under 1

-- by i, with x for the hart's registers: the two are equal, or a misaligned atomic access with causes of its own each
data Differ (i : Instr) (x : ℕ → ℕ) (zero one : Exec) : Type 0 where
  equal : one ≡ zero → Differ i x zero one
  lrs : (m : Atomic) → i ≡ I.Amo m → m.op ≡ Lr → x m.rs1 % reach_bytes m.op m.width ≢ 0 → zero ≡ trap 4 (x m.rs1) → one ≡ trap 5 (x m.rs1)
      → Differ i x zero one
  amos : (m : Atomic) → i ≡ I.Amo m → m.op ≢ Lr → x m.rs1 % reach_bytes m.op m.width ≢ 0 → zero ≡ trap 6 (x m.rs1) → one ≡ trap 7 (x m.rs1)
      → Differ i x zero one

-- an access that is aligned has no use for its first cause
aligned_same : (c d outside a n base len : ℕ) (e : Exec) → eqb (a % n) 0 ≡ true → checked c outside a n base len e ≡ checked d outside a n base len e
unfolding checked fault_of
aligned_same c d outside a n base len e t = rw t

module _ (x : ℕ → ℕ) (base len : ℕ) (m : Atomic) where
  abbrev a : ℕ
  a = x m.rs1

  lr_differs : (n : ℕ) (e : Exec) → m.op ≡ Lr → reach_bytes m.op m.width ≡ n
      → Differ (I.Amo m) x (checked (lr_cause 0) 5 a n base len e) (checked (lr_cause 1) 5 a n base len e)
  unfolding lr_cause
  lr_differs n e q s =
      bool_cases (eqb (a % n) 0) (λ t. equal (aligned_same 5 4 5 a n base len e t))
      (λ f.
      let skew = eqb-false (a % n) 0 f in
      lrs m refl q (rw s skew) (misaligned_traps 4 5 a n base len (omega arith) (omega arith) e skew)
      (misaligned_traps 5 5 a n base len (omega arith) (omega arith) e skew))

  amo_differs : (n : ℕ) (e : Exec) → m.op ≢ Lr → reach_bytes m.op m.width ≡ n
      → Differ (I.Amo m) x (checked (amo_cause 0) 7 a n base len e) (checked (amo_cause 1) 7 a n base len e)
  unfolding amo_cause
  amo_differs n e q s =
      bool_cases (eqb (a % n) 0) (λ t. equal (aligned_same 7 6 7 a n base len e t))
      (λ f.
      let skew = eqb-false (a % n) 0 f in
      amos m refl q (rw s skew) (misaligned_traps 6 7 a n base len (omega arith) (omega arith) e skew)
      (misaligned_traps 7 7 a n base len (omega arith) (omega arith) e skew))

module _ (xlen word : ℕ) (x : ℕ → ℕ) (pc base : ℕ) (mem : List ℕ) (covered : ℕ → ℕ → Bool) where
  atomic_differs : (m : Atomic) (op : AtomicOp) → m.op ≡ op
      → Differ (I.Amo m) x (atomic_by xlen 0 op m x pc base mem covered) (atomic_by xlen 1 op m x pc base mem covered)
  unfolding exec_lr exec_sc exec_amo exec_cas exec_cas_pair
  atomic_differs m Lr q = lr_differs x base (length mem) m _ _ q (rw q)
  atomic_differs m Sc q = amo_differs x base (length mem) m _ _ (λ e. cc) (rw q)
  atomic_differs m Cas q = amo_differs x base (length mem) m _ _ (λ e. cc) (rw q)
  atomic_differs m CasPair q = amo_differs x base (length mem) m _ _ (λ e. cc) (rw q)
  atomic_differs m (Rmw op) q = amo_differs x base (length mem) m _ _ (λ e. cc) (rw q)

  execute_differs : (i : Instr) → Differ i x (execute xlen 0 i word x pc base mem covered) (execute xlen 1 i word x pc base mem covered)
  unfolding execute exec_atomic
  execute_differs I.Illegal = equal refl
  execute_differs I.Ecall = equal refl
  execute_differs I.Ebreak = equal refl
  execute_differs (I.Fence rd rs1 imm) = equal refl
  execute_differs (I.Lui rd imm) = equal refl
  execute_differs (I.Auipc rd imm) = equal refl
  execute_differs (I.Jal rd imm) = equal refl
  execute_differs (I.Jalr rd rs1 imm) = equal refl
  execute_differs (I.Branch op rs1 rs2 imm) = equal refl
  execute_differs (I.Load op rd rs1 imm) = equal refl
  execute_differs (I.Store op rs1 rs2 imm) = equal refl
  execute_differs (I.OpImm op rd rs1 imm) = equal refl
  execute_differs (I.OpImm32 op rd rs1 imm) = equal refl
  execute_differs (I.Op op rd rs1 rs2) = equal refl
  execute_differs (I.Op32 op rd rs1 rs2) = equal refl
  execute_differs (I.Amo m) = atomic_differs m m.op refl

-- ---- reservations don't look at the setting

-- settings of one size and one version
module _ (s t : Settings) (size : s.size ≡ t.size) (version : s.version ≡ t.version) where
  noticed : (n : Notice) → Alike s t n → (count : ℕ) (l : List (Option Reservation)) → observe_all_of s count n l ≡ observe_all_of t count n l
  noticed = observed_same s t size

  device : devices_break s ≡ devices_break t
  device = rw version

  slots_same : (count : ℕ) (act : Act) (l : List (Option Reservation)) → slots_after s count act l ≡ slots_after t count act l
  slots_same count (refuse number) l = refl
  slots_same count (fault cause value) l = refl
  slots_same count (change h ws to u) l = ap (λ o. o.slots) (noticed (notice_of h u) (access_alike s t h u) count l)
  slots_same count (put a bs) l = ap (λ o. o.slots) (noticed (N.DeviceWrite a (length bs)) device count l)
  slots_same count (release h) l = ap (λ o. o.slots) (noticed (N.Yield h) tt count l)

  broke_same : (count : ℕ) (act : Act) (l : List (Option Reservation)) → broken_after s count act l ≡ broken_after t count act l
  broke_same count (refuse number) l = refl
  broke_same count (fault cause value) l = refl
  broke_same count (change h ws to u) l = ap (λ o. o.broken) (noticed (notice_of h u) (access_alike s t h u) count l)
  broke_same count (put a bs) l = ap (λ o. o.broken) (noticed (N.DeviceWrite a (length bs)) device count l)
  broke_same count (release h) l = ap (λ o. o.broken) (noticed (N.Yield h) tt count l)

-- ---- an event under 0 and under 1

module _ (base : ℕ) (m : Machine) where
  abbrev low : Machine
  low = giving 0 m

  abbrev high : Machine
  high = giving 1 m

  width_same : xlen high ≡ xlen low
  width_same = kind_xlen high.state.settings low.state.settings refl

  refusal_same : refusal_of base (length m.mem) high.state ≡ refusal_of base (length m.mem) low.state
  unfolding refusal_of memory_ok size_ok lent_ok state_ok version_ok kind_ok reading_ok misaligned_ok
  refusal_same =
      let s = m.state in
      let len = length m.mem in
      rw (
        top_same high.state.settings low.state.settings width_same base len,
        harts_same high.state.settings low.state.settings width_same base len s.x s.pc s.res,
      )

  -- an event comes to one act under both, or is a misaligned step with the two causes
  data Comes (e : Event) : Type 0 where
    alike : act_of base m.mem high.state e ≡ act_of base m.mem low.state e → Comes e
    lr_as : (h : ℕ) (i : Atomic) → MisalignedStep base m e h i → i.op ≡ Lr
        → act_of base m.mem low.state e ≡ fault 4 (reg_at m.state.x h i.rs1)
        → act_of base m.mem high.state e ≡ fault 5 (reg_at m.state.x h i.rs1) → Comes e
    amo_as : (h : ℕ) (i : Atomic) → MisalignedStep base m e h i → i.op ≢ Lr
        → act_of base m.mem low.state e ≡ fault 6 (reg_at m.state.x h i.rs1)
        → act_of base m.mem high.state e ≡ fault 7 (reg_at m.state.x h i.rs1) → Comes e

  refused_alike : (e : Event) → eqb (refusal_of base (length m.mem) low.state) 0 ≡ false → Comes e
  unfolding act_of
  refused_alike e f = alike (rw (refusal_same, f))

  others_alike : (e : Event) → act_on base m.mem high.state e ≡ act_on base m.mem low.state e → Comes e
  unfolding act_of
  others_alike e q = alike (rw (refusal_same, q))

  module _ (h : ℕ) (free : eqb (refusal_of base (length m.mem) low.state) 0 ≡ true) (used : ltb h m.state.count ≡ true)
      (here : inside_of base (length m.mem) (get_or m.state.pc h 0) 4 ≡ true) where
    abbrev word : ℕ
    word = value_at base m.mem (get_or m.state.pc h 0) 4

    abbrev by : ℕ → Exec
    by n =
        execute (xlen low) n (decode_at (xlen low) word) word (reg_at m.state.x h) (get_or m.state.pc h 0) base m.mem
        (covers_of low.state.settings (reservation_of m.state h))

    low_act : act_of base m.mem low.state (Step h) ≡ of_exec h (by 0)
    unfolding act_of act_on fetch_of execute_word
    low_act = rw (free, used, here)

    high_act : act_of base m.mem high.state (Step h) ≡ of_exec h (by 1)
    unfolding act_of act_on fetch_of execute_word
    high_act =
        rw (
          refusal_same,
          free,
          used,
          here,
          width_same,
          covers_same high.state.settings low.state.settings refl (reservation_of m.state h),
        )

    skewed : (i : Atomic) → decode_at (xlen low) word ≡ I.Amo i → reg_at m.state.x h i.rs1 % reach_bytes i.op i.width ≢ 0
        → MisalignedStep base m (Step h) h i
    skewed i q z =
        record {
          the_step = refl;
          fetches = record {
            inside = inside_of_lem base (length m.mem) (get_or m.state.pc h 0) 4 here;
            decodes = ap (λ (n : ℕ). decode_at n word) (kind_xlen m.state.settings low.state.settings refl) ∙ q;
          };
          skewed = z;
        }

    step_comes : Differ (decode_at (xlen low) word) (reg_at m.state.x h) (by 0) (by 1) → Comes (Step h)
    step_comes (equal q) = alike (high_act ∙ ap (of_exec h) q ∙ sym low_act)
    step_comes (lrs i q o z p r) = lr_as h i (skewed i q z) o (low_act ∙ ap (of_exec h) p) (high_act ∙ ap (of_exec h) r)
    step_comes (amos i q o z p r) = amo_as h i (skewed i q z) o (low_act ∙ ap (of_exec h) p) (high_act ∙ ap (of_exec h) r)

  comes_step : (h : ℕ) → Comes (Step h)
  unfolding act_on fetch_of
  comes_step h =
      bool_cases (eqb (refusal_of base (length m.mem) low.state) 0)
      (λ free.
      bool_cases (ltb h m.state.count)
      (λ used.
      bool_cases (inside_of base (length m.mem) (get_or m.state.pc h 0) 4)
      (λ here.
      step_comes h free used here
      (execute_differs (xlen low) (word h free used here) (reg_at m.state.x h) (get_or m.state.pc h 0) base m.mem
      (covers_of low.state.settings (reservation_of m.state h)) _))
      (λ out. others_alike (Step h) (rw out)))
      (λ none. others_alike (Step h) (rw none)))
      (λ f. refused_alike (Step h) f)

  comes : (e : Event) → Comes e
  unfolding act_on
  comes (Step h) = comes_step h
  comes (Device a n v) = others_alike (Device a n v) refl
  comes (Yield h) = others_alike (Yield h) refl

  -- what an event leaves, breaks and answers by its act
  high_next : (e : Event) (k : Act) → act_of base m.mem high.state e ≡ k
      → next_of base high e ≡ record { state = apply high.state k; mem = leaves base m.mem k }
  unfolding next_of answer_of memory_of
  high_next e k to = rw to

  low_next : (e : Event) (k : Act) → act_of base m.mem low.state e ≡ k
      → next_of base low e ≡ record { state = apply low.state k; mem = leaves base m.mem k }
  unfolding next_of answer_of memory_of
  low_next e k to = rw to

  apply_same : (k : Act) → record { state = apply high.state k; mem = leaves base m.mem k }
      ≡ giving 1 (record { state = apply low.state k; mem = leaves base m.mem k })
  unfolding apply
  apply_same k = rw (slots_same high.state.settings low.state.settings refl refl m.state.count k m.state.res)

  high_broke : (e : Event) (k : Act) → act_of base m.mem high.state e ≡ k
      → broke_at base high e ≡ broken_after high.state.settings m.state.count k m.state.res
  unfolding answer_of
  high_broke e k to = rw to

  low_broke : (e : Event) (k : Act) → act_of base m.mem low.state e ≡ k
      → broke_at base low e ≡ broken_after low.state.settings m.state.count k m.state.res
  unfolding answer_of
  low_broke e k to = rw to

  high_outcome : (e : Event) (k : Act) → act_of base m.mem high.state e ≡ k → outcome_at base high e ≡ outcome_of k
  unfolding answer_of
  high_outcome e k to = ap outcome_of to

  low_outcome : (e : Event) (k : Act) → act_of base m.mem low.state e ≡ k → outcome_at base low e ≡ outcome_of k
  unfolding answer_of
  low_outcome e k to = ap outcome_of to

  -- "0 where a misaligned LR, SC or AMO gives 4 and 6, 1 where it gives .. 5 and 7", and nothing else: of every event, and of every machine, also one that is
  -- refused. Two faults change nothing, and one act leaves the same under both
  pub only_causes : (e : Event) → OnlyCauses base m e
  unfolding apply leaves
  only_causes e = go (comes e)
    where
      go : Comes e → OnlyCauses base m e
      go (alike q) =
          let k = act_of base m.mem low.state e in
          record {
            outcome = same (high_outcome e k q ∙ sym (low_outcome e k refl));
            leaves = high_next e k q ∙ apply_same k ∙ ap (giving 1) (sym (low_next e k refl));
            broke = high_broke e k q ∙ broke_same high.state.settings low.state.settings refl refl m.state.count k m.state.res
                ∙ sym (low_broke e k refl);
          }
      go (lr_as h i s o p q) =
          record {
            outcome = lr h i s o (low_outcome e _ p) (high_outcome e _ q);
            leaves = high_next e _ q ∙ ap (giving 1) (sym (low_next e _ p));
            broke = high_broke e _ q ∙ sym (low_broke e _ p);
          }
      go (amo_as h i s o p q) =
          record {
            outcome = amo h i s o (low_outcome e _ p) (high_outcome e _ q);
            leaves = high_next e _ q ∙ ap (giving 1) (sym (low_next e _ p));
            broke = high_broke e _ q ∙ sym (low_broke e _ p);
          }

-- ---- a list of events

-- a machine that has the number has it
giving_same : (n : ℕ) (m : Machine) → m.state.settings.misaligned ≡ n → giving n m ≡ m
giving_same n m e = ap (λ (k : ℕ). giving k m) (sym e)

-- put to a machine under 0 and under 1, each event to what the ones before left, a list of events leaves the same state, but for the setting, and the same
-- memory; so each of them is as `only_causes` says
pub same_run : (base : ℕ) (m : Machine) (es : List Event) → run_of base (giving 1 m) es ≡ giving 1 (run_of base (giving 0 m) es)
unfolding run_of
same_run base m [] = refl
same_run base m (e ∷ es) =
    let next = next_of base (giving 0 m) e in
    ap (λ (k : Machine). run_of base k es) (only_causes base m e).leaves
    ∙ same_run base next es
    ∙ ap (λ (k : Machine). giving 1 (run_of base k es)) (giving_same 0 next (ap (λ (s : Settings). s.misaligned) (settings_next base (giving 0 m) e)))
