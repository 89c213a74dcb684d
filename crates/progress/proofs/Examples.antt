-- Loops that meet the start of the claim, and runs of them that finish in each of the three ways; what a store into the set does, by its size, and a
-- device write, by the version; a loop of the 32-bit core at the end of its addresses; and one with a JALR that 2.0 accepts and that goes round for ever.
-- Computed.
-- Assumes nothing.
use mathlib.Core.Path.{◌≡◌, refl, sym, ap, ◌∙◌, subst}
use mathlib.Core.Logic.{◌≢◌, ◌⊎◌, inl, inr}
use mathlib.Core.Bool.{true, false}
use mathlib.Core.List.{List, [], ◌∷◌, ◌++◌}
use Prim.Native.Nat.{ℕ, zero, suc, ◌+◌, ◌-◌, ◌*◌, ◌≤◌, ◌<◌}
use native.Mathlib.Omega.{arith}
use lib.ListN.{length, get_or, replicate}
use Rattle.word.specs.Word.{sign_extend, of_int, to_int, low}
use Rattle.word.specs.Bytes.{le, to_le}
use Rattle.word.specs.Memory.{part, splice}
use Rattle.word.specs.Each.{all_below}
use Rattle.word.proofs.TestLaws.{contrary}
use Rattle.settings.specs.Settings.{defaults, of_version, of_kind, at_version, xlen_of, size_ok, version_ok, kind_ok, reading_ok, misaligned_ok, lr_cause, amo_cause}
use Rattle.settings.proofs.SettingsLaws.{xlen_64, defaults_64}
use Rattle.settings.specs.declared.Settings.{Settings}
use Rattle.reserve.specs.Range.{Touch, touches, inside_of, set_of}
use Rattle.reserve.specs.Reserve.{covers_of, breaks_of, own_of, observe_of, broken_of, observe_all_of}
use Rattle.std.specs.Prelude.{None}
use Rattle.reserve.specs.Reserve.{held}
use Rattle.reserve.specs.declared.Notice.{Notice}
use Rattle.reserve.specs.declared.Notice.TheVariants as N
use Rattle.isa.specs.Decode.{class_of, branch_of, jalr_of, store_of, system_of, sized_of, lr_of, atomic_of, decode_of}
use Rattle.isa.specs.Narrow.{narrowed, decode_at}
use Rattle.isa.specs.declared.Width.TheVariants.{Word}
use Rattle.isa.specs.declared.Atomic.{Atomic}
use Rattle.isa.specs.declared.AtomicOp.TheVariants as A
use Rattle.isa.specs.declared.Instr.TheVariants.{Jalr}
use Rattle.reserve.proofs.RangeLaws.{inside_of_lem}
use Rattle.machine.specs.State.{lent_ok, top_ok, memory_ok, reservation_ok, hart_ok, upper_ok, state_ok, refusal_of}
use Rattle.machine.proofs.StateLaws.{refusal_0}
use Rattle.effect.specs.Integer.{holds_of, exec_branch, exec_jump}
use Rattle.effect.specs.Memory.{fault_of, checked, value_at, exec_store}
use Rattle.effect.specs.Atomic.{exec_lr, exec_sc}
use Rattle.effect.specs.Execute.{reg_at, exec_atomic, execute, execute_word}
use Rattle.events.specs.declared.Event.{Event}
use Rattle.events.specs.declared.Event.TheVariants.{Step, Device, Yield}
use Rattle.model.specs.Act.{set_reg, apply, leaves}
use Rattle.model.specs.Perform.{Machine, fetch_of, device_of, act_on, act_of, answer_of, memory_of, next_of, run_of, outcome_at, broke_at, version, xlen}
use Rattle.model.specs.Trace.{notice_at, WritesInto}
use Rattle.model.specs.Valid.{Valid}
use Rattle.model.specs.declared.Outcome.{Outcome}
use Rattle.model.specs.declared.Outcome.TheVariants as O
use Rattle.model.proofs.Valid.{valid_run}
use Rattle.notices.specs.Happened.{WritesBytes, by_hart}
use Rattle.notices.proofs.Exact.{notice_exact, writes_exact}
use Rattle.retry.proofs.VersionLaws.{checked_same}
use Rattle.retry.specs.Reasons.{Stands, LrAt}
use Rattle.retry.specs.declared.LoopAnswer.TheVariants.{Accepted, Rejected}
use Rattle.retry.specs.Loop.{view_of, past_sc, wrong_offset, clobbers, lowest_of, scan_of, start_of, check_of}
use Rattle.progress.specs.Claim.{hart_pc, StartUnder, Start, LeftAlone, Harmless, Finish, by_sc, left, back, Safe, Finishes, Calm, Unfinished}
use Rattle.progress.proofs.Alone.{alone_exact, calm_alone, retry_alone}

-- Edge 12's loop: lr.w x6,(x5); bne x6,x0,+12; sc.w x7,x8,(x5); bne x7,x0,-12.
abbrev leaving : List ℕ
leaving = 0x1002A32F ∷ 0x00031663 ∷ 0x1882A3AF ∷ 0xFE039AE3 ∷ []

-- One that goes round as long as the word isn't 0: lr.w x6,(x5); bne x6,x0,+8; sc.w x7,x8,(x5); bne x6,x0,-12.
abbrev waiting : List ℕ
waiting = 0x1002A32F ∷ 0x00031463 ∷ 0x1882A3AF ∷ 0xFE031AE3 ∷ []

-- and the shortest: lr.w x6,(x5); sc.w x7,x8,(x5)
abbrev shortest : List ℕ
shortest = 0x1002A32F ∷ 0x1882A3AF ∷ []

abbrev lr : Atomic
lr = record { op = A.Lr; width = Word; aq = false; rl = false; rd = 6; rs1 = 5; rs2 = 0 }

abbrev sc : Atomic
sc = record { op = A.Sc; width = Word; aq = false; rl = false; rd = 7; rs1 = 5; rs2 = 8 }

-- the bytes of words
abbrev code : List ℕ → List ℕ
code [] = []
code (w ∷ ws) = to_le 4 w ++ code ws

-- x5 is 1096, x8 is more than 32 bits
abbrev registers : List ℕ
registers = 0 ∷ 0 ∷ 0 ∷ 0 ∷ 0 ∷ 1096 ∷ 0 ∷ 0 ∷ 0x700000009 ∷ replicate 23 0

-- Three harts. Hart 0 holds another reservation, hart 1 stands at a store, sw x8,8(x5), and hart 2 outside memory. 128 bytes at 1024: the loop first,
-- hart 1's store at 1056, and the word v at 1096, in the set from 1088 on.
abbrev begin_with : Settings → List ℕ → ℕ → Machine
begin_with settings words v =
    record {
      state =
          record {
            count = 3;
            settings = settings;
            x = registers ++ (registers ++ replicate 192 0);
            pc = 1024 ∷ 1056 ∷ replicate 6 0;
            res = held 1144 8 ∷ replicate 7 None;
          };
      mem = code words ++ (replicate (32 - 4 * length words) 0 ++ (to_le 4 0x0082A423 ++ (replicate 36 0 ++ (to_le 4 v ++ replicate 52 0))));
    }

-- with the default settings
abbrev begin : List ℕ → ℕ → Machine
begin words v = begin_with defaults words v

-- What is computed with. To name one of these on an `unfolding` line is to name all that its own line does: reading a word of memory and its instruction,
reading : Unit {0}
unfolding value_at le to_le part sign_extend of_int to_int low class_of branch_of sized_of lr_of atomic_of decode_of xlen_of decode_at
reading = tt

-- refusing a state,
refusing : Unit {0}
unfolding inside_of all_below xlen_of size_ok version_ok kind_ok reading_ok misaligned_ok lent_ok top_ok memory_ok reservation_ok hart_ok upper_ok state_ok refusal_of
refusing = tt

-- checking a loop,
checking : Unit {0}
unfolding view_of past_sc wrong_offset clobbers lowest_of scan_of start_of check_of version_ok kind_ok reading_ok
checking = tt

-- and running events
running : Unit {0}
unfolding reading refusing splice reg_at set_reg touches covers_of breaks_of own_of observe_of observe_all_of
    holds_of exec_branch lr_cause amo_cause fault_of checked exec_lr exec_sc exec_atomic execute execute_word apply leaves fetch_of device_of act_on act_of answer_of memory_of next_of run_of
running = tt

-- They meet the start, whatever the word at 1096.
meets : (words : List ℕ) (v : ℕ) → length (begin words v).mem ≡ 128 → length words ≤ 8 → check_of (of_version 21) words ≡ Accepted
    → LrAt (xlen_of defaults) words 0 lr
    → ((k : ℕ) → k < length words → value_at 1024 (begin words v).mem (1024 + 4 * k) 4 ≡ get_or words k 0)
    → Start 1024 0 1024 1096 words lr (begin words v)
unfolding refusing reg_at
meets words v len few accepted first placed =
    record {
      valid = (refusal_0 1024 (length (begin words v).mem) (begin words v).state).0 (rw len refl);
      shaped = record { registers = refl; pcs = refl; reservations = refl };
      used = omega arith;
      here = refl;
      accepted = accepted;
      placed = placed;
      mapped = λ k l. (omega arith, omega arith);
      first = first;
      address = refl;
      aligned = refl;
      reachable = (omega arith, omega arith);
    }

pub starts_leaving : (v : ℕ) → Start 1024 0 1024 1096 leaving lr (begin leaving v)
unfolding reading checking
starts_leaving v = meets leaving v refl (omega arith) refl (record { in_block = omega arith; decodes = refl }, refl) placed
  where
    placed : (k : ℕ) → k < 4 → value_at 1024 (begin leaving v).mem (1024 + 4 * k) 4 ≡ get_or leaving k 0
    placed zero l = refl
    placed (suc zero) l = refl
    placed (suc (suc zero)) l = refl
    placed (suc (suc (suc zero))) l = refl
    placed (suc (suc (suc (suc k)))) l = absurd (omega arith)

pub starts_waiting : (v : ℕ) → Start 1024 0 1024 1096 waiting lr (begin waiting v)
unfolding reading checking
starts_waiting v = meets waiting v refl (omega arith) refl (record { in_block = omega arith; decodes = refl }, refl) placed
  where
    placed : (k : ℕ) → k < 4 → value_at 1024 (begin waiting v).mem (1024 + 4 * k) 4 ≡ get_or waiting k 0
    placed zero l = refl
    placed (suc zero) l = refl
    placed (suc (suc zero)) l = refl
    placed (suc (suc (suc zero))) l = refl
    placed (suc (suc (suc (suc k)))) l = absurd (omega arith)

pub starts_shortest : (v : ℕ) → Start 1024 0 1024 1096 shortest lr (begin shortest v)
unfolding reading checking
starts_shortest v = meets shortest v refl (omega arith) refl (record { in_block = omega arith; decodes = refl }, refl) placed
  where
    placed : (k : ℕ) → k < 2 → value_at 1024 (begin shortest v).mem (1024 + 4 * k) 4 ≡ get_or shortest k 0
    placed zero l = refl
    placed (suc zero) l = refl
    placed (suc (suc k)) l = absurd (omega arith)

-- so the claim holds of them
pub leaving_finishes : (v : ℕ) → Finishes 1024 0 1024 1096 leaving lr (LeftAlone 1024 0 1024 1096 leaving lr) (begin leaving v)
leaving_finishes v = retry_alone 1024 0 1024 1096 leaving lr (begin leaving v) (starts_leaving v)

pub waiting_finishes : (v : ℕ) → Finishes 1024 0 1024 1096 waiting lr (LeftAlone 1024 0 1024 1096 waiting lr) (begin waiting v)
waiting_finishes v = retry_alone 1024 0 1024 1096 waiting lr (begin waiting v) (starts_waiting v)

-- ---- runs

-- hart 0's LR and branch; between them a device write, a yield of hart 1, a trap of hart 2, and refused events
abbrev so_far : List Event
so_far = Step 0 ∷ Device 1060 2 513 ∷ Yield 1 ∷ Step 2 ∷ Step 7 ∷ Yield 9 ∷ Device 5000 1 0 ∷ Device 1096 9 0 ∷ []

abbrev mixed : List Event
mixed = so_far ++ Step 0 ∷ []

-- the loop finishes by its SC
pub by_sc_lem : Finish 1024 0 1024 1096 leaving lr (run_of 1024 (begin leaving 0) mixed) (Step 0)
unfolding running
by_sc_lem =
    by_sc
    (record {
      success =
          record {
            sc = sc;
            retires = record { the_step = refl; fetches = record { inside = inside_of_lem 1024 128 1032 4 refl; decodes = refl }; retired = tt };
            operation = refl;
            stored = refl;
            address = refl;
            width = refl;
          };
      bytes = refl;
    })

-- the other events before left it alone
untold : (m : Machine) (e : Event) → notice_at 1024 m e ≡ N.Quiet → Harmless 1024 0 1024 1096 leaving lr m e
untold m e q = record { block = rw q (λ t. t); reserved = rw q (λ t. t); stays = λ y. let z : ◌≡◌ {A = ℕ} 0 1 = cc in omega arith }

by_sc_harmless : Calm 1024 0 1024 1096 leaving lr (Harmless 1024 0 1024 1096 leaving lr) (begin leaving 0) mixed
unfolding running Touch
by_sc_harmless = (
  λ q. contrary refl q,
  (
    λ q. record { block = λ t. absurd (omega arith); reserved = λ t. absurd (omega arith); stays = λ y. let z : ◌≡◌ {A = ℕ} 0 1 = cc in omega arith },
    (
      λ q. record { block = λ t. t; reserved = λ t. t; stays = λ y. let z : ◌≡◌ {A = ℕ} 0 1 = cc in omega arith },
      (λ q. untold _ _ refl, (λ q. untold _ _ refl, (λ q. untold _ _ refl, (λ q. untold _ _ refl, (λ q. untold _ _ refl, (λ q. contrary refl q, tt)))))),
    ),
  ),
)

pub by_sc_calm : Calm 1024 0 1024 1096 leaving lr (LeftAlone 1024 0 1024 1096 leaving lr) (begin leaving 0) mixed
by_sc_calm =
    calm_alone 1024 0 1024 1096 leaving lr mixed (begin leaving 0) (starts_leaving 0).valid (starts_leaving 0).used by_sc_harmless

-- and neither the LR nor the branch was the finish
pub by_sc_unfinished : Unfinished 1024 0 1024 1096 leaving lr (begin leaving 0) mixed
unfolding running
by_sc_unfinished = (not_lr, (never, (never, (never, (never, (never, (never, (never, (not_branch, tt)))))))))
  where
    never : {P : Type 0} → false ≡ true → P → ⊥
    never q f = contrary refl (sym q)

    not_lr : true ≡ true → Finish 1024 0 1024 1096 leaving lr (begin leaving 0) (Step 0) → ⊥
    not_lr t (by_sc s) = let a : O.Retired ≡ O.ScStored = s.success.stored in let z : ◌≡◌ {A = ℕ} 0 1 = cc in omega arith
    not_lr t (left d) = d 1 (omega arith) refl
    not_lr t (back q) = let z : ◌≡◌ {A = ℕ} 1028 1024 = q in omega arith

    not_branch : true ≡ true → Finish 1024 0 1024 1096 leaving lr (run_of 1024 (begin leaving 0) so_far) (Step 0) → ⊥
    not_branch t (by_sc s) = let a : O.Retired ≡ O.ScStored = s.success.stored in let z : ◌≡◌ {A = ℕ} 0 1 = cc in omega arith
    not_branch t (left d) = d 2 (omega arith) refl
    not_branch t (back q) = let z : ◌≡◌ {A = ℕ} 1032 1024 = q in omega arith

-- where the word isn't 0, edge 12's loop is left by its first branch, and the other comes back to place 0 by its last
pub by_leaving : Finish 1024 0 1024 1096 leaving lr (run_of 1024 (begin leaving 5) (Step 0 ∷ [])) (Step 0)
unfolding running
by_leaving = left (λ k l q. let z : 1040 ≡ 1024 + 4 * k = q in omega arith)

pub by_coming_back : Finish 1024 0 1024 1096 waiting lr (run_of 1024 (begin waiting 5) (Step 0 ∷ Step 0 ∷ [])) (Step 0)
unfolding running
by_coming_back = back refl

-- ---- the bound can't be smaller

pub tight : Safe 1024 0 1024 1096 shortest lr (LeftAlone 1024 0 1024 1096 shortest lr) (length shortest - 1) (begin shortest 0) (Step 0 ∷ []) → ⊥
unfolding running
tight s = go s.1
  where
    unfinished : Finish 1024 0 1024 1096 shortest lr (begin shortest 0) (Step 0) → ⊥
    unfinished (by_sc f) = let a : O.Retired ≡ O.ScStored = f.success.stored in let z : ◌≡◌ {A = ℕ} 0 1 = cc in omega arith
    unfinished (left d) = d 1 (omega arith) refl
    unfinished (back q) = let z : ◌≡◌ {A = ℕ} 1028 1024 = q in omega arith

    go : Finish 1024 0 1024 1096 shortest lr (begin shortest 0) (Step 0) ⊎ ((1 < 1) × Unit {0}) → ⊥
    go (inl f) = unfinished f
    go (inr f) = omega (arith, f.0)

-- ---- what the claim asks of other events is needed

-- hart 0's step after these events
abbrev next : List Event → Outcome
next es = outcome_at 1024 (run_of 1024 (begin leaving 0) es) (Step 0)

-- the machine after the LR, and what hart 1's step writes there
abbrev reserved : Machine
reserved = run_of 1024 (begin leaving 0) (Step 0 ∷ [])

reserved_valid : Valid 1024 reserved
reserved_valid = valid_run 1024 (begin leaving 0) (starts_leaving 0).valid (Step 0 ∷ [])

written : notice_at 1024 reserved (Step 1) ≡ N.Write 1 1104 4
unfolding running store_of exec_store
written = refl

-- After the LR, hart 1 stores into the set, beside the LR's bytes. This, and nothing else that is asked, fails; and so does the SC.
pub record Disturbed : Type 0 where
  pub writes : WritesBytes 1024 reserved (Step 1) 1104 4 × Touch 1104 4 (set_of 64 1096) 64
  pub not_block : (b n : ℕ) → WritesBytes 1024 reserved (Step 1) b n → Touch b n 1024 (4 * length leaving) → ⊥
  pub no_yield_lem : Step 1 ≢ Yield 0
  pub fails : next (Step 0 ∷ Step 1 ∷ Step 0 ∷ []) ≡ O.ScFailed

pub disturbed : Disturbed
unfolding running store_of exec_store Touch
disturbed =
    record {
      writes = (
        by_hart 1 (inl ((notice_exact 1024 reserved reserved_valid (Step 1) (N.Write 1 1104 4)).0 written)),
        (1104, omega arith, omega arith, omega arith, omega arith),
      );
      not_block = λ b n w t.
          let z : WritesInto (N.Write 1 1104 4) 1024 16 =
          subst (λ (k : Notice). WritesInto k 1024 16) written ((writes_exact 1024 reserved reserved_valid (Step 1) 1024 16).1 (b, n, w, t)) in
          absurd (omega (arith, z.1, z.2, z.3, z.4));
      no_yield_lem = λ y. let z : ◌≡◌ {A = ℕ} 0 1 = cc in omega arith;
      fails = refl;
    }

-- A yield of hart 0 makes its SC fail, and so does, under A 2.1, a device write to a byte that the LR read; a device write into the loop, of ECALL, makes
-- it trap.
pub record Broken : Type 0 where
  pub yields : next (Step 0 ∷ Yield 0 ∷ Step 0 ∷ []) ≡ O.ScFailed
  pub device : next (Step 0 ∷ Device 1099 1 0 ∷ Step 0 ∷ []) ≡ O.ScFailed
  pub code_changes : next (Step 0 ∷ Device 1028 4 0x73 ∷ []) ≡ O.Trap 8 0

pub broken : Broken
unfolding running system_of
broken = record { yields = refl; device = refl; code_changes = refl }

-- ---- the set is as large as the state says

-- the machine of edge 12's loop with other settings, of a 64-bit core, meets the start too
pub starts_with : (settings : Settings) → settings.kind ≡ 0 → refusal_of 1024 128 (begin_with settings leaving 0).state ≡ 0
    → Start 1024 0 1024 1096 leaving lr (begin_with settings leaving 0)
unfolding to_le
starts_with settings is none =
    let start = starts_leaving 0 in
    record {
      valid = (refusal_0 1024 128 (begin_with settings leaving 0).state).0 none;
      shaped = record { registers = refl; pcs = refl; reservations = refl };
      used = start.used;
      here = start.here;
      accepted = checked_same leaving (at_version 21 settings) (at_version 21 defaults) is refl ∙ start.accepted;
      placed = start.placed;
      mapped = start.mapped;
      first = subst (λ (n : ℕ). LrAt n leaving 0 lr) (sym (xlen_64 settings is ∙ sym defaults_64)) start.first;
      address = start.address;
      aligned = start.aligned;
      reachable = start.reachable;
    }

-- another set size
abbrev of_size : ℕ → Settings
of_size size = record { size = size; version = 21; kind = 0; misaligned = 0 }

-- after the LR, with sets of 16 bytes
abbrev reserved_16 : Machine
reserved_16 = run_of 1024 (begin_with (of_size 16) leaving 0) (Step 0 ∷ [])

start_16 : Start 1024 0 1024 1096 leaving lr (begin_with (of_size 16) leaving 0)
unfolding refusing
start_16 = starts_with (of_size 16) refl refl

used_16 : 0 < reserved_16.state.count
unfolding running
used_16 = omega arith

written_16 : notice_at 1024 reserved_16 (Step 1) ≡ N.Write 1 1104 4
unfolding running store_of exec_store
written_16 = refl

harmless_16 : Harmless 1024 0 1024 1096 leaving lr reserved_16 (Step 1)
unfolding running store_of exec_store Touch
harmless_16 =
    record { block = λ t. absurd (omega arith); reserved = λ t. absurd (omega arith); stays = λ y. let z : ◌≡◌ {A = ℕ} 0 1 = cc in omega arith }

-- hart 0's step after these events
abbrev next_with : Settings → List Event → Outcome
next_with settings es = outcome_at 1024 (run_of 1024 (begin_with settings leaving 0) es) (Step 0)

-- After the LR at 1096 hart 1 stores at 1104. With sets of 16 bytes, and of 8, that is behind the set, and the SC stores; of 16 it is proved too that the
-- store leaves the loop alone. It is inside sets of 64 and of 128, and the SC fails.
pub record BySize : Type 0 where
  pub alone : LeftAlone 1024 0 1024 1096 leaving lr reserved_16 (Step 1)
  pub stores_8 : next_with (of_size 8) (Step 0 ∷ Step 1 ∷ Step 0 ∷ []) ≡ O.ScStored
  pub stores_16 : next_with (of_size 16) (Step 0 ∷ Step 1 ∷ Step 0 ∷ []) ≡ O.ScStored
  pub fails_64 : next_with (of_size 64) (Step 0 ∷ Step 1 ∷ Step 0 ∷ []) ≡ O.ScFailed
  pub fails_128 : next_with (of_size 128) (Step 0 ∷ Step 1 ∷ Step 0 ∷ []) ≡ O.ScFailed

pub by_size : BySize
unfolding running store_of exec_store
by_size =
    record {
      alone =
          (alone_exact 1024 0 1024 1096 leaving lr reserved_16
          (valid_run 1024 (begin_with (of_size 16) leaving 0) start_16.valid (Step 0 ∷ [])) used_16 (Step 1)).1 harmless_16;
      stores_8 = refl;
      stores_16 = refl;
      fails_64 = refl;
      fails_128 = refl;
    }

-- ---- the state's version

-- edge 12's loop on a machine of A 2.0
pub starts_20 : Start 1024 0 1024 1096 leaving lr (begin_with (of_version 20) leaving 0)
unfolding refusing
starts_20 = starts_with (of_version 20) refl refl

-- after hart 0's LR, the harts whose reservation a device write of a byte that it read breaks
abbrev lost : Settings → ℕ
lost settings = broke_at 1024 (run_of 1024 (begin_with settings leaving 0) (Step 0 ∷ [])) (Device 1099 1 0)

-- After the LR a device writes a byte that it read: under 2.0 this breaks no reservation and the SC stores, under 2.1 it breaks that of hart 0, bit 0,
-- and the SC fails.
pub record ByVersion : Type 0 where
  pub breaks_none_20 : lost (of_version 20) ≡ 0
  pub stores_20 : next_with (of_version 20) (Step 0 ∷ Device 1099 1 0 ∷ Step 0 ∷ []) ≡ O.ScStored
  pub breaks_21 : lost (of_version 21) ≡ 1
  pub fails_21 : next_with (of_version 21) (Step 0 ∷ Device 1099 1 0 ∷ Step 0 ∷ []) ≡ O.ScFailed

pub by_version : ByVersion
unfolding running broken_of
by_version = record { breaks_none_20 = refl; stores_20 = refl; breaks_21 = refl; fails_21 = refl }

-- ---- a loop with a JALR

-- lr.w x6,(x5); jalr x0,1028(x0), which leads to itself; sc.w x7,x8,(x5)
abbrev staying : List ℕ
staying = 0x1002A32F ∷ 0x40400067 ∷ 0x1882A3AF ∷ []

abbrev on_20 : Machine
on_20 = begin_with (of_version 20) staying 0

-- its second word is a JALR
pub jalr_in_it : Stands (xlen on_20) staying 1 (Jalr 0 0 1028)
unfolding reading jalr_of
jalr_in_it = record { in_block = omega arith; decodes = refl }

-- 2.0 accepts it, and 2.1 does not
pub accepted_20 : check_of (of_version 20) staying ≡ Accepted
unfolding reading checking jalr_of
accepted_20 = refl

pub rejected_21 : check_of (of_version 21) staying ≡ Rejected 1 2
unfolding reading checking jalr_of
rejected_21 = refl

-- It meets every clause of the start but one: it is 2.0, the version of the state, that accepts it.
pub starts_staying : StartUnder 1024 0 1024 1096 staying lr on_20.state.settings on_20
unfolding reading checking refusing jalr_of reg_at
starts_staying =
    record {
      valid = (refusal_0 1024 128 on_20.state).0 refl;
      shaped = record { registers = refl; pcs = refl; reservations = refl };
      used = omega arith;
      here = refl;
      accepted = accepted_20;
      placed = placed;
      mapped = λ k l. (omega arith, omega arith);
      first = (record { in_block = omega arith; decodes = refl }, refl);
      address = refl;
      aligned = refl;
      reachable = (omega arith, omega arith);
    }
  where
    placed : (k : ℕ) → k < 3 → value_at 1024 on_20.mem (1024 + 4 * k) 4 ≡ get_or staying k 0
    placed zero l = refl
    placed (suc zero) l = refl
    placed (suc (suc zero)) l = refl
    placed (suc (suc (suc k))) l = absurd (omega arith)

-- hart 0 steps so often, and nobody else does anything
abbrev only : ℕ → List Event
only zero = []
only (suc n) = Step 0 ∷ only n

abbrev on_way : ℕ → Outcome
on_way n = outcome_at 1024 (run_of 1024 on_20 (only n)) (Step 0)

-- Every step retires, however many there are, and none is a finish: the hart stays at the second word.
pub record Stays : Type 0 where
  pub retires : (n : ℕ) → on_way n ≡ O.Retired
  pub unfinished : (n : ℕ) → Unfinished 1024 0 1024 1096 staying lr on_20 (only n)
  pub there : (n : ℕ) → hart_pc (run_of 1024 on_20 (only (suc n))) 0 ≡ 1028

-- a step that retires and leads to the second word is no finish
no_finish : (m : Machine) → outcome_at 1024 m (Step 0) ≡ O.Retired → hart_pc (next_of 1024 m (Step 0)) 0 ≡ 1028
    → Finish 1024 0 1024 1096 staying lr m (Step 0) → ⊥
no_finish m o q (by_sc f) = let a = f.success.stored in let z : ◌≡◌ {A = ℕ} 0 1 = cc in omega arith
no_finish m o q (left d) = d 1 (omega arith) q
no_finish m o q (back b) = let z : ◌≡◌ {A = ℕ} 1028 1024 = sym q ∙ b in omega arith

-- after the LR
abbrev second : Machine
second = next_of 1024 on_20 (Step 0)

-- the JALR retires, and leaves the machine as it was
record Round : Type 0 where
  retires : outcome_at 1024 second (Step 0) ≡ O.Retired
  leads : hart_pc (next_of 1024 second (Step 0)) 0 ≡ 1028
  same : next_of 1024 second (Step 0) ≡ second

round : Round
unfolding running jalr_of exec_jump
round = record { retires = refl; leads = refl; same = refl }

-- so any number of them does
run_round : (n : ℕ) → run_of 1024 second (only n) ≡ second
unfolding run_of
run_round zero = refl
run_round (suc n) = ap (λ (m : Machine). run_of 1024 m (only n)) round.same ∙ run_round n

unfinished_round : (n : ℕ) → Unfinished 1024 0 1024 1096 staying lr second (only n)
unfinished_round zero = tt
unfinished_round (suc n) = (
  λ q. no_finish second round.retires round.leads,
  subst (λ (m : Machine). Unfinished 1024 0 1024 1096 staying lr m (only n)) (sym round.same) (unfinished_round n),
)

pub stays : Stays
unfolding running jalr_of exec_jump
stays = record { retires = retires; unfinished = unfinished; there = λ n. ap (λ (m : Machine). hart_pc m 0) (run_round n) }
  where
    retires : (n : ℕ) → on_way n ≡ O.Retired
    retires zero = refl
    retires (suc n) = ap (λ (m : Machine). outcome_at 1024 m (Step 0)) (run_round n)

    unfinished : (n : ℕ) → Unfinished 1024 0 1024 1096 staying lr on_20 (only n)
    unfinished zero = tt
    unfinished (suc n) = (λ q. no_finish on_20 refl refl, unfinished_round n)

-- so the claim doesn't hold of this loop
pub not_of_staying : Finishes 1024 0 1024 1096 staying lr (LeftAlone 1024 0 1024 1096 staying lr) on_20 → ⊥
not_of_staying claim = unsafe (claim (only 3))
  where
    unsafe : Safe 1024 0 1024 1096 staying lr (LeftAlone 1024 0 1024 1096 staying lr) 3 on_20 (only 3) → ⊥
    unsafe s = one s.1
      where
        end : Finish 1024 0 1024 1096 staying lr (next_of 1024 second (Step 0)) (Step 0) ⊎ ((1 < 1) × Unit {0}) → ⊥
        end (inl f) = (stays.unfinished 3).1.1.0 refl f
        end (inr f) = omega (arith, f.0)

        two : Finish 1024 0 1024 1096 staying lr second (Step 0)
            ⊎ ((1 < 2) × Safe 1024 0 1024 1096 staying lr (LeftAlone 1024 0 1024 1096 staying lr) 1 (next_of 1024 second (Step 0)) (only 1)) → ⊥
        two (inl f) = (stays.unfinished 3).1.0 refl f
        two (inr f) = end f.1.1

        one : Finish 1024 0 1024 1096 staying lr on_20 (Step 0)
            ⊎ ((1 < 3) × Safe 1024 0 1024 1096 staying lr (LeftAlone 1024 0 1024 1096 staying lr) 2 second (only 2)) → ⊥
        one (inl f) = (stays.unfinished 3).0 refl f
        one (inr f) = two f.1.1

-- So on a machine of 2.0 the claim doesn't hold of every block that 2.0 accepts: `retry_by_version` needs its premise on JALR.
pub not_under_20 : ((base h p addr : ℕ) (words : List ℕ) (first : Atomic) (m : Machine) → version m ≡ 20
    → StartUnder base h p addr words first m.state.settings m → Finishes base h p addr words first (LeftAlone base h p addr words first) m)
    → ⊥
not_under_20 claim = not_of_staying (claim 1024 0 1024 1096 staying lr on_20 refl starts_staying)

-- ---- a 32-bit core

-- Edge 12's loop at the end of the addresses of a 32-bit core: its four words are the last, so that its first branch, where it is taken, leads past 2 ^ 32,
-- to 0. 128 bytes at 0xFFFFFF80, and the word v in the set from 0xFFFFFFC0 on.
abbrev begin_32 : ℕ → Machine
begin_32 v =
    record {
      state =
          record {
            count = 1;
            settings = of_kind 21 1;
            x = 0 ∷ 0 ∷ 0 ∷ 0 ∷ 0 ∷ 0xFFFFFFC0 ∷ 0 ∷ 0 ∷ 9 ∷ replicate 247 0;
            pc = 0xFFFFFFF0 ∷ replicate 7 0;
            res = replicate 8 None;
          };
      mem = replicate 64 0 ++ (to_le 4 v ++ (replicate 44 0 ++ code leaving));
    }

pub starts_32 : (v : ℕ) → Start 0xFFFFFF80 0 0xFFFFFFF0 0xFFFFFFC0 leaving lr (begin_32 v)
unfolding reading checking refusing reg_at narrowed
starts_32 v =
    record {
      valid = (refusal_0 0xFFFFFF80 128 (begin_32 v).state).0 refl;
      shaped = record { registers = refl; pcs = refl; reservations = refl };
      used = omega arith;
      here = refl;
      accepted = refl;
      placed = placed;
      mapped = λ k l. (omega arith, omega arith);
      first = (record { in_block = omega arith; decodes = refl }, refl);
      address = refl;
      aligned = refl;
      reachable = (omega arith, omega arith);
    }
  where
    placed : (k : ℕ) → k < 4 → value_at 0xFFFFFF80 (begin_32 v).mem (0xFFFFFFF0 + 4 * k) 4 ≡ get_or leaving k 0
    placed zero l = refl
    placed (suc zero) l = refl
    placed (suc (suc zero)) l = refl
    placed (suc (suc (suc zero))) l = refl
    placed (suc (suc (suc (suc k)))) l = absurd (omega arith)

-- so the claim holds of it
pub finishes_32 : (v : ℕ) → Finishes 0xFFFFFF80 0 0xFFFFFFF0 0xFFFFFFC0 leaving lr (LeftAlone 0xFFFFFF80 0 0xFFFFFFF0 0xFFFFFFC0 leaving lr) (begin_32 v)
finishes_32 v = retry_alone 0xFFFFFF80 0 0xFFFFFFF0 0xFFFFFFC0 leaving lr (begin_32 v) (starts_32 v)

-- Where the word is 0 the loop stores by its SC; where it isn't, it is left by its first branch, to address 0.
pub record AtTheTop : Type 0 where
  pub stores : outcome_at 0xFFFFFF80 (run_of 0xFFFFFF80 (begin_32 0) (Step 0 ∷ Step 0 ∷ [])) (Step 0) ≡ O.ScStored
  pub leaves_to : hart_pc (run_of 0xFFFFFF80 (begin_32 5) (Step 0 ∷ Step 0 ∷ [])) 0 ≡ 0
  pub is_left : Finish 0xFFFFFF80 0 0xFFFFFFF0 0xFFFFFFC0 leaving lr (run_of 0xFFFFFF80 (begin_32 5) (Step 0 ∷ [])) (Step 0)

pub at_the_top : AtTheTop
unfolding running narrowed
at_the_top = record { stores = refl; leaves_to = refl; is_left = left (λ k l q. let z : 0 ≡ 0xFFFFFFF0 + 4 * k = q in omega arith) }
