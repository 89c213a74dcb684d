-- Demand 3: an accepted retry loop that is left alone finishes. Assumes nothing.
use mathlib.Core.Path.{◌≡◌, refl, sym, ◌∙◌, ap, ap₂, subst}
use mathlib.Core.Logic.{◌≢◌, ◌⊎◌, inl, inr, ⊎_elim}
use mathlib.Core.Bool.{Bool, true, false, cond}
use mathlib.Core.List.{List, [], ◌∷◌, ◌++◌}
use Prim.Native.Nat.{ℕ, suc, ◌+◌, ◌*◌, ◌-◌, ◌/◌, ◌^◌, ◌%◌, ◌≤◌, ◌<◌}
use native.Mathlib.Nat.{mod-eq_of_lt}
use native.Mathlib.Omega.{arith}
use native.Mathlib.Decide.{dec_lt}
use lib.ListN.{length, get_or}
use lib.Seq.{get_or-set_same}
use borrow.Author.Tests.{eqb-true, eqb-false, eq-eqb}
use Rattle.word.specs.Bytes.{to_le}
use Rattle.word.specs.Memory.{part}
use Rattle.word.proofs.BytesLaws.{length-to_le}
use Rattle.word.proofs.MemoryLaws.{part-splice}
use Rattle.word.proofs.WordLaws.{split_lt, xlen_bounds}
use Rattle.settings.specs.Settings.{at_version, xlen_of}
use Rattle.settings.proofs.SettingsLaws.{xlen_is, at_version-xlen}
use Rattle.settings.specs.declared.Settings.{Settings}
use Rattle.reserve.specs.Range.{Touch, Inside, set_of}
use Rattle.reserve.specs.Reserve.{covers_of, observe_of}
use Rattle.std.specs.Prelude.{Option}
use Rattle.reserve.specs.declared.Reservation.{Reservation}
use Rattle.reserve.specs.Reserve.{held}
use Rattle.reserve.specs.declared.Notice.{Notice}
use Rattle.reserve.specs.declared.Notice.TheVariants as N
use Rattle.reserve.proofs.RangeLaws.{covers_exact, reserved_in_set}
use Rattle.isa.specs.Width.{bytes_of}
use Rattle.isa.specs.Wf.{Regs}
use Rattle.isa.specs.Narrow.{decode_at}
use Rattle.isa.specs.declared.Atomic.{Atomic}
use Rattle.isa.specs.declared.AtomicOp.TheVariants as A
use Rattle.isa.specs.declared.Instr.{Instr}
use Rattle.isa.specs.declared.Instr.TheVariants as I
use Rattle.isa.proofs.NarrowLaws.{regs_at}
use Rattle.machine.specs.Rules.{Shaped}
use Rattle.effect.specs.Effect.{Writes, one, Access, nothing, reserve, sc_stored, Exec, notice_of, offset, next_pc}
use Rattle.effect.specs.Memory.{value_at}
use Rattle.effect.specs.Execute.{reg_at, execute}
use Rattle.effect.proofs.Sound.{width_is}
use Rattle.events.specs.declared.Event.{Event}
use Rattle.events.specs.declared.Event.TheVariants.{Step, Device, Yield}
use Rattle.model.specs.Act.{Act, change, outcome_of, retired_as, act_notice, written, pcs_after, registers_after, apply, leaves}
use Rattle.model.specs.Perform.{Machine, set_size, xlen, reservation_of, of_exec, act_of, answer_of, memory_of, next_of, run_of, outcome_at}
use Rattle.model.specs.Valid.{Valid}
use Rattle.model.specs.Trace.{notice_at, WritesInto, NotBy}
use Rattle.model.specs.Fetch.{Fetches}
use Rattle.model.specs.Retired.{IsRetired}
use Rattle.model.specs.declared.Outcome.TheVariants as O
use Rattle.model.proofs.Valid.{valid_next, length_next}
use Rattle.model.proofs.Frame.{count_next, settings_next, shaped_next, other_reg, other_pc_lem, not_by, res_next, observe_quiet, value_next, step_act}
use Rattle.history.specs.History.{Spares}
use Rattle.history.proofs.History.{made, kept}
use Rattle.retry.specs.Loop.{view_of, view_at, check_of}
use Rattle.retry.specs.Reasons.{LrAt}
use Rattle.retry.specs.declared.LoopAnswer.TheVariants.{Accepted}
use Rattle.retry.specs.declared.View.{View}
use Rattle.retry.specs.declared.View.TheVariants.{Lr, Sc, Plain, Jump, Branch, Other}
use Rattle.retry.proofs.ViewLaws.{Seen, SeenLr, SeenSc, seen, lr_view}
use Rattle.retry.proofs.ShapeLaws.{Ahead, Home, Keeps, Before, After, Block, block}
use Rattle.progress.specs.Claim.{hart_pc, is_step, StoresAtLr, FineAs, Fine, Start, Harmless, Finish, by_sc, left, back}
use Rattle.progress.specs.Claim.{Safe, Finishes, Calm, Unfinished, steps, NextStep}
use Rattle.progress.proofs.WrapLaws.{moved, stays_put, addresses}
use Rattle.progress.proofs.Does.{Moves, Does, does, does_lr, does_sc}

-- ---- notices

touch_in : (b k a n c l : ℕ) → c ≤ a → a + n ≤ c + l → Touch b k a n → Touch b k c l
unfolding Touch
touch_in b k a n c l low high t = (t.0, t.1, t.2, omega arith, omega arith)

-- what writes into bytes writes into any that hold them
writes_in : (nt : Notice) (a n c l : ℕ) → c ≤ a → a + n ≤ c + l → WritesInto nt a n → WritesInto nt c l
writes_in N.Quiet a n c l low high t = t
writes_in (N.LoadReserved g b w) a n c l low high t = t
writes_in (N.ScStored g b k) a n c l low high t = touch_in b k a n c l low high t
writes_in (N.ScFailed g) a n c l low high t = t
writes_in (N.Write g b k) a n c l low high t = touch_in b k a n c l low high t
writes_in (N.DeviceWrite b k) a n c l low high t = touch_in b k a n c l low high t
writes_in (N.Yield g) a n c l low high t = t

-- An event of others that doesn't write into the set, and no yield of the hart, spares what its LR reserved.
spares : (settings : Settings) (h addr w : ℕ) → Inside (set_of settings.size addr) settings.size addr w → (nt : Notice) → NotBy h nt
    → (WritesInto nt (set_of settings.size addr) settings.size → ⊥) → nt ≢ N.Yield h → Spares settings h addr w nt
unfolding Spares
spares settings h addr w i N.Quiet d r y = tt
spares settings h addr w i (N.LoadReserved g b v) d r y = d
spares settings h addr w i (N.ScStored g b k) d r y = (d, r)
spares settings h addr w i (N.ScFailed g) d r y = d
spares settings h addr w i (N.Write g b k) d r y = λ z. r
spares settings h addr w i (N.DeviceWrite b k) d r y = λ v t. r (touch_in b k addr w (set_of settings.size addr) settings.size i.0 i.1 t)
spares settings h addr w i (N.Yield g) d r y = λ z. y (ap N.Yield z)

-- ---- events

step_is : (h : ℕ) (e : Event) → is_step h e ≡ true → e ≡ Step h
step_is h (Step g) t = ap Step (eqb-true g h t)
step_is h (Device a n v) t = absurd (let z : ◌≡◌ {A = ℕ} 0 1 = cc in omega arith)
step_is h (Yield g) t = absurd (let z : ◌≡◌ {A = ℕ} 0 1 = cc in omega arith)

not_step : (h : ℕ) (e : Event) → is_step h e ≡ false → e ≢ Step h
not_step h (Step g) f q = eqb-false g h f (let z : g ≡ h = cc in z)
not_step h (Device a n v) f q = let z : ◌≡◌ {A = ℕ} 0 1 = cc in omega arith
not_step h (Yield g) f q = let z : ◌≡◌ {A = ℕ} 0 1 = cc in omega arith

-- ---- a step that retires, from its act

module _ (base : ℕ) (m : Machine) (h : ℕ) (ws : Writes) (to : ℕ) (t : Access) (q : act_of base m.mem m.state (Step h) ≡ change h ws to t) where
  said : outcome_at base m (Step h) ≡ retired_as (notice_of h t)
  unfolding answer_of
  said = ap outcome_of q

  noticed : notice_at base m (Step h) ≡ notice_of h t
  noticed = ap act_notice q

  goes : h < length m.state.pc → hart_pc (next_of base m (Step h)) h ≡ to
  unfolding next_of answer_of apply
  goes l = ap (λ (a : Act). get_or (pcs_after a m.state.pc) h 0) q ∙ get_or-set_same m.state.pc h to 0 l

  regs : (r : ℕ) → reg_at (next_of base m (Step h)).state.x h r ≡ reg_at (written h ws m.state.x) h r
  unfolding next_of answer_of apply
  regs r = ap (λ (a : Act). reg_at (registers_after a m.state.x) h r) q

  leaves_mem : (next_of base m (Step h)).mem ≡ leaves base m.mem (change h ws to t)
  unfolding next_of memory_of
  leaves_mem = ap (leaves base m.mem) q

-- Safe as long as all other events are harmless.
abbrev SafeAlone : (base h p addr : ℕ) (words : List ℕ) (lr : Atomic) → ℕ → Machine → List Event → Type 0
SafeAlone base h p addr words lr = Safe base h p addr words lr (Harmless base h p addr words lr)

-- what the word at a place is on a machine of these settings, and what the loop checker sees of it under A 2.1
abbrev instr_at : Settings → List ℕ → ℕ → Instr
instr_at settings words k = decode_at (xlen_of settings) (get_or words k 0)

abbrev seen_at : Settings → List ℕ → ℕ → View
seen_at settings words k = view_of (at_version 21 settings) (instr_at settings words k)

-- the checker reads the word at the machine's own width: a version changes none
as_seen : (settings : Settings) (words : List ℕ) (k : ℕ) → seen_at settings words k ≡ view_at (at_version 21 settings) words k
as_seen settings words k =
    ap (λ (n : ℕ). view_of (at_version 21 settings) (decode_at n (get_or words k 0))) (sym (at_version-xlen 21 settings))

-- ---- the loop: an LR at place 0, the first SC at place j

module _ (settings : Settings) (base h p addr : ℕ) (words : List ℕ) (lr : Atomic) (j : ℕ)
    (aligned : addr % bytes_of lr.width ≡ 0)
    (first : instr_at settings words 0 ≡ I.Amo lr) (is_lr : lr.op ≡ A.Lr)
    (keeps : Keeps lr.rs1 lr.rd)
    (j_pos : 0 < j) (j-in : j < length words)
    (sc_view : seen_at settings words j ≡ Sc lr.rs1 (bytes_of lr.width))
    (before : (k : ℕ) → 0 < k → k < j → Before lr.rs1 (seen_at settings words k))
    (after : (k : ℕ) → j < k → k < length words → After k (seen_at settings words k)) where
  -- the register width
  abbrev bits : ℕ
  bits = xlen_of settings

  many : 2 ^ 32 ≤ 2 ^ bits
  many = addresses bits (xlen_is settings)

  own_set : (m : Machine) → Valid base m → Inside (set_of (set_size m) addr) (set_size m) addr (bytes_of lr.width)
  own_set m v = reserved_in_set m.state.settings v.0.0 addr (bytes_of lr.width) (width_is lr.width) aligned

  lr_regs : Regs (I.Amo lr)
  lr_regs = subst Regs first (regs_at bits (get_or words 0 0))

  -- what holds at every place
  record Ground (m : Machine) : Type 0 where
    valid : Valid base m
    set_so : m.state.settings ≡ settings
    shaped : Shaped m.state
    used : h < m.state.count
    placed : (k : ℕ) → k < length words → value_at base m.mem (p + 4 * k) 4 ≡ get_or words k 0
    mapped : (k : ℕ) → k < length words → Inside base (length m.mem) (p + 4 * k) 4
    reachable : Inside base (length m.mem) addr (bytes_of lr.width)

  -- the hart stands at place i
  record At (m : Machine) (i : ℕ) : Type 0 where
    ground : Ground m
    here : hart_pc m h ≡ p + 4 * i
    in_loop : i < length words
    source : i ≤ j → reg_at m.state.x h lr.rs1 ≡ addr
    holds : 0 < i → i ≤ j → reservation_of m.state h ≡ held addr (bytes_of lr.width)

  ground_next : (m : Machine) (e : Event) → Ground m → (WritesInto (notice_at base m e) p (4 * length words) → ⊥) → Ground (next_of base m e)
  ground_next m e g d =
      record {
        valid = valid_next base m g.valid e;
        set_so = settings_next base m e ∙ g.set_so;
        shaped = shaped_next base m e g.shaped;
        used = subst (λ (c : ℕ). h < c) (sym (count_next base m e)) g.used;
        placed = λ k l.
            value_next base m e g.valid (p + 4 * k) 4 (g.mapped k l).0
            (λ t. d (writes_in (notice_at base m e) (p + 4 * k) 4 p (4 * length words) (omega arith) (omega arith) t))
            ∙ g.placed k l;
        mapped = λ k l. subst (λ (n : ℕ). Inside base n (p + 4 * k) 4) (sym (length_next base m g.valid e)) (g.mapped k l);
        reachable = subst (λ (n : ℕ). Inside base n addr (bytes_of lr.width)) (sym (length_next base m g.valid e)) g.reachable;
      }

  -- an event of others
  stays : (m : Machine) (i : ℕ) (e : Event) → At m i → e ≢ Step h → Harmless base h p addr words lr m e → At (next_of base m e) i
  stays m i e a d s =
      record {
        ground = ground_next m e a.ground s.block;
        here = other_pc_lem base m e h d ∙ a.here;
        in_loop = a.in_loop;
        source = λ l. other_reg base m e h d lr.rs1 ∙ a.source l;
        holds = λ o l.
            res_next base m e a.ground.valid a.ground.shaped h a.ground.used
            ∙ ap (observe_of m.state.settings h (notice_at base m e)) (a.holds o l)
            ∙ kept m.state.settings h addr (bytes_of lr.width) (notice_at base m e)
            (spares m.state.settings h addr (bytes_of lr.width) (own_set m a.ground.valid) (notice_at base m e) (not_by base m e h d)
            s.reserved s.stays);
      }

  -- ---- the hart's own step

  Onward : Machine → ℕ → Type 0
  Onward m i = Finish base h p addr words lr m (Step h) ⊎ ((i' : ℕ) × (i < i') × At (next_of base m (Step h)) i')

  Good : Machine → ℕ → Type 0
  Good m i = Fine base h p addr words lr m (Step h) × Onward m i

  module _ (m : Machine) (i : ℕ) (a : At m i) where
    -- what an instruction does here, and the word at the place
    abbrev by : Instr → Exec
    by n =
        execute bits settings.misaligned n (value_at base m.mem (hart_pc m h) 4) (reg_at m.state.x h) (hart_pc m h) base m.mem
        (covers_of m.state.settings (reservation_of m.state h))

    abbrev exec : Exec
    exec = by (instr_at settings words i)

    width_so : xlen m ≡ bits
    width_so = ap xlen_of a.ground.set_so

    fetches : Fetches base m h (instr_at settings words i)
    fetches =
        record {
          inside = subst (λ (x : ℕ). Inside base (length m.mem) x 4) (sym a.here) (a.ground.mapped i a.in_loop);
          decodes = ap₂ decode_at width_so (ap (λ (x : ℕ). value_at base m.mem x 4) a.here ∙ a.ground.placed i a.in_loop);
        }

    act_is : act_of base m.mem m.state (Step h) ≡ of_exec h exec
    act_is =
        step_act base m a.ground.valid h a.ground.used (instr_at settings words i) fetches
        ∙ ap (λ (s : Settings). of_exec h
        (execute (xlen_of s) s.misaligned (instr_at settings words i) (value_at base m.mem (hart_pc m h) 4) (reg_at m.state.x h) (hart_pc m h) base m.mem
        (covers_of m.state.settings (reservation_of m.state h)))) a.ground.set_so

    hart_8 : h < 8
    hart_8 = omega (arith, a.ground.used, a.ground.valid.1.1)

    -- the words of the block stand below 2 ^ bits, and in a memory that is much shorter
    below : (k : ℕ) → k < length words → p + 4 * k < 2 ^ bits
    below k l = omega (arith, (a.ground.mapped k l).1, subst (λ (s : Settings). base + length m.mem ≤ 2 ^ xlen_of s) a.ground.set_so a.ground.valid.0.2)

    close : (k : ℕ) → k < length words → 4 * k < 2 ^ 20
    close k l = omega (arith, (a.ground.mapped 0 (omega arith)).0, (a.ground.mapped k l).1, a.ground.valid.0.1.1)

    enough : 2 ≤ bits
    enough = omega (arith, (xlen_bounds bits (xlen_is settings)).0)

    pc_aligned : hart_pc m h % 4 ≡ 0
    pc_aligned = (a.ground.valid.1.2 h a.ground.used).1

    -- it retires and goes to a later place: there, or out of the loop
    module _ (rd i' : ℕ) (t : Access) (mv : Moves exec rd (offset bits p (4 * i')) t) (on : i < i') (short : 4 * i' < 2 ^ 32)
        (quiet : WritesInto (notice_of h t) p (4 * length words) → ⊥) (rs1-kept : i' ≤ j → Keeps lr.rs1 rd)
        (res-held : i' ≤ j → observe_of m.state.settings h (notice_of h t) (reservation_of m.state h) ≡ held addr (bytes_of lr.width)) where
      abbrev to : ℕ
      to = offset bits p (4 * i')

      changed : act_of base m.mem m.state (Step h) ≡ change h mv.ws to t
      changed = act_is ∙ ap (of_exec h) mv.is

      to_there : hart_pc (next_of base m (Step h)) h ≡ to
      to_there = goes base m h mv.ws to t changed (omega (arith, hart_8, a.ground.shaped.pcs))

      arrive : Onward m i
      unfolding Onward
      arrive = go (dec_lt i' (length words))
        where
          go : Dec (i' < length words) → Finish base h p addr words lr m (Step h) ⊎ ((i' : ℕ) × (i < i') × At (next_of base m (Step h)) i')
          go (yes b) =
              inr (
                i',
                on,
                record {
                  ground = ground_next m (Step h) a.ground
                      (subst (λ (n : Notice). WritesInto n p (4 * length words) → ⊥) (sym (noticed base m h mv.ws to t changed)) quiet);
                  here = to_there ∙ mod-eq_of_lt (below i' b);
                  in_loop = b;
                  source = λ l.
                      regs base m h mv.ws to t changed lr.rs1 ∙ mv.kept m.state.x h lr.rs1 lr_regs.1 (rs1-kept l)
                      ∙ a.source (omega arith);
                  holds = λ z l.
                      res_next base m (Step h) a.ground.valid a.ground.shaped h a.ground.used
                      ∙ ap (λ (n : Notice). observe_of m.state.settings h n (reservation_of m.state h)) (noticed base m h mv.ws to t changed)
                      ∙ res-held l;
                },
              )
          go (no b) =
              inl (left (λ k l x.
              let past : length words ≤ i' = ⊎_elim (λ c. absurd (b c)) (λ g. g) (split_lt i' (length words)) in
              let far : 0 < 4 * i' - 4 * k = omega (arith, l, past) in
              let there : p + 4 * k + (4 * i' - 4 * k) ≡ p + 4 * i' = omega (arith, far) in
              moved (2 ^ bits) (p + 4 * k) (4 * i' - 4 * k) (below k l) far (omega (arith, short, many))
              (ap (λ (n : ℕ). n % 2 ^ bits) there ∙ sym to_there ∙ x)))

      fine : FineAs base h p addr words lr m (Step h) (retired_as (notice_of h t)) → Fine base h p addr words lr m (Step h)
      fine f = subst (FineAs base h p addr words lr m (Step h)) (sym (said base m h mv.ws to t changed)) f

    -- a word that tells nothing
    silent : (rd i' : ℕ) → Moves exec rd (offset bits p (4 * i')) nothing → i < i' → 4 * i' < 2 ^ 32 → 0 < i → (i < j → Keeps lr.rs1 rd) → Good m i
    unfolding Good
    silent rd i' mv on short z ks = (
      fine rd i' nothing mv on short (λ t. t) (λ l. ks (omega arith)) (λ l. observe_quiet m.state.settings h _ ∙ a.holds z (omega arith)) tt,
      arrive rd i' nothing mv on short (λ t. t) (λ l. ks (omega arith)) (λ l. observe_quiet m.state.settings h _ ∙ a.holds z (omega arith)),
    )

    forward : (rd off : ℕ) → Moves exec rd (offset bits (hart_pc m h) off) nothing → Ahead off → 0 < i → (i < j → Keeps lr.rs1 rd) → Good m i
    forward rd off mv f z ks =
        let there : hart_pc m h + off ≡ p + 4 * (i + off / 4) = omega (arith, a.here, f.0) in
        silent rd (i + off / 4) (subst (λ (x : ℕ). Moves exec rd (x % 2 ^ bits) nothing) there mv) (omega (arith, f.0, f.1))
        (omega (arith, close i a.in_loop, f.2)) z ks

    in_order : (rd : ℕ) → Moves exec rd (offset bits (hart_pc m h) 4) nothing → 0 < i → (i < j → Keeps lr.rs1 rd) → Good m i
    in_order rd mv z ks =
        let there : hart_pc m h + 4 ≡ p + 4 * (i + 1) = omega (arith, a.here) in
        silent rd (i + 1) (subst (λ (x : ℕ). Moves exec rd (x % 2 ^ bits) nothing) there mv) (omega arith) (omega (arith, close i a.in_loop)) z ks

    home : (rd off : ℕ) → Moves exec rd (offset bits (hart_pc m h) off) nothing → Home i off → Good m i
    unfolding Good Onward
    home rd off mv f =
        let to : ℕ = offset bits (hart_pc m h) off in
        let there : hart_pc m h + off ≡ p + (4 * i + off) = omega (arith, a.here) in
        let start : p < 2 ^ bits = omega (arith, below i a.in_loop) in
        let q : act_of base m.mem m.state (Step h) ≡ change h mv.ws to nothing = act_is ∙ ap (of_exec h) mv.is in (
          subst (FineAs base h p addr words lr m (Step h)) (sym (said base m h mv.ws to nothing q)) tt,
          inl (back (goes base m h mv.ws to nothing q (omega (arith, hart_8, a.ground.shaped.pcs))
              ∙ ap (λ (n : ℕ). n % 2 ^ bits) there ∙ stays_put bits p (4 * i + off) (xlen_bounds bits (xlen_is settings)).1 start f.1)),
        )

    -- between the LR and the first SC
    middle : 0 < i → (v : View) → Before lr.rs1 v → Does bits v (hart_pc m h) exec → Good m i
    middle z (Lr rd s u) b d = absurd b
    middle z (Sc s u) b d = absurd b
    middle z (Plain rd) b d = in_order rd d z (λ l. b)
    middle z (Jump rd off) b d = forward rd off (d b.0.0) b.0 z (λ l. b.1)
    middle z (Branch off) b d = go (d b.0)
      where
        go : Moves exec 0 (offset bits (hart_pc m h) 4) nothing ⊎ Moves exec 0 (offset bits (hart_pc m h) off) nothing → Good m i
        go (inl mv) = in_order 0 mv z (λ l q. q)
        go (inr mv) = forward 0 off mv b z (λ l q. q)
    middle z Other b d = absurd b

    -- after the first SC
    turn : (rd off : ℕ) → j < i → Moves exec rd (offset bits (hart_pc m h) off) nothing → Ahead off ⊎ Home i off → Good m i
    turn rd off z mv (inl f) = forward rd off mv f (omega arith) (λ l. absurd (omega arith))
    turn rd off z mv (inr f) = home rd off mv f

    multiple : (off : ℕ) → Ahead off ⊎ Home i off → off % 4 ≡ 0
    multiple off (inl f) = f.0
    multiple off (inr f) = f.0

    late : j < i → (v : View) → After i v → Does bits v (hart_pc m h) exec → Good m i
    late z (Lr rd s u) b d = absurd b
    late z (Sc s u) b d = absurd b
    late z (Plain rd) b d = in_order rd d (omega arith) (λ l. absurd (omega arith))
    late z (Jump rd off) b d = turn rd off z (d (multiple off b)) b
    late z (Branch off) b d = go (d (multiple off b))
      where
        go : Moves exec 0 (offset bits (hart_pc m h) 4) nothing ⊎ Moves exec 0 (offset bits (hart_pc m h) off) nothing → Good m i
        go (inl mv) = in_order 0 mv (omega arith) (λ l. absurd (omega arith))
        go (inr mv) = turn 0 off z mv b
    late z Other b d = absurd b

    -- place 0
    opening : i ≡ 0 → Good m i
    unfolding Good
    opening z = (
      fine lr.rd 1 (reserve addr (bytes_of lr.width)) mv (omega arith) (omega arith) (λ t. t) (λ l. keeps)
          (λ l. made m.state.settings h addr (bytes_of lr.width) _) tt,
      arrive lr.rd 1 (reserve addr (bytes_of lr.width)) mv (omega arith) (omega arith) (λ t. t) (λ l. keeps)
          (λ l. made m.state.settings h addr (bytes_of lr.width) _),
    )
      where
        src : reg_at m.state.x h lr.rs1 ≡ addr
        src = a.source (omega arith)

        is : instr_at settings words i ≡ I.Amo lr
        is = ap (instr_at settings words) z ∙ first

        at_lr : Moves (by (I.Amo lr)) lr.rd (offset bits (hart_pc m h) 4) (reserve (reg_at m.state.x h lr.rs1) (bytes_of lr.width))
        at_lr =
            does_lr bits enough (hart_pc m h) pc_aligned settings.misaligned (value_at base m.mem (hart_pc m h) 4) (reg_at m.state.x h) base m.mem
            (covers_of m.state.settings (reservation_of m.state h)) lr is_lr lr_regs (ap (λ (x : ℕ). x % bytes_of lr.width) src ∙ aligned)
            (subst (λ (x : ℕ). Inside base (length m.mem) x (bytes_of lr.width)) (sym src) a.ground.reachable)

        next : hart_pc m h + 4 ≡ p + 4 * 1
        next = omega (arith, a.here)

        mv : Moves exec lr.rd (offset bits p (4 * 1)) (reserve addr (bytes_of lr.width))
        mv =
            subst (λ (n : Instr). Moves (by n) lr.rd (offset bits p (4 * 1)) (reserve addr (bytes_of lr.width))) (sym is)
            (subst (λ (x : ℕ). Moves (by (I.Amo lr)) lr.rd (x % 2 ^ bits) (reserve addr (bytes_of lr.width))) next
            (subst (λ (x : ℕ). Moves (by (I.Amo lr)) lr.rd (offset bits (hart_pc m h) 4) (reserve x (bytes_of lr.width))) src at_lr))

    -- the place of the first SC
    closing : i ≡ j → Good m i
    unfolding Good Onward covers_of leaves
    closing z = (
      subst (FineAs base h p addr words lr m (Step h)) (sym answers) kept,
      inl (by_sc kept),
    )
      where
        s : SeenSc (instr_at settings words i) lr.rs1 (bytes_of lr.width)
        s =
            subst (Seen (instr_at settings words i)) (ap (seen_at settings words) z ∙ sc_view)
            (seen (at_version 21 settings) (instr_at settings words i))

        new : List ℕ
        new = to_le (bytes_of lr.width) (reg_at m.state.x h s.of.rs2)

        src : reg_at m.state.x h s.of.rs1 ≡ addr
        src = ap (reg_at m.state.x h) s.rs1_is ∙ a.source (omega arith)

        covered : covers_of m.state.settings (reservation_of m.state h) addr (bytes_of lr.width) ≡ true
        covered =
            ap (λ (r : Option Reservation). covers_of m.state.settings r addr (bytes_of lr.width)) (a.holds (omega arith) (omega arith))
            ∙ (covers_exact m.state.settings addr (bytes_of lr.width) addr (bytes_of lr.width)).1 (own_set m a.ground.valid)

        act : act_of base m.mem m.state (Step h) ≡ change h (one s.of.rd 0) (next_pc bits (hart_pc m h)) (sc_stored addr new)
        act =
            act_is
            ∙ ap (λ (n : Instr). of_exec h (by n)) s.is
            ∙ ap (of_exec h)
            (does_sc bits enough (hart_pc m h) pc_aligned settings.misaligned (value_at base m.mem (hart_pc m h) 4) (reg_at m.state.x h) base m.mem
            (covers_of m.state.settings (reservation_of m.state h)) s.of s.kind addr (bytes_of lr.width) src s.width_is aligned
            a.ground.reachable covered)

        answers : outcome_at base m (Step h) ≡ O.ScStored
        answers = said base m h (one s.of.rd 0) (next_pc bits (hart_pc m h)) (sc_stored addr new) act

        size : length new ≡ bytes_of lr.width
        size = length-to_le (bytes_of lr.width) (reg_at m.state.x h s.of.rs2)

        bytes : part (next_of base m (Step h)).mem (addr - base) (bytes_of lr.width) ≡ new
        bytes =
            ap₂ (λ (l : List ℕ) (n : ℕ). part l (addr - base) n)
            (leaves_mem base m h (one s.of.rd 0) (next_pc bits (hart_pc m h)) (sc_stored addr new) act) (sym size)
            ∙ part-splice m.mem (addr - base) new (omega (arith, size, a.ground.reachable.0, a.ground.reachable.1))

        kept : StoresAtLr base h p addr words lr m (Step h)
        kept =
            record {
              success =
                  record {
                    sc = s.of;
                    retires =
                        record { the_step = refl; fetches = subst (Fetches base m h) s.is fetches; retired = subst IsRetired (sym answers) tt };
                    operation = s.kind;
                    stored = answers;
                    address = sym src;
                    width = sym s.width_is;
                  };
              bytes = bytes;
            }

    data Place : Type 0 where
      at_lr : i ≡ 0 → Place
      at_middle : 0 < i → i < j → Place
      at_sc : i ≡ j → Place
      at_late : j < i → Place

    place : Place
    place = go (dec_lt 0 i) (dec_lt i j) (dec_lt j i)
      where
        go : Dec (0 < i) → Dec (i < j) → Dec (j < i) → Place
        go (no x) y z = at_lr (omega arith)
        go (yes x) (yes y) z = at_middle x y
        go (yes x) (no y) (yes z) = at_late z
        go (yes x) (no y) (no z) = at_sc (omega arith)

    -- the hart's step, at whatever place
    own : Good m i
    own = go place
      where
        d : Does bits (seen_at settings words i) (hart_pc m h) exec
        d =
            does bits enough (hart_pc m h) pc_aligned settings.misaligned (value_at base m.mem (hart_pc m h) 4) (reg_at m.state.x h) base m.mem
            (covers_of m.state.settings (reservation_of m.state h)) settings (instr_at settings words i) (regs_at bits (get_or words i 0))

        go : Place → Good m i
        go (at_lr z) = opening z
        go (at_middle z l) = middle z (seen_at settings words i) (before i z l) d
        go (at_sc z) = closing z
        go (at_late z) = late z (seen_at settings words i) (after i z a.in_loop) d

  -- the claim, from any place at which enough steps are left
  safe : (es : List Event) (m : Machine) (i k : ℕ) → At m i → length words ≤ k + i → SafeAlone base h p addr words lr k m es
  unfolding Good Onward
  safe [] m i k a l = tt
  safe (e ∷ es) m i k a l = go (is_step h e) refl (λ i' k'. safe es (next_of base m e) i' k')
    where
      go : (t : Bool) → is_step h e ≡ t
          → ((i' k' : ℕ) → At (next_of base m e) i' → length words ≤ k' + i' → SafeAlone base h p addr words lr k' (next_of base m e) es)
          → cond t
          (Fine base h p addr words lr m e × (Finish base h p addr words lr m e ⊎ ((1 < k) × SafeAlone base h p addr words lr (k - 1) (next_of base m e) es)))
          (Harmless base h p addr words lr m e → SafeAlone base h p addr words lr k (next_of base m e) es)
      go false q ih = λ s. ih i k (stays m i e a (not_step h e q) s) l
      go true q ih = (g.0, on g.1)
        where
          g : Fine base h p addr words lr m e × (Finish base h p addr words lr m e ⊎ ((i' : ℕ) × (i < i') × At (next_of base m e) i'))
          g =
              subst (λ (d : Event). Fine base h p addr words lr m d × (Finish base h p addr words lr m d ⊎ ((i' : ℕ) × (i < i') × At (next_of base m d) i')))
              (sym (step_is h e q)) (own m i a)

          on : Finish base h p addr words lr m e ⊎ ((i' : ℕ) × (i < i') × At (next_of base m e) i')
              → Finish base h p addr words lr m e ⊎ ((1 < k) × SafeAlone base h p addr words lr (k - 1) (next_of base m e) es)
          on (inl f) = inl f
          on (inr s) = let b : s.0 < length words = s.2.in_loop in inr (omega arith, ih s.0 (k - 1) s.2 (omega arith))

-- Every block that A 2.1 accepts has the LR that the start names.
pub has_lr : (settings : Settings) (words : List ℕ) → check_of (at_version 21 settings) words ≡ Accepted
    → (lr : Atomic) × LrAt (xlen_of settings) words 0 lr
has_lr settings words q =
    let b : Block (at_version 21 settings) words = block (at_version 21 settings) words q in
    let i = instr_at settings words 0 in
    let is : seen_at settings words 0 ≡ Lr b.rd b.rs1 b.width = as_seen settings words 0 ∙ b.lr_is in
    let s : SeenLr i b.rd b.rs1 b.width = subst (Seen i) is (seen (at_version 21 settings) i) in
    (s.of, (record { in_block = omega (arith, b.in_block); decodes = s.is }, s.kind))

module _ (base h p addr : ℕ) (words : List ℕ) (lr : Atomic) (m : Machine) (st : Start base h p addr words lr m) where
  abbrev settings : Settings
  settings = m.state.settings

  b : Block (at_version 21 settings) words
  b = block (at_version 21 settings) words st.accepted

  -- the LR that acceptance tells of is the start's
  same : Lr b.rd b.rs1 b.width ≡ Lr lr.rd lr.rs1 (bytes_of lr.width)
  same =
      sym b.lr_is ∙ sym (as_seen settings words 0) ∙ ap (view_of (at_version 21 settings)) st.first.0.decodes
      ∙ lr_view (at_version 21 settings) lr st.first.1

  rd_same : b.rd ≡ lr.rd
  rd_same = cc same

  rs1_same : b.rs1 ≡ lr.rs1
  rs1_same = cc same

  width_same : b.width ≡ bytes_of lr.width
  width_same = cc same

  -- Demand 3: from a start, every list of events is safe for as many steps of the hart as the block has words.
  pub retry : Finishes base h p addr words lr (Harmless base h p addr words lr) m
  retry es =
      safe settings base h p addr words lr b.sc st.aligned st.first.0.decodes st.first.1
      (λ q. let f : b.rs1 ≡ 0 = b.keeps (rs1_same ∙ q ∙ sym rd_same) in sym rs1_same ∙ f) b.later b.in_block
      (as_seen settings words b.sc ∙ b.sc_is_first ∙ ap₂ Sc rs1_same width_same)
      (λ k z l. subst (Before lr.rs1) (sym (as_seen settings words k))
      (subst (λ (r : ℕ). Before r (view_at (at_version 21 settings) words k)) rs1_same (b.before k z l)))
      (λ k z l. subst (After k) (sym (as_seen settings words k)) (b.after k z l)) es m 0 _
      (record {
        ground =
            record {
              valid = st.valid;
              set_so = refl;
              shaped = st.shaped;
              used = st.used;
              placed = st.placed;
              mapped = st.mapped;
              reachable = st.reachable;
            };
        here = omega (arith, st.here);
        in_loop = omega (arith, b.in_block);
        source = λ l. st.address;
        holds = λ z l. absurd (omega arith);
      })
      (omega arith)

-- ---- the claim without recursion

module _ (base h p addr : ℕ) (words : List ℕ) (lr : Atomic) where
  flat : (so_far : List Event) (k : ℕ) (m : Machine) → 0 < k → Calm base h p addr words lr (Harmless base h p addr words lr) m so_far
      → Unfinished base h p addr words lr m so_far
      → SafeAlone base h p addr words lr k m (so_far ++ Step h ∷ []) → NextStep base h p addr words lr k m so_far
  unfolding run_of
  flat [] k m z c u s = record { fine = g.0; bounded = z; finishes = last g.1 }
    where
      g : Fine base h p addr words lr m (Step h) × (Finish base h p addr words lr m (Step h) ⊎ ((1 < k) × Unit {0}))
      g =
          subst (λ (t : Bool).
          cond t (Fine base h p addr words lr m (Step h) × (Finish base h p addr words lr m (Step h) ⊎ ((1 < k) × Unit {0})))
          (Harmless base h p addr words lr m (Step h) → Unit {0})) (eq-eqb h h refl) s

      last : Finish base h p addr words lr m (Step h) ⊎ ((1 < k) × Unit {0}) → 1 ≡ k → Finish base h p addr words lr m (Step h)
      last (inl f) q = f
      last (inr f) q = absurd (omega arith)
  flat (d ∷ so_far) k m z c u s = go (is_step h d) refl s (λ k' z' s'. flat so_far k' (next_of base m d) z' c.1 u.1 s')
    where
      go : (t : Bool) → is_step h d ≡ t
          → cond t
          (Fine base h p addr words lr m d
          × (Finish base h p addr words lr m d ⊎ ((1 < k) × SafeAlone base h p addr words lr (k - 1) (next_of base m d) (so_far ++ Step h ∷ []))))
          (Harmless base h p addr words lr m d → SafeAlone base h p addr words lr k (next_of base m d) (so_far ++ Step h ∷ []))
          → ((k' : ℕ) → 0 < k' → SafeAlone base h p addr words lr k' (next_of base m d) (so_far ++ Step h ∷ [])
          → NextStep base h p addr words lr k' (next_of base m d) so_far)
          → NextStep base h p addr words lr k m (d ∷ so_far)
      go false q x ih =
          let y : NextStep base h p addr words lr k (next_of base m d) so_far = ih k z (x (c.0 q)) in
          let l : steps h (d ∷ so_far) ≡ steps h so_far = rw q in
          let b : steps h so_far < k = y.bounded in
          record { fine = y.fine; bounded = omega arith; finishes = λ r. y.finishes (omega arith) }
      go true q x ih = on x.1
        where
          on : Finish base h p addr words lr m d ⊎ ((1 < k) × SafeAlone base h p addr words lr (k - 1) (next_of base m d) (so_far ++ Step h ∷ []))
              → NextStep base h p addr words lr k m (d ∷ so_far)
          on (inl f) = absurd (u.0 q f)
          on (inr f) =
              let o : 1 < k = f.0 in
              let y : NextStep base h p addr words lr (k - 1) (next_of base m d) so_far = ih (k - 1) (omega arith) f.1 in
              let l : steps h (d ∷ so_far) ≡ suc (steps h so_far) = rw q in
              let b : steps h so_far < k - 1 = y.bounded in
              record { fine = y.fine; bounded = omega arith; finishes = λ r. y.finishes (omega arith) }

  -- Demand 3 without recursion.
  pub next_step : (m : Machine) → Start base h p addr words lr m → (so_far : List Event)
      → Calm base h p addr words lr (Harmless base h p addr words lr) m so_far → Unfinished base h p addr words lr m so_far
      → NextStep base h p addr words lr (length words) m so_far
  next_step m st so_far c u =
      flat so_far (length words) m (omega (arith, st.first.0.in_block)) c u (retry base h p addr words lr m st (so_far ++ Step h ∷ []))
