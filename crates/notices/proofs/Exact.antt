-- From which events alone each notice comes. Assumes nothing.
use mathlib.Core.Path.{◌≡◌, refl, sym, ◌∙◌, ap, subst}
use mathlib.Core.Logic.{◌↔◌, ◌⊎◌, inl, inr}
use mathlib.Core.Bool.{Bool, true, false, cond}
use mathlib.Core.List.{List}
use Prim.Native.Nat.{ℕ, ◌<◌}
use lib.Dec.{eqb, ltb}
use lib.ListN.{length, get_or}
use borrow.Author.Tests.{eqb-true, eqb-false, eq-eqb, ne_eqb, ltb-true}
use Rattle.word.specs.Word.{low}
use Rattle.word.proofs.BytesLaws.{length-to_le}
use Rattle.word.proofs.ChooseLaws.{cond_all, cond_cases}
use Rattle.reserve.specs.Range.{Touch, Inside, inside_of}
use Rattle.reserve.specs.Reserve.{covers_of}
use Rattle.reserve.specs.declared.Notice.{Notice}
use Rattle.reserve.specs.declared.Notice.TheVariants as N
use Rattle.reserve.proofs.RangeLaws.{inside_of_lem}
use Rattle.isa.specs.Width.{bits_of, bytes_of}
use Rattle.isa.specs.Narrow.{decode_at}
use Rattle.isa.specs.declared.AtomicOp.{AtomicOp}
use Rattle.isa.specs.declared.AtomicOp.TheVariants.{Lr, Sc, Cas, CasPair, Rmw}
use Rattle.isa.specs.declared.Atomic.{Atomic}
use Rattle.isa.specs.declared.Instr.{Instr}
use Rattle.isa.specs.declared.Instr.TheVariants.{Illegal, Lui, Auipc, Jal, Jalr, Branch, Load, Store, OpImm, OpImm32, Op, Op32, Fence, Ecall, Ebreak, Amo}
use Rattle.effect.specs.Effect.{Exec, trap}
use Rattle.effect.specs.Memory.{fault_of, checked, value_at}
use Rattle.effect.specs.Atomic.{exec_sc}
use Rattle.effect.specs.Execute.{reg_at, pair_at, atomic_by, exec_atomic, execute, execute_word}
use Rattle.events.specs.declared.Event.{Event}
use Rattle.events.specs.declared.Event.TheVariants.{Step, Yield}
use Rattle.model.specs.Act.{Act, refuse, release, act_notice, outcome_of}
use Rattle.settings.specs.Settings.{amo_cause}
use Rattle.model.specs.Perform.{Machine, xlen, misaligned, reservation_of, fetch_of, of_exec, act_on, act_of, answer_of, outcome_at}
use Rattle.model.specs.Valid.{Valid}
use Rattle.model.specs.Trace.{notice_at, WritesInto}
use Rattle.model.specs.Retired.{IsRetired, Traps, Refuses}
use Rattle.model.specs.declared.Outcome.{Outcome}
use Rattle.model.specs.declared.Outcome.TheVariants as O
use Rattle.model.proofs.Valid.{act_valid}
use Rattle.model.proofs.Frame.{acts, step_act}
use Rattle.notices.specs.Happened.{atomic_address, atomic_size, pair_size, Retires, RetiredSc, StoredSc, FailedSc}
use Rattle.notices.specs.Happened.{PlainWrite, store, amo, amocas, amocas_pair}
use Rattle.notices.specs.Happened.{DeviceWrites, WritesBytes, by_hart, by_device, Yields, Plain, Silent, refused, trapped, plain, unequal, unequal_pair}
use Rattle.notices.specs.Notices.{sc_notice, atomic_notice, notice_by, ComesFrom}
use Rattle.notices.proofs.Notices.{access_retired, notice_none, notice_step, notice_device, notice_yield}

-- a retired answer is no trap and no refusal
untrapped : (o : Outcome) → IsRetired o → Traps o → ⊥
untrapped o r t = subst IsRetired t.2 r

pub unrefused : (o : Outcome) → IsRetired o → Refuses o → ⊥
unrefused o r t = subst IsRetired t.1 r

-- an SC has another answer than other instructions
NotPlain : Outcome → Type 0
NotPlain O.Retired = ⊥
NotPlain O.ScStored = Unit {0}
NotPlain O.ScFailed = Unit {0}
NotPlain (O.Trap cause value) = Unit {0}
NotPlain (O.Refused number) = Unit {0}

Ends : ℕ → Exec → Type 0
Ends h e = NotPlain (outcome_of (of_exec h e))

sc_ends : (xlen misaligned h : ℕ) (i : Atomic) (a v pc base : ℕ) (mem : List ℕ) (covered : ℕ → ℕ → Bool)
    → Ends h (exec_sc xlen misaligned i.width i.rd a v pc base mem covered)
unfolding exec_sc checked Ends NotPlain
sc_ends xlen misaligned h i a v pc base mem covered =
    cond_all (Ends h) (eqb (fault_of (amo_cause misaligned) 7 a (bytes_of i.width) base (length mem)) 0) _ _ (cond_all (Ends h) (covered a (bytes_of i.width)) _ _ tt tt) tt

-- an instruction that neither reserves nor writes tells nothing
module _ (base : ℕ) (m : Machine) (h : ℕ) (x : ℕ → ℕ) (o : Outcome) where
  plain_quiet : (i : Instr) → Plain i → notice_by (xlen m) h x base m.mem i o ≡ N.Quiet
  plain_quiet Illegal p = absurd p
  plain_quiet Ecall p = absurd p
  plain_quiet Ebreak p = absurd p
  plain_quiet (Fence rd rs1 imm) p = refl
  plain_quiet (Lui rd imm) p = refl
  plain_quiet (Auipc rd imm) p = refl
  plain_quiet (Jal rd imm) p = refl
  plain_quiet (Jalr rd rs1 imm) p = refl
  plain_quiet (Branch op rs1 rs2 imm) p = refl
  plain_quiet (Load op rd rs1 imm) p = refl
  plain_quiet (Store op rs1 rs2 imm) p = absurd p
  plain_quiet (OpImm op rd rs1 imm) p = refl
  plain_quiet (OpImm32 op rd rs1 imm) p = refl
  plain_quiet (Op op rd rs1 rs2) p = refl
  plain_quiet (Op32 op rd rs1 rs2) p = refl
  plain_quiet (Amo i) p = absurd p

module _ (base : ℕ) (m : Machine) (v : Valid base m) where
  -- a step that retires is of a used hart, and its word lies in memory
  pub fetched : (h : ℕ) → IsRetired (outcome_at base m (Step h))
      → (h < m.state.count) × Inside base (length m.mem) (get_or m.state.pc h 0) 4
  unfolding answer_of act_on fetch_of
  fetched h l =
      let q : IsRetired (outcome_of (act_on base m.mem m.state (Step h))) = rw (act_valid base m v (Step h)) at l in
      go (ltb h m.state.count) refl (inside_of base (length m.mem) (get_or m.state.pc h 0) 4) refl
      (execute_word (xlen m) (misaligned m) (value_at base m.mem (get_or m.state.pc h 0) 4) (reg_at m.state.x h) (get_or m.state.pc h 0) base m.mem
      (covers_of m.state.settings (reservation_of m.state h))) q
    where
      go : (s : Bool) → ltb h m.state.count ≡ s → (t : Bool) → inside_of base (length m.mem) (get_or m.state.pc h 0) 4 ≡ t
          → (x : Exec) → IsRetired (outcome_of (cond s (of_exec h (cond t x (trap 1 (get_or m.state.pc h 0)))) (refuse 3)))
          → (h < m.state.count) × Inside base (length m.mem) (get_or m.state.pc h 0) 4
      go true p true q x l = (ltb-true h m.state.count p, inside_of_lem base (length m.mem) (get_or m.state.pc h 0) 4 q)
      go true p false q x l = absurd l
      go false p t q x l = absurd l

  -- a yield that isn't refused is of a used hart
  pub yield_used : (g : ℕ) → (Refuses (outcome_at base m (Yield g)) → ⊥) → g < m.state.count
  unfolding answer_of act_on
  yield_used g taken = go (ltb g m.state.count) refl (rw (act_valid base m v (Yield g)) at taken)
    where
      go : (t : Bool) → ltb g m.state.count ≡ t → (Refuses (outcome_of (cond t (release g) (refuse 3))) → ⊥) → g < m.state.count
      go true p d = ltb-true g m.state.count p
      go false p d = absurd (d (3, refl))

  module _ (e : Event) where
    -- ---- what is known of a retired step

    module _ (h : ℕ) (i : Instr) (r : Retires base m e h i) where
      answers : IsRetired (outcome_at base m (Step h))
      answers = subst (λ (d : Event). IsRetired (outcome_at base m d)) r.the_step r.retired

      performs : act_of base m.mem m.state e
          ≡ of_exec h
          (execute (xlen m) (misaligned m) i (value_at base m.mem (get_or m.state.pc h 0) 4) (reg_at m.state.x h) (get_or m.state.pc h 0) base m.mem
          (covers_of m.state.settings (reservation_of m.state h)))
      performs = ap (act_of base m.mem m.state) r.the_step ∙ step_act base m v h (fetched h answers).0 i r.fetches

      pub tells_step : notice_at base m e ≡ notice_by (xlen m) h (reg_at m.state.x h) base m.mem i (outcome_at base m e)
      tells_step =
          subst (λ (d : Event). notice_at base m d ≡ notice_by (xlen m) h (reg_at m.state.x h) base m.mem i (outcome_at base m d)) (sym r.the_step)
          (notice_step base m v h (fetched h answers).0 i r.fetches (untrapped (outcome_at base m (Step h)) answers))

    -- ---- from the words to the notice

    tells_atomic : (g : ℕ) (i : Atomic) (op : AtomicOp) → Retires base m e g (Amo i) → i.op ≡ op
        → notice_at base m e ≡ atomic_notice g (reg_at m.state.x g) base m.mem op i (outcome_at base m e)
    tells_atomic g i op r q =
        tells_step g (Amo i) r ∙ ap (λ (o : AtomicOp). atomic_notice g (reg_at m.state.x g) base m.mem o i (outcome_at base m e)) q

    tells_write : (g b n : ℕ) → PlainWrite base m e g b n → notice_at base m e ≡ N.Write g b n
    tells_write g b n (store op rs1 rs2 imm r p q) = tells_step g (Store op rs1 rs2 imm) r ∙ rw (p, q) refl
    tells_write g b n (amo i op r o p q) = tells_atomic g i (Rmw op) r o ∙ rw (p, q) refl
    tells_write g b n (amocas i r o p q same) =
        tells_atomic g i Cas r o
        ∙ ap (λ (t : Bool). cond t (N.Write g (reg_at m.state.x g i.rs1) (bytes_of i.width)) N.Quiet) (eq-eqb _ _ (rw (p, q) at same))
        ∙ rw (p, q) refl
    tells_write g b n (amocas_pair i r o p q same) =
        tells_atomic g i CasPair r o
        ∙ ap (λ (t : Bool). cond t (N.Write g (reg_at m.state.x g i.rs1) (pair_size i)) N.Quiet) (eq-eqb _ _ (rw (p, q) at same))
        ∙ rw (p, q) refl

    tells_silent : Silent base m e → notice_at base m e ≡ N.Quiet
    tells_silent (refused r) = notice_none base m e (inr r)
    tells_silent (trapped t) = notice_none base m e (inl t)
    tells_silent (plain g i r p) = tells_step g i r ∙ plain_quiet base m g (reg_at m.state.x g) (outcome_at base m e) i p
    tells_silent (unequal g i r q d) = tells_atomic g i Cas r q ∙ rw (ne_eqb _ _ d) refl
    tells_silent (unequal_pair g i r q d) = tells_atomic g i CasPair r q ∙ rw (ne_eqb _ _ d) refl

    tells_device : (b n : ℕ) → DeviceWrites base m e b n → notice_at base m e ≡ N.DeviceWrite b n
    tells_device b n d =
        ap (notice_at base m) d.the_device
        ∙ notice_device base m v b n d.value (subst (λ (c : Event). Refuses (outcome_at base m c) → ⊥) d.the_device d.taken)

    tells_yield : (g : ℕ) → Yields base m e g → notice_at base m e ≡ N.Yield g
    tells_yield g y =
        ap (notice_at base m) y.the_yield
        ∙ notice_yield base m v g (yield_used g (subst (λ (c : Event). Refuses (outcome_at base m c) → ⊥) y.the_yield y.taken))

    tells : (n : Notice) → ComesFrom base m e n → notice_at base m e ≡ n
    tells N.Quiet c = tells_silent c
    tells (N.LoadReserved g a w) c = tells_atomic g c.lr Lr c.retires c.operation ∙ rw (c.address, c.width) refl
    tells (N.ScStored g b n) c = tells_atomic g c.sc Sc c.retires c.operation ∙ rw (c.stored, c.address, c.width) refl
    tells (N.ScFailed g) c = tells_atomic g c.sc Sc c.retires c.operation ∙ rw c.failed refl
    tells (N.Write g b n) c = tells_write g b n c
    tells (N.DeviceWrite b n) c = tells_device b n c
    tells (N.Yield g) c = tells_yield g c

    -- ---- from the notice to the words

    module _ (h : ℕ) where
      performs_sc : (i : Atomic) → Retires base m e h (Amo i) → i.op ≡ Sc → Ends h
          (exec_sc (xlen m) (misaligned m) i.width i.rd (atomic_address m h i) (reg_at m.state.x h i.rs2) (get_or m.state.pc h 0) base m.mem
          (covers_of m.state.settings (reservation_of m.state h)))
          → NotPlain (outcome_at base m e)
      unfolding answer_of execute exec_atomic Ends
      performs_sc i r q n =
          subst NotPlain
          (sym (ap outcome_of
          (performs h (Amo i) r
          ∙ ap
          (λ (op : AtomicOp).
          of_exec h (atomic_by (xlen m) (misaligned m) op i (reg_at m.state.x h) (get_or m.state.pc h 0) base m.mem
          (covers_of m.state.settings (reservation_of m.state h)))) q)))
          n

      plain_sc : (i : Atomic) → Retires base m e h (Amo i) → i.op ≡ Sc → outcome_at base m e ≡ O.Retired → ⊥
      unfolding NotPlain
      plain_sc i r q p = subst NotPlain p (performs_sc i r q (sc_ends (xlen m) (misaligned m) h i _ _ _ _ _ _))

      from_sc : (i : Atomic) → Retires base m e h (Amo i) → i.op ≡ Sc → (o : Outcome) → outcome_at base m e ≡ o
          → ComesFrom base m e (sc_notice h (reg_at m.state.x h) base m.mem (atomic_address m h i) (atomic_size i) o)
      from_sc i r q O.Retired p = absurd (plain_sc i r q p)
      from_sc i r q O.ScStored p = record { sc = i; retires = r; operation = q; stored = p; address = refl; width = refl }
      from_sc i r q O.ScFailed p = record { sc = i; retires = r; operation = q; failed = p }
      from_sc i r q (O.Trap cause value) p = absurd (subst IsRetired p r.retired)
      from_sc i r q (O.Refused number) p = absurd (subst IsRetired p r.retired)

      from_atomic : (i : Atomic) → Retires base m e h (Amo i) → (op : AtomicOp) → i.op ≡ op
          → ComesFrom base m e (atomic_notice h (reg_at m.state.x h) base m.mem op i (outcome_at base m e))
      from_atomic i r Lr q = record { lr = i; retires = r; operation = q; address = refl; width = refl }
      from_atomic i r Sc q = from_sc i r q (outcome_at base m e) refl
      from_atomic i r Cas q =
          let want = low (bits_of i.width) (reg_at m.state.x h i.rd) in
          cond_cases (ComesFrom base m e) (eqb (value_at base m.mem (atomic_address m h i) (atomic_size i)) want) _ _
          (λ t. amocas i r q refl refl (eqb-true _ _ t)) (λ f. unequal h i r q (eqb-false _ _ f))
      from_atomic i r CasPair q =
          let want = pair_at i.width (reg_at m.state.x h) i.rd in
          cond_cases (ComesFrom base m e) (eqb (value_at base m.mem (atomic_address m h i) (pair_size i)) want) _ _
          (λ t. amocas_pair i r q refl refl (eqb-true _ _ t)) (λ f. unequal_pair h i r q (eqb-false _ _ f))
      from_atomic i r (Rmw op) q = amo i op r q refl refl

      from_instr : (i : Instr) → Retires base m e h i → ComesFrom base m e (notice_by (xlen m) h (reg_at m.state.x h) base m.mem i (outcome_at base m e))
      unfolding answer_of execute
      from_instr Illegal r = trapped (2, _, ap outcome_of (performs h Illegal r))
      from_instr Ecall r = trapped (8, 0, ap outcome_of (performs h Ecall r))
      from_instr Ebreak r = trapped (3, 0, ap outcome_of (performs h Ebreak r))
      from_instr (Fence rd rs1 imm) r = plain h (Fence rd rs1 imm) r tt
      from_instr (Lui rd imm) r = plain h (Lui rd imm) r tt
      from_instr (Auipc rd imm) r = plain h (Auipc rd imm) r tt
      from_instr (Jal rd imm) r = plain h (Jal rd imm) r tt
      from_instr (Jalr rd rs1 imm) r = plain h (Jalr rd rs1 imm) r tt
      from_instr (Branch op rs1 rs2 imm) r = plain h (Branch op rs1 rs2 imm) r tt
      from_instr (Load op rd rs1 imm) r = plain h (Load op rd rs1 imm) r tt
      from_instr (Store op rs1 rs2 imm) r = store op rs1 rs2 imm r refl refl
      from_instr (OpImm op rd rs1 imm) r = plain h (OpImm op rd rs1 imm) r tt
      from_instr (OpImm32 op rd rs1 imm) r = plain h (OpImm32 op rd rs1 imm) r tt
      from_instr (Op op rd rs1 rs2) r = plain h (Op op rd rs1 rs2) r tt
      from_instr (Op32 op rd rs1 rs2) r = plain h (Op32 op rd rs1 rs2) r tt
      from_instr (Amo i) r = from_atomic i r i.op refl

      from_step : e ≡ Step h → IsRetired (outcome_at base m e) → ComesFrom base m e (notice_at base m e)
      from_step s o =
          let f = fetched h (subst (λ (d : Event). IsRetired (outcome_at base m d)) s o) in
          let i = decode_at (xlen m) (value_at base m.mem (get_or m.state.pc h 0) 4) in
          let r : Retires base m e h i = record { the_step = s; fetches = record { inside = f.1; decodes = refl }; retired = o } in
          subst (ComesFrom base m e) (sym (tells_step h i r)) (from_instr i r)

    comes : ComesFrom base m e (notice_at base m e)
    unfolding answer_of
    comes =
        acts base m.mem m.state (λ (act : Act). act_of base m.mem m.state e ≡ act → ComesFrom base m e (act_notice act))
        (λ number q. refused (number, ap outcome_of q)) e
        (λ c w q. trapped (c, w, ap outcome_of q))
        (λ h s l ws to t q. subst (ComesFrom base m e) (ap act_notice q) (from_step h s (subst IsRetired (sym (ap outcome_of q)) (access_retired h ws to t))))
        (λ a n w s q.
        subst (λ (k : ℕ). DeviceWrites base m e a k) (sym (length-to_le n w))
        (record { value = w; the_device = s; taken = unrefused _ (subst IsRetired (sym (ap outcome_of q)) tt) }))
        (λ h s l q. record { the_yield = s; taken = unrefused _ (subst IsRetired (sym (ap outcome_of q)) tt) })
        refl

    -- Each notice comes from its events alone, in a machine that 1 and 2 don't refuse; in any other every event is refused.
    pub notice_exact : (n : Notice) → (notice_at base m e ≡ n) ↔ ComesFrom base m e n
    notice_exact n = (λ q. subst (ComesFrom base m e) q comes, tells n)

    -- ---- the words together

    -- a retired SC succeeds or fails
    pub sc_either : (g : ℕ) → RetiredSc base m e g → ((b : ℕ) × (n : ℕ) × StoredSc base m e g b n) ⊎ FailedSc base m e g
    sc_either g r = go (outcome_at base m e) refl
      where
        go : (o : Outcome) → outcome_at base m e ≡ o → ((b : ℕ) × (n : ℕ) × StoredSc base m e g b n) ⊎ FailedSc base m e g
        go O.Retired p = absurd (plain_sc g r.sc r.retires r.operation p)
        go O.ScStored p = inl (_, _, record { sc = r.sc; retires = r.retires; operation = r.operation; stored = p; address = refl; width = refl })
        go O.ScFailed p = inr (record { sc = r.sc; retires = r.retires; operation = r.operation; failed = p })
        go (O.Trap cause value) p = absurd (subst IsRetired p r.retires.retired)
        go (O.Refused number) p = absurd (subst IsRetired p r.retires.retired)

    -- what writes into the n bytes at a, in the notices' words and in those of events
    pub writes_exact : (a n : ℕ) → WritesInto (notice_at base m e) a n ↔ ((b : ℕ) × (k : ℕ) × WritesBytes base m e b k × Touch b k a n)
    writes_exact a n = (given (notice_at base m e) comes, λ w. taken w.0 w.1 w.2 w.3)
      where
        given : (t : Notice) → ComesFrom base m e t → WritesInto t a n → (b : ℕ) × (k : ℕ) × WritesBytes base m e b k × Touch b k a n
        given N.Quiet c w = absurd w
        given (N.LoadReserved g b k) c w = absurd w
        given (N.ScStored g b k) c w = (b, k, by_hart g (inr c), w)
        given (N.ScFailed g) c w = absurd w
        given (N.Write g b k) c w = (b, k, by_hart g (inl c), w)
        given (N.DeviceWrite b k) c w = (b, k, by_device c, w)
        given (N.Yield g) c w = absurd w

        taken : (b k : ℕ) → WritesBytes base m e b k → Touch b k a n → WritesInto (notice_at base m e) a n
        taken b k (by_hart g (inl c)) t = rw (tells (N.Write g b k) c) t
        taken b k (by_hart g (inr c)) t = rw (tells (N.ScStored g b k) c) t
        taken b k (by_device c) t = rw (tells (N.DeviceWrite b k) c) t
