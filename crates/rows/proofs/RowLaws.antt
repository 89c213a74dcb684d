-- A row's step, judged, and undone where it stops. Assumes nothing.
use mathlib.Core.Path.{◌≡◌, refl, sym, ap, subst, ◌∙◌}
use mathlib.Core.Bool.{Bool, false}
use mathlib.Core.List.{List}
use Prim.Native.Nat.{ℕ, ◌<◌, ◌≤◌}
use native.Mathlib.Omega.{arith}
use lib.ListN.{length}
use borrow.Author.Tests.{lt-ltb}
use Rattle.std.specs.Prelude.{Err}
use Rattle.word.specs.Bytes.{IsBytes}
use Rattle.reserve.specs.Range.{Inside}
use Rattle.reserve.specs.Reserve.{covers_of}
use Rattle.reserve.proofs.RangeLaws.{of_inside}
use Rattle.isa.specs.Narrow.{decode_at}
use Rattle.isa.specs.declared.Instr.{Instr}
use Rattle.isa.specs.declared.Instr.TheVariants.{Illegal, Lui, Auipc, Jal, Jalr, Branch, Load, Store, OpImm, OpImm32, Op, Op32, Fence, Ecall, Ebreak, Amo}
use Rattle.isa.proofs.NarrowLaws.{regs_at}
use Rattle.effect.specs.Effect.{Exec, trap}
use Rattle.effect.specs.Execute.{reg_at, execute, execute_word}
use Rattle.events.specs.declared.Event.TheVariants.{Step}
use Rattle.model.specs.Act.{Act, outcome_of, leaves, apply}
use Rattle.model.specs.Perform.{Machine, xlen, misaligned, reservation_of, fetch_of, step_of, of_exec, act_on, act_of, answer_of, memory_of, next_of, outcome_at}
use Rattle.model.specs.Valid.{Valid}
use Rattle.model.specs.declared.Outcome.{Outcome}
use Rattle.model.proofs.Valid.{act_valid, fetch_sound}
use Rattle.steplog.specs.declared.Row.{Row}
use Rattle.reach.specs.Rd.{shown_rd}
use Rattle.reach.specs.Reach.{writes_at, reach_in}
use Rattle.reach.specs.Back.{saved_of, put_back}
use Rattle.reach.specs.declared.Saved.{Saved}
use Rattle.reach.specs.declared.Reach.{Reach}
use Rattle.reach.proofs.ClassLaws.{Shows, shows}
use Rattle.reach.proofs.ReachLaws.{Reaches, reaches, reaches_in}
use Rattle.reach.proofs.BackLaws.{all_back}
use Rattle.rows.specs.Row.{Told, pc_at, word_at, fetchable, rd_at, value_after, told_by, told_by_step, told_by_pc}
use Rattle.rows.specs.Ready.{Ready}
use Rattle.rows.specs.declared.Stop.TheVariants as S
use Rattle.rows.proofs.ToldLaws.{past_pc, past_fetch}

module _ (base : ℕ) (m : Machine) (v : Valid base m) (h : ℕ) (l : h < m.state.count) where
  -- what hart h's step comes to
  abbrev exec : Exec
  exec = step_of base m.mem m.state h

  pub step_act : act_on base m.mem m.state (Step h) ≡ of_exec h exec
  unfolding act_on
  step_act = rw (lt-ltb h m.state.count l)

  acts : act_of base m.mem m.state (Step h) ≡ of_exec h exec
  acts = act_valid base m v (Step h) ∙ step_act

  pub step_outcome : outcome_at base m (Step h) ≡ outcome_of (of_exec h exec)
  unfolding answer_of
  step_outcome = ap outcome_of acts

  step_machine : next_of base m (Step h) ≡ record { state = apply m.state (of_exec h exec); mem = leaves base m.mem (of_exec h exec) }
  unfolding next_of answer_of memory_of
  step_machine = ap (λ (a : Act). record { state = apply m.state a; mem = leaves base m.mem a }) acts

  -- where the word can be fetched, the step is its instruction's
  module _ (inside : Inside base (length m.mem) (pc_at base m h) 4) where
    abbrev word : ℕ
    word = word_at base m h

    fetched : exec
        ≡ execute (xlen m) (misaligned m) (decode_at (xlen m) word) word (reg_at m.state.x h) (pc_at base m h) base m.mem
        (covers_of m.state.settings (reservation_of m.state h))
    unfolding fetch_of execute_word
    fetched = rw (of_inside base (length m.mem) (pc_at base m h) 4 inside)

    -- of every word, what the code takes from its class
    exec_reaches_in : (let c = reach_in (xlen m) word (reg_at m.state.x h) in Reaches c.rd c.at exec)
    exec_reaches_in =
        rw fetched
        (reaches_in (xlen m) (misaligned m) (pc_at base m h) base m.mem (covers_of m.state.settings (reservation_of m.state h)) word (reg_at m.state.x h))

    pub exec_reaches : Reaches (rd_at base m h) (writes_at (xlen m) (decode_at (xlen m) word) (reg_at m.state.x h)) exec
    exec_reaches =
        rw fetched
        (reaches (xlen m) (misaligned m) (pc_at base m h) base m.mem (covers_of m.state.settings (reservation_of m.state h)) (decode_at (xlen m) word)
        (regs_at (xlen m) word) word (reg_at m.state.x h))

-- a row whose word can't be fetched
pub told_unfetched : (base : ℕ) (m : Machine) (r : Row) → r.pc ≡ pc_at base m r.hart → Valid base m → r.hart < m.state.count
    → fetchable base m r.hart ≡ false → Err (S.Trap 1 (pc_at base m r.hart)) ≡ told_by_pc base m r
unfolding told_by fetch_of
told_unfetched base m r same v l out =
    let h = r.hart in
    let traps : exec base m v h l ≡ trap 1 (pc_at base m h) = rw out in
    let o = step_outcome base m v h l ∙ ap (λ (e : Exec). outcome_of (of_exec h e)) traps in
    sym (past_pc base m r same ∙ past_fetch base m r out ∙ ap (λ (q : Outcome). told_by q r (rd_at base m h) (value_after base m h)) o)

-- what is told by the code's rd is what is told by the instruction's, where registers have k bits: a word whose rd the code doesn't know traps
module _ (k misaligned : ℕ) (r : Row) (h word pc base : ℕ) (mem : List ℕ) (covered : ℕ → ℕ → Bool) (x : ℕ → ℕ) (c : Reach) (o : Outcome) (after : List ℕ) where
  abbrev told : ℕ → Told
  told d = told_by o r d (reg_at after h d)

  told_same : (i : Instr) → Shows k c x i → o ≡ outcome_of (of_exec h (execute k misaligned i word x pc base mem covered)) → told c.rd ≡ told (shown_rd i)
  unfolding execute told_by
  told_same Illegal s e = rw e refl
  told_same Ecall s e = rw e refl
  told_same Ebreak s e = rw e refl
  told_same (Fence rd rs1 imm) s e = ap (λ (q : Reach). told q.rd) s
  told_same (Lui rd imm) s e = ap (λ (q : Reach). told q.rd) s
  told_same (Auipc rd imm) s e = ap (λ (q : Reach). told q.rd) s
  told_same (Jal rd imm) s e = ap (λ (q : Reach). told q.rd) s
  told_same (Jalr rd rs1 imm) s e = ap (λ (q : Reach). told q.rd) s
  told_same (Branch op rs1 rs2 imm) s e = ap (λ (q : Reach). told q.rd) s
  told_same (Load op rd rs1 imm) s e = ap (λ (q : Reach). told q.rd) s
  told_same (Store op rs1 rs2 imm) s e = ap (λ (q : Reach). told q.rd) s
  told_same (OpImm op rd rs1 imm) s e = ap (λ (q : Reach). told q.rd) s
  told_same (OpImm32 op rd rs1 imm) s e = ap (λ (q : Reach). told q.rd) s
  told_same (Op op rd rs1 rs2) s e = ap (λ (q : Reach). told q.rd) s
  told_same (Op32 op rd rs1 rs2) s e = ap (λ (q : Reach). told q.rd) s
  told_same (Amo m) s e = ap (λ (q : Reach). told q.rd) s

-- a row whose pc and word are the model's: the code has k for what its step may change, and m' is the machine after it
module _ (base : ℕ) (m : Machine) (r : Row) (ready : Ready base m r) {k : Saved} (saved : k ≡ saved_of base m r.hart r.word)
    {m' : Machine} (stepped' : m' ≡ next_of base m (Step r.hart)) where
  abbrev h : ℕ
  h = r.hart

  abbrev v : Valid base m
  v = ready.valid

  abbrev l : h < m.state.count
  l = ready.counted

  abbrev x : ℕ → ℕ
  x = reg_at m.state.x h

  abbrev reach_of : ℕ → Reach
  reach_of word = reach_in (xlen m) word x

  abbrev c : Reach
  c = reach_of r.word

  within : Inside base (length m.mem) (pc_at base m h) 4
  within = subst (λ (p : ℕ). Inside base (length m.mem) p 4) ready.pc ready.inside

  step-reaches : Reaches c.rd c.at (exec base m v h l)
  step-reaches = subst (λ (w : ℕ). Reaches (reach_of w).rd (reach_of w).at (exec base m v h l)) (sym ready.word) (exec_reaches_in base m v h l within)

  saved_rd : k.rd ≡ c.rd
  unfolding saved_of
  saved_rd = ap (λ (q : Saved). q.rd) saved

  pub row_told_lem : {o : Outcome} {t : Told} {value : ℕ} → o ≡ outcome_at base m (Step h) → value ≡ reg_at m'.state.x h k.rd
      → t ≡ told_by o r k.rd value → t ≡ told_by_step base m r
  row_told_lem {o} eo ev et =
      let word = word_at base m h in
      let after = (next_of base m (Step h)).state.x in
      let covered = covers_of m.state.settings (reservation_of m.state h) in
      let value = ev ∙ ap (λ (n : Machine). reg_at n.state.x h k.rd) stepped' in
      let shown = subst (λ (w : ℕ). Shows (xlen m) (reach_of w) x (decode_at (xlen m) word)) (sym ready.word) (shows (xlen m) word x) in
      let answer = eo ∙ step_outcome base m v h l ∙ ap (λ (e : Exec). outcome_of (of_exec h e)) (fetched base m v h l within) in
      et ∙ ap (told_by o r k.rd) value
      ∙ ap (λ (d : ℕ). told_by o r d (reg_at after h d)) saved_rd
      ∙ told_same (xlen m) (misaligned m) r h word (pc_at base m h) base m.mem covered x c o after (decode_at (xlen m) word) shown answer
      ∙ ap (λ (q : Outcome). told_by q r (rd_at base m h) (value_after base m h)) eo

  -- what a step may change, put back
  pub undone : IsBytes m.mem → put_back k m' ≡ m
  undone bytes =
      let enough : 16 ≤ length m.mem = omega (arith, v.0.1.0) in
      rw (saved, stepped', step_machine base m v h l)
      (all_back base m h r.word bytes enough (exec base m v h l) (fetch_sound base m.mem m.state v.1 h l) step-reaches)
