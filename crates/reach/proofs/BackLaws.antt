-- Registers, pc, reservations and bytes that were saved before a step and are put back leave all as it was. Assumes nothing.
use mathlib.Core.Path.{◌≡◌, refl, sym, ap, ap₂, subst, ◌∙◌}
use mathlib.Core.List.{List, ◌++◌, append_assoc}
use Prim.Native.Nat.{ℕ, ◌+◌, ◌-◌, ◌*◌, ◌%◌, ◌<◌, ◌≤◌, min}
use native.Mathlib.Omega.{arith}
use lib.Dec.{eqb}
use lib.ListN.{length, take, drop, get_or, set, length-append, take-append-drop}
use lib.Seq.{length-take-le, take-take, take-append-le, take_at, take-add, set-get_or, set-set, set_comm}
use Rattle.word.specs.Bytes.{le, to_le, IsBytes}
use Rattle.word.specs.Memory.{part, splice}
use Rattle.word.proofs.BytesLaws.{to_le-le}
use Rattle.word.proofs.MemoryLaws.{length_part, length-splice, drop-splice, bytes_part}
use Rattle.word.proofs.ChooseLaws.{cond_all}
use Rattle.word.proofs.TestLaws.{bool_cases}
use Rattle.reserve.specs.Range.{inside_of}
use Rattle.reserve.proofs.RangeLaws.{of_inside}
use Rattle.effect.specs.Effect.{none, one, pair, Access, nothing, reserve, store, sc_stored, sc_failed, Exec, trap, effect, stored, memory_by}
use Rattle.effect.specs.Execute.{reg_at}
use Rattle.effect.specs.Sound.{AccessOk, Sound}
use Rattle.model.specs.Act.{set_reg, registers_after, pcs_after, apply, leaves}
use Rattle.model.specs.Perform.{Machine, xlen, of_exec}
use Rattle.model.proofs.AdvanceLaws.{leaves_done}
use Rattle.reach.specs.Reach.{window_of, reach_in}
use Rattle.reach.specs.Back.{saved_of, put_back}
use Rattle.reach.specs.declared.Reach.{Reach}
use Rattle.reach.proofs.ReachLaws.{WritesFrom, Reaches}

-- ---- registers and pc

-- what a register holds, put there; a register set twice; two registers set
same_set : (h r : ℕ) (x : List ℕ) → set_reg h r (reg_at x h r) x ≡ x
unfolding set_reg reg_at
same_set h r x =
    let i = h * 32 + r % 32 in
    cond_all (λ (l : List ℕ). l ≡ x) (eqb (r % 32) 0) x (set x i (get_or x i 0)) refl (set-get_or x i 0)

set_again : (h r a b : ℕ) (x : List ℕ) → set_reg h r a (set_reg h r b x) ≡ set_reg h r a x
unfolding set_reg
set_again h r a b x = bool_cases (eqb (r % 32) 0) (λ t. rw t) (λ f. rw f (set-set x (h * 32 + r % 32) b a))

set_apart : (h r q a b : ℕ) (x : List ℕ) → (r % 32 ≡ q % 32 → ⊥) → set_reg h r a (set_reg h q b x) ≡ set_reg h q b (set_reg h r a x)
unfolding set_reg
set_apart h r q a b x d =
    bool_cases (eqb (r % 32) 0) (λ t. rw t)
    (λ f. bool_cases (eqb (q % 32) 0) (λ u. rw (f, u))
    (λ g. rw (f, g) (set_comm x (h * 32 + q % 32) (h * 32 + r % 32) b a (λ e. d (omega arith)))))

module _ (h d : ℕ) (x : List ℕ) where
  -- d and the register behind it put back
  abbrev back : List ℕ → List ℕ
  back y = set_reg h (d % 32 + 1) (reg_at x h (d % 32 + 1)) (set_reg h d (reg_at x h d) y)

  back_none : back x ≡ x
  back_none = ap (set_reg h (d % 32 + 1) (reg_at x h (d % 32 + 1))) (same_set h d x) ∙ same_set h (d % 32 + 1) x

  back_one : (v : ℕ) → back (set_reg h d v x) ≡ x
  back_one v = ap (set_reg h (d % 32 + 1) (reg_at x h (d % 32 + 1))) (set_again h d (reg_at x h d) v x) ∙ back_none

  back_pair : (v w : ℕ) → d < 32 → back (set_reg h (d + 1) w (set_reg h d v x)) ≡ x
  back_pair v w l =
      let q = d % 32 + 1 in
      let is : d + 1 ≡ q = omega arith in
      let y = set_reg h d v x in
      ap (λ (k : ℕ). back (set_reg h k w y)) is
      ∙ ap (set_reg h q (reg_at x h q)) (set_apart h d q (reg_at x h d) w y (λ e. omega arith))
      ∙ set_again h q (reg_at x h q) w (set_reg h d (reg_at x h d) y)
      ∙ back_one v

  -- whatever the step sets, that puts it back
  pub registers_back : (a : ℕ) (e : Exec) → Reaches d a e → back (registers_after (of_exec h e) x) ≡ x
  registers_back a (trap cause value) s = back_none
  registers_back a (effect none to t) s = back_none
  registers_back a (effect (one r v) to t) s = ap (λ (k : ℕ). back (set_reg h k v x)) s.0 ∙ back_one v
  registers_back a (effect (pair r v r2 v2) to t) s =
      ap (λ (k : ℕ). back (set_reg h r2 v2 (set_reg h k v x))) s.0.0
      ∙ ap (λ (k : ℕ). back (set_reg h k v2 (set_reg h d v x))) (s.0.2 ∙ ap (λ (k : ℕ). k + 1) s.0.0)
      ∙ back_pair v v2 (subst (λ (k : ℕ). k < 32) s.0.0 s.0.1)

-- and the pc
pub pcs_back : (h : ℕ) (pc : List ℕ) (e : Exec) → set (pcs_after (of_exec h e) pc) h (get_or pc h 0) ≡ pc
pcs_back h pc (trap cause value) = set-get_or pc h 0
pcs_back h pc (effect ws to t) = set-set pc h to (get_or pc h 0) ∙ set-get_or pc h 0

-- ---- bytes

-- m is as mem was, before place a and from place b on
pub record Outside (mem : List ℕ) (a b : ℕ) (m : List ℕ) : Type 0 where
  pub front : take a m ≡ take a mem
  pub back : drop b m ≡ drop b mem
  pub size : length m ≡ length mem

module _ (mem : List ℕ) where
  -- bytes written between a and b
  outside_written : (a b at : ℕ) (bs : List ℕ) → a ≤ at → at + length bs ≤ b → b ≤ length mem → Outside mem a b (splice mem at bs)
  unfolding splice
  outside_written a b at bs first last fit =
      let room : at + length bs ≤ length mem = omega arith in
      let e : b ≡ at + length bs + (b - (at + length bs)) = omega arith in
      let reach : a ≤ length (take at mem) = rw (length-take-le at mem (omega arith)) first in
      record {
        front = take-append-le a (take at mem) (bs ++ drop (at + length bs) mem) reach ∙ take-take a at mem first;
        back =
            ap (λ (k : ℕ). drop k (splice mem at bs)) e ∙ drop-splice mem at bs room (b - (at + length bs)) ∙ ap (λ (k : ℕ). drop k mem) (sym e);
        size = length-splice mem at bs room;
      }

  -- n bytes at a put back
  outside_back : (a b n : ℕ) (m : List ℕ) → a + n ≤ b → b ≤ length mem → Outside mem a b m → Outside mem (a + n) b (splice m a (part mem a n))
  unfolding splice part
  outside_back a b n m last fit o =
      let bs = part mem a n in
      let size = length_part mem a n (omega arith) in
      let room : a + length bs ≤ length m = omega (arith, size, o.size) in
      let e : b ≡ a + length bs + (b - (a + length bs)) = omega (arith, size) in
      let width : length (take a m ++ bs) ≡ a + n = length-append (take a m) bs ∙ ap₂ ◌+◌ (length-take-le a m (omega arith)) size in
      record {
        front =
            ap (take (a + n)) (sym (append_assoc (take a m) bs (drop (a + length bs) m)))
            ∙ take_at (take a m ++ bs) (drop (a + length bs) m) (a + n) width
            ∙ ap (λ (l : List ℕ). l ++ bs) o.front
            ∙ sym (take-add a n mem);
        back =
            ap (λ (k : ℕ). drop k (splice m a bs)) e ∙ drop-splice m a bs room (b - (a + length bs)) ∙ ap (λ (k : ℕ). drop k m) (sym e) ∙ o.back;
        size = length-splice m a bs room ∙ o.size;
      }

  -- nothing is left to put back
  outside_none : (a : ℕ) (m : List ℕ) → Outside mem a a m → m ≡ mem
  outside_none a m o = sym (take-append-drop a m) ∙ ap₂ ◌++◌ o.front o.back ∙ take-append-drop a mem

  -- eight bytes, read as a number
  eight : (at : ℕ) → IsBytes mem → at + 8 ≤ length mem → to_le 8 (le (part mem at 8)) ≡ part mem at 8
  eight at bytes fit =
      ap (λ (n : ℕ). to_le n (le (part mem at 8))) (sym (length_part mem at 8 fit)) ∙ to_le-le (part mem at 8) (bytes_part mem at 8 bytes)

  -- 16 bytes put back, as two numbers, where only they have changed
  pub sixteen_back : (at : ℕ) (m : List ℕ) → IsBytes mem → at + 16 ≤ length mem → Outside mem at (at + 16) m
      → splice (splice m at (to_le 8 (le (part mem at 8)))) (at + 8) (to_le 8 (le (part mem (at + 8) 8))) ≡ mem
  sixteen_back at m bytes fit o =
      let first = outside_back at (at + 16) 8 m (omega arith) fit o in
      let both = outside_back (at + 8) (at + 16) 8 (splice m at (part mem at 8)) (omega arith) fit first in
      let end : at + 8 + 8 ≡ at + 16 = omega arith in
      rw (eight at bytes (omega arith), eight (at + 8) bytes (omega arith))
      (outside_none (at + 16) (splice (splice m at (part mem at 8)) (at + 8) (part mem (at + 8) 8)) (rw end at both))

-- ---- a step's bytes

module _ (base : ℕ) (mem : List ℕ) (a : ℕ) (enough : 16 ≤ length mem) where
  window_room : window_of base (length mem) a + 16 ≤ length mem
  window_room = cond_all (λ (w : ℕ). w + 16 ≤ length mem) (inside_of base (length mem) a 1) _ 0 (omega arith) (omega arith)

  abbrev Window : List ℕ → Type 0
  Window m = Outside mem (window_of base (length mem) a) (window_of base (length mem) a + 16) m

  kept : Window mem
  kept = record { front = refl; back = refl; size = refl }

  written : (b : ℕ) (bs : List ℕ) → AccessOk base (length mem) (store b bs) → WritesFrom a (store b bs) → Window (splice mem (b - base) bs)
  written b bs o h =
      let inside = of_inside base (length mem) a 1 (omega arith, omega arith) in
      rw inside (outside_written mem (min (a - base) (length mem - 16)) _ (b - base) bs (omega arith) (omega arith) (omega arith))

  -- what a step writes stands in the window
  access_window : (t : Access) → AccessOk base (length mem) t → WritesFrom a t → Window (stored base mem t)
  access_window nothing o h = kept
  access_window (reserve b w) o h = kept
  access_window (store b bs) o h = written b bs o h
  access_window (sc_stored b bs) o h = written b bs o h
  access_window sc_failed o h = kept

  exec_window : (d : ℕ) (e : Exec) → Sound base (length mem) e → Reaches d a e → Window (memory_by base mem e)
  exec_window d (trap cause value) o h = kept
  exec_window d (effect ws to t) o h = access_window t o.1 h.1

  -- a step undone: the window's 16 bytes from before, put back
  pub undone : (d : ℕ) (e : Exec) → IsBytes mem → Sound base (length mem) e → Reaches d a e
      → (let at = window_of base (length mem) a in
      splice (splice (memory_by base mem e) at (to_le 8 (le (part mem at 8)))) (at + 8) (to_le 8 (le (part mem (at + 8) 8))) ≡ mem)
  undone d e bytes o h = sixteen_back mem _ (memory_by base mem e) bytes window_room (exec_window d e o h)

-- ---- the whole machine

-- what hart h's step on a word may change, put back after what it came to
module _ (base : ℕ) (m : Machine) (h word : ℕ) (bytes : IsBytes m.mem) (enough : 16 ≤ length m.mem) where
  abbrev c : Reach
  c = reach_in (xlen m) word (reg_at m.state.x h)

  pub all_back : (e : Exec) → Sound base (length m.mem) e → Reaches c.rd c.at e
      → put_back (saved_of base m h word) (record { state = apply m.state (of_exec h e); mem = leaves base m.mem (of_exec h e) }) ≡ m
  unfolding saved_of put_back apply
  all_back e o r =
      rw (registers_back h c.rd m.state.x c.at e r, pcs_back h m.state.pc e, ← leaves_done h e base m.mem, undone base m.mem c.at enough c.rd e bytes o r)
      refl
