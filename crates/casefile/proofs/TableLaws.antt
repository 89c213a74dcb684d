-- Fields of a file, and where the bodies of a table lie. Assumes nothing.
use mathlib.Core.Path.{◌≡◌, refl}
use mathlib.Core.Bool.{cond}
use mathlib.Core.List.{List}
use Prim.Native.Nat.{ℕ, ◌+◌, ◌≤◌}
use native.Mathlib.Omega.{arith}
use lib.Dec.{ltb, eqb}
use borrow.Author.Tests.{ltb-false, eqb-true}
use lib.ListN.{length}
use Rattle.word.specs.Memory.{field_at}
use Rattle.word.proofs.TestLaws.{bool_cases}
use Rattle.word.proofs.ChooseLaws.{cond_all}
use Rattle.std.specs.Prelude.{Result, Ok, Err}
use Rattle.refusal.specs.declared.Refusal.{Refusal}
use Rattle.casefile.specs.Table.{refused, bodies_at, entry_of, and_then, table_of, InsideFile}
use Rattle.casefile.specs.declared.Bodies.{Bodies}

-- what an entry gives: the place of its kind or its offset, or an end that isn't before the offset
abbrev Gives : ℕ → ℕ → Result ℕ Refusal → Type 0
Gives place offset (Err r) = (r.number ≡ 8) × (r.place ≤ place + 4)
Gives place offset (Ok end) = offset ≤ end

module _ (file : List ℕ) where
  entry_gives : (place kind offset : ℕ) → Gives place offset (entry_of file place kind offset)
  unfolding entry_of
  entry_gives place kind offset =
      let ends : offset ≤ offset + field_at file (place + 8) = omega arith in
      cond_all (Gives place offset) (eqb (field_at file place) kind) _ (refused 8 place)
      (cond_all (Gives place offset) (eqb (field_at file (place + 4)) offset) (Ok (offset + field_at file (place + 8))) (refused 8 (place + 4)) ends
      (refl, omega arith))
      (refl, omega arith)

  abbrev In : Result Bodies Refusal → Type 0
  In f = InsideFile (length file) f

  refused_in : (place : ℕ) → place ≤ length file → In (refused 8 place)
  refused_in place h = (omega arith, omega arith, h)

  then_in : (place offset : ℕ) (e : Result ℕ Refusal) (f : ℕ → Result Bodies Refusal) → place + 4 ≤ length file → Gives place offset e
      → ((end : ℕ) → offset ≤ end → In (f end)) → In (and_then e f)
  then_in place offset (Err r) f l h g = (omega arith, omega arith, omega arith)
  then_in place offset (Ok end) f l h g = g end h

  module _ (least : 40 ≤ length file) (most : length file ≤ 65536) where
    end_in : (m e end : ℕ) → 40 ≤ m → m ≤ e → e ≤ end → In (cond (eqb end (length file)) (bodies_at m e) (refused 8 36))
    end_in m e end h k l =
        bool_cases (eqb end (length file)) (λ t. rw t (h, k, omega (arith, eqb-true end (length file) t), most))
        (λ t. rw t (refused_in 36 (omega arith)))

    fields_in : In (cond (eqb (field_at file 0) 3)
        (and_then (entry_of file 4 1 40) λ memory.
        and_then (entry_of file 16 2 memory) λ events.
        and_then (entry_of file 28 3 events) λ end.
        cond (eqb end (length file)) (bodies_at memory events) (refused 8 36))
        (refused 8 0))
    fields_in =
        cond_all In (eqb (field_at file 0) 3) _ (refused 8 0)
        (then_in 4 40 (entry_of file 4 1 40) _ (omega arith) (entry_gives 4 1 40) λ m h.
        then_in 16 m (entry_of file 16 2 m) _ (omega arith) (entry_gives 16 2 m) λ e k.
        then_in 28 e (entry_of file 28 3 e) _ (omega arith) (entry_gives 28 3 e) λ end l.
        end_in m e end h k l)
        (refused_in 0 (omega arith))

  -- the place of a refusal is in the file; the bodies are, one after another
  pub table_inside : InsideFile (length file) (table_of file)
  unfolding table_of
  table_inside =
      bool_cases (ltb (length file) 40) (λ s. rw s (omega arith, omega arith, omega arith))
      (λ s.
      bool_cases (ltb 65536 (length file)) (λ t. rw (s, t) (omega arith, omega arith, omega arith))
      (λ t. rw (s, t) (fields_in (ltb-false _ _ s) (ltb-false _ _ t))))
