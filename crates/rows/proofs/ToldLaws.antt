-- What is told of a row, one test after another. Assumes nothing.
use mathlib.Core.Path.{◌≡◌, refl, sym, ap, ◌∙◌}
use mathlib.Core.Bool.{Bool, true, false, cond, ◌&&◌, not}
use Prim.Native.Nat.{ℕ}
use lib.Dec.{eqb}
use borrow.Author.Tests.{eq-eqb, ne_eqb}
use Rattle.std.specs.Prelude.{Ok, Err, Option}
use Rattle.std.specs.Result.{is_err}
use Rattle.word.proofs.TestLaws.{contrary}
use Rattle.model.specs.Perform.{Machine}
use Rattle.steplog.specs.declared.Row.{Row}
use Rattle.rows.specs.Row.{Told, pc_at, word_at, fetchable, told_by_step, told_by_word, told_by_pc, stepped, after_row}
use Rattle.rows.specs.declared.Stop.{Stop}
use Rattle.rows.specs.declared.Stop.TheVariants as S

-- a row that stops nothing agrees
pub agrees : (t : Told) → ((s : Stop) → t ≡ Err s → ⊥) → t ≡ Ok tt
agrees (Ok x) n = refl
agrees (Err s) n = absurd (n s refl)

-- the machine after a row, by the test of what was told of it
module _ (base : ℕ) (m : Machine) (r : Option Row) where
  pub stops : (t : Told) → is_err t ≡ true → m ≡ after_row t base m r
  unfolding after_row
  stops (Ok x) e = contrary e refl
  stops (Err s) e = refl

  pub goes : (t : Told) → is_err t ≡ false → stepped base m r ≡ after_row t base m r
  unfolding after_row
  goes (Ok x) e = refl
  goes (Err s) e = contrary refl e

module _ (base : ℕ) (m : Machine) (r : Row) where
  by_pc : Bool → Told
  by_pc b = cond b (told_by_word base m r) (Err (S.Pc r.pc (pc_at base m r.hart)))

  -- a row with another pc is told by its pc, whatever its word
  pub told_pc : (r.pc ≡ pc_at base m r.hart → ⊥) → Err (S.Pc r.pc (pc_at base m r.hart)) ≡ told_by_pc base m r
  unfolding told_by_pc by_pc
  told_pc d = sym (ap by_pc (ne_eqb r.pc (pc_at base m r.hart) d))

  pub past_pc : r.pc ≡ pc_at base m r.hart → told_by_pc base m r ≡ told_by_word base m r
  unfolding told_by_pc by_pc
  past_pc same = ap by_pc (eq-eqb r.pc (pc_at base m r.hart) same)

  by_word : Bool → Told
  by_word b = cond b (Err (S.Word r.word (word_at base m r.hart))) (told_by_step base m r)

  -- a row with another word is told by its word, whether the model's word traps or not; w is the code's name for the model's
  pub told_word : r.pc ≡ pc_at base m r.hart → fetchable base m r.hart ≡ true → {w : ℕ} → w ≡ word_at base m r.hart → (r.word ≡ w → ⊥)
      → Err (S.Word r.word w) ≡ told_by_pc base m r
  unfolding told_by_word by_word
  told_word same inside {w} e d =
      let differs : fetchable base m r.hart && not (eqb r.word (word_at base m r.hart)) ≡ true = rw (inside, ← e, ne_eqb r.word w d) in
      ap (λ (k : ℕ). Err (S.Word r.word k)) e ∙ sym (past_pc same ∙ ap by_word differs)

  pub past_word : fetchable base m r.hart ≡ true → r.word ≡ word_at base m r.hart
      → told_by_word base m r ≡ told_by_step base m r
  unfolding told_by_word by_word
  past_word inside e =
      let agrees : fetchable base m r.hart && not (eqb r.word (word_at base m r.hart)) ≡ false =
      rw (inside, eq-eqb r.word (word_at base m r.hart) e) in
      ap by_word agrees

  -- a word that can't be fetched isn't compared
  pub past_fetch : fetchable base m r.hart ≡ false → told_by_word base m r ≡ told_by_step base m r
  unfolding told_by_word by_word
  past_fetch out =
      let unseen : fetchable base m r.hart && not (eqb r.word (word_at base m r.hart)) ≡ false = rw out in
      ap by_word unseen
