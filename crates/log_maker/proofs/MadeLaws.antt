-- The row that the code makes is the model's where the step retires. Assumes nothing.
use mathlib.Core.Path.{◌≡◌, refl, ap, subst, ◌∙◌}
use mathlib.Core.Bool.{true}
use Prim.Native.Nat.{ℕ, ◌%◌}
use native.Mathlib.Omega.{arith}
use lib.ListN.{length, get_or}
use Rattle.std.specs.Prelude.{Ok}
use Rattle.reserve.specs.Range.{inside_of}
use Rattle.reserve.proofs.RangeLaws.{of_inside}
use Rattle.isa.specs.Narrow.{decode_at}
use Rattle.effect.specs.Memory.{value_at}
use Rattle.effect.specs.Execute.{reg_at}
use Rattle.events.specs.declared.Event.TheVariants.{Step}
use Rattle.model.specs.Perform.{Machine, xlen, answer_of, outcome_at, next_of}
use Rattle.model.specs.Retired.{IsRetired}
use Rattle.model.specs.declared.Answer.{Answer}
use Rattle.model.specs.declared.Outcome.{Outcome}
use Rattle.model.specs.declared.Outcome.TheVariants as O
use Rattle.steplog.specs.declared.Row.{Row}
use Rattle.reach.specs.Rd.{shown_rd}
use Rattle.rows.specs.Row.{pc_at, word_at}
use Rattle.replay_words.specs.Written.{model_row}
use Rattle.replay_words.proofs.Written.{retired_valid, retired_fetched}
use Rattle.log_maker.specs.Made.{made_by, made_of}

-- only a row of a step that retires is made
made_same : (o : Outcome) (r r' : Row) → (IsRetired o → r ≡ r') → made_by o r ≡ made_by o r'
unfolding made_by
made_same O.Retired r r' f = ap Ok (f tt)
made_same O.ScStored r r' f = ap Ok (f tt)
made_same O.ScFailed r r' f = ap Ok (f tt)
made_same (O.Trap cause value) r r' f = refl
made_same (O.Refused number) r r' f = refl

module _ (base : ℕ) (m : Machine) (h : ℕ) where
  abbrev o : Outcome
  o = outcome_at base m (Step h)

  -- the code looks at hart h % 8, of which it knows that there is a pc
  abbrev made_from : Answer → ℕ → Row
  made_from a word =
      record {
        hart = h;
        pc = get_or m.state.pc (h % 8) 0;
        word = word;
        rd = shown_rd (decode_at (xlen m) word);
        value = reg_at a.state.x (h % 8) (shown_rd (decode_at (xlen m) word));
      }

  abbrev Fetched : ℕ → ℕ → Type 0
  Fetched word k =
      inside_of base (length m.mem) (get_or m.state.pc k 0) 4 ≡ true → word ≡ value_at base m.mem (get_or m.state.pc k 0) 4

  row_is : (word : ℕ) → Fetched word (h % 8) → IsRetired o → made_from (answer_of base m.mem m.state (Step h)) word ≡ model_row base m h
  unfolding next_of
  row_is word f i =
      let v = retired_valid base m h i in
      let hart : h % 8 ≡ h = omega (arith, v.1, v.0.1.1) in
      let inside = of_inside base (length m.mem) (pc_at base m h) 4 (retired_fetched base m v.0 h v.1 i) in
      let fetched : word ≡ word_at base m h = subst (Fetched word) hart f inside in
      rw (hart, fetched) refl

  pub made_is : (a : Answer) (word : ℕ) (row : Row) → a ≡ answer_of base m.mem m.state (Step h) → Fetched word (h % 8) → row ≡ made_from a word
      → made_by a.outcome row ≡ made_of base m h
  made_is a word row ea f er =
      let same : row ≡ made_from (answer_of base m.mem m.state (Step h)) word = er ∙ ap (λ (x : Answer). made_from x word) ea in
      ap (λ (x : Answer). made_by x.outcome row) ea ∙ made_same o row (model_row base m h) (λ i. same ∙ row_is word f i)
