-- One row: it agrees exactly if it does in every field, and it stops for the first reason that applies. Assumes nothing.
use mathlib.Core.Path.{◌≡◌, refl, sym, ap, subst, ◌∙◌}
use mathlib.Core.Logic.{◌↔◌, ◌⊎◌, inl, inr, ⊎_elim}
use mathlib.Core.List.{List}
use Prim.Native.Nat.{ℕ, ◌<◌, ◌≤◌}
use native.Mathlib.Omega.{arith}
use lib.Dec.{eqb}
use lib.ListN.{length}
use borrow.Author.Tests.{eq-eqb, ne_eqb, eqb-true, eqb-false}
use Rattle.std.specs.Prelude.{Option, None, Some, Ok, Err}
use Rattle.word.proofs.TestLaws.{bool_cases}
use Rattle.reserve.specs.Range.{Inside}
use Rattle.reserve.proofs.RangeLaws.{inside_of_lem, of_inside}
use Rattle.effect.specs.Effect.{Exec, trap, effect, notice_of}
use Rattle.reserve.specs.declared.Notice.{Notice}
use Rattle.reserve.specs.declared.Notice.TheVariants.{Quiet, LoadReserved, ScStored, ScFailed, Write, DeviceWrite, Yield}
use Rattle.events.specs.declared.Event.TheVariants.{Step}
use Rattle.model.specs.Act.{retired_as, outcome_of}
use Rattle.model.specs.Perform.{Machine, step_of, of_exec, outcome_at}
use Rattle.model.specs.Valid.{Valid}
use Rattle.model.specs.Retired.{IsRetired}
use Rattle.model.specs.declared.Outcome.{Outcome}
use Rattle.model.specs.declared.Outcome.TheVariants as O
use Rattle.steplog.specs.Row.{reading_of}
use Rattle.steplog.specs.declared.Row.{Row}
use Rattle.steplog.proofs.RoundTrip.{read_was_written}
use Rattle.rows.specs.Row.{Told, pc_at, word_at, fetchable, rd_at, value_after, told_as, told_by, told_by_step, told_by_pc, told_of}
use Rattle.rows.specs.declared.Stop.{Stop}
use Rattle.rows.specs.declared.Stop.TheVariants as S
use Rattle.rows.proofs.ToldLaws.{told_pc, past_pc, told_word, past_word, past_fetch}
use Rattle.rows.proofs.RowLaws.{step_outcome}
use Rattle.replay_words.specs.Reasons.{RowAgrees, Reason, other_pc, other_word, trapped, other_rd, other_value, FirstReason}

-- two numbers are the same, or not
same_or_not : (a b : ℕ) → (a ≡ b) ⊎ (a ≡ b → ⊥)
same_or_not a b = bool_cases (eqb a b) (λ t. inl (eqb-true a b t)) (λ f. inr (eqb-false a b f))

-- a step that is not refused has retired or trapped
pub data Ended (o : Outcome) : Type 0 where
  retires : IsRetired o → Ended o
  traps : (cause value : ℕ) → o ≡ O.Trap cause value → Ended o

notice_ended : (n : Notice) → Ended (retired_as n)
notice_ended Quiet = retires tt
notice_ended (LoadReserved g a w) = retires tt
notice_ended (ScStored g b n) = retires tt
notice_ended (ScFailed g) = retires tt
notice_ended (Write g b n) = retires tt
notice_ended (DeviceWrite b n) = retires tt
notice_ended (Yield g) = retires tt

exec_ended : (h : ℕ) (e : Exec) → Ended (outcome_of (of_exec h e))
exec_ended h (trap cause value) = traps cause value refl
exec_ended h (effect ws to t) = notice_ended (notice_of h t)

module _ (base : ℕ) (m : Machine) (v : Valid base m) (r : Row) (l : r.hart < m.state.count) where
  abbrev h : ℕ
  h = r.hart

  abbrev outcome : Outcome
  outcome = outcome_at base m (Step h)

  abbrev Fetched : Type 0
  Fetched = Inside base (length m.mem) (pc_at base m h) 4

  ended : Ended outcome
  ended = subst Ended (sym (step_outcome base m v h l)) (exec_ended h (step_of base m.mem m.state h))

  fetched_or_not : Fetched ⊎ (Fetched → ⊥)
  fetched_or_not =
      bool_cases (fetchable base m h) (λ t. inl (inside_of_lem base (length m.mem) (pc_at base m h) 4 t))
      (λ f. inr (λ i. let z : ◌≡◌ {A = ℕ} 0 1 = cc (of_inside base (length m.mem) (pc_at base m h) 4 i) in omega arith))

  -- ---- what is told, by what holds

  past_fields : r.pc ≡ pc_at base m h → (Fetched → r.word ≡ word_at base m h) → told_by_pc base m r ≡ told_by_step base m r
  past_fields p w =
      past_pc base m r p
      ∙ bool_cases (fetchable base m h) (λ t. past_word base m r t (w (inside_of_lem base (length m.mem) (pc_at base m h) 4 t)))
      (λ f. past_fetch base m r f)

  -- by rd and value, once the step has retired
  abbrev shown : Told
  shown = told_as r (rd_at base m h) (value_after base m h)

  past_outcome : (o : Outcome) → IsRetired o → told_by o r (rd_at base m h) (value_after base m h) ≡ shown
  unfolding told_by
  past_outcome O.Retired i = refl
  past_outcome O.ScStored i = refl
  past_outcome O.ScFailed i = refl
  past_outcome (O.Trap cause value) i = absurd i
  past_outcome (O.Refused number) i = absurd i

  told_trap : (cause value : ℕ) → outcome ≡ O.Trap cause value → told_by_step base m r ≡ Err (S.Trap cause value)
  unfolding told_by
  told_trap cause value e = rw e refl

  told_rd : (r.rd ≡ rd_at base m h → ⊥) → shown ≡ Err (S.Rd r.rd (rd_at base m h))
  unfolding told_as
  told_rd d = rw (ne_eqb r.rd (rd_at base m h) d)

  told_value : r.rd ≡ rd_at base m h → (r.value ≡ value_after base m h → ⊥) → shown ≡ Err (S.Value r.value (value_after base m h))
  unfolding told_as
  told_value e d = rw (eq-eqb r.rd (rd_at base m h) e, ne_eqb r.value (value_after base m h) d)

  told_agrees : RowAgrees base m r → told_by_pc base m r ≡ Ok tt
  unfolding told_as
  told_agrees a =
      past_fields a.pc a.word ∙ past_outcome outcome a.retired
      ∙ rw (eq-eqb r.rd (rd_at base m h) a.rd, eq-eqb r.value (value_after base m h) a.value)

  -- ---- no reason before a place

  abbrev Unstopped : ℕ → Type 0
  Unstopped place = (k : ℕ) (t : Stop) → k < place → Reason base m r k t → ⊥

  none_pc : (place : ℕ) → 1 < place → Unstopped place → r.pc ≡ pc_at base m h
  none_pc place b n =
      ⊎_elim (λ (e : r.pc ≡ pc_at base m h). e) (λ (d : r.pc ≡ pc_at base m h → ⊥). absurd (n 1 _ b (other_pc refl refl d)))
      (same_or_not r.pc (pc_at base m h))

  none_word : (place : ℕ) → 2 < place → Unstopped place → Fetched → r.word ≡ word_at base m h
  none_word place b n i =
      ⊎_elim (λ (e : r.word ≡ word_at base m h). e) (λ (d : r.word ≡ word_at base m h → ⊥). absurd (n 2 _ b (other_word refl refl i d)))
      (same_or_not r.word (word_at base m h))

  none_trap : (place : ℕ) → 3 < place → Unstopped place → IsRetired outcome
  none_trap place b n = go ended
    where
      go : Ended outcome → IsRetired outcome
      go (retires i) = i
      go (traps cause value e) = absurd (n 3 _ b (trapped cause value refl refl e))

  none_rd : (place : ℕ) → 4 < place → Unstopped place → r.rd ≡ rd_at base m h
  none_rd place b n =
      ⊎_elim (λ (e : r.rd ≡ rd_at base m h). e) (λ (d : r.rd ≡ rd_at base m h → ⊥). absurd (n 4 _ b (other_rd refl refl d)))
      (same_or_not r.rd (rd_at base m h))

  -- ---- a first reason is what is told

  by_reason : (place : ℕ) (s : Stop) → Reason base m r place s → Unstopped place → told_by_pc base m r ≡ Err s
  by_reason place s (other_pc e q d) n = sym (told_pc base m r d) ∙ ap Err (sym q)
  by_reason place s (other_word e q i d) n =
      sym (told_word base m r (none_pc place (omega arith) n) (of_inside base (length m.mem) (pc_at base m h) 4 i) refl d) ∙ ap Err (sym q)
  by_reason place s (trapped cause value e q t) n =
      past_fields (none_pc place (omega arith) n) (none_word place (omega arith) n) ∙ told_trap cause value t ∙ ap Err (sym q)
  by_reason place s (other_rd e q d) n =
      past_fields (none_pc place (omega arith) n) (none_word place (omega arith) n) ∙ past_outcome outcome (none_trap place (omega arith) n) ∙ told_rd d
      ∙ ap Err (sym q)
  by_reason place s (other_value e q d) n =
      past_fields (none_pc place (omega arith) n) (none_word place (omega arith) n) ∙ past_outcome outcome (none_trap place (omega arith) n)
      ∙ told_value (none_rd place (omega arith) n) d ∙ ap Err (sym q)

  -- ---- and one of them applies, or the row agrees

  before : (place : ℕ) → place ≤ 5 → (1 < place → r.pc ≡ pc_at base m h) → (2 < place → Fetched → r.word ≡ word_at base m h)
      → (3 < place → IsRetired outcome) → (4 < place → r.rd ≡ rd_at base m h) → Unstopped place
  before place most p w i d k t b (other_pc e q x) = x (p (omega arith))
  before place most p w i d k t b (other_word e q f x) = x (w (omega arith) f)
  before place most p w i d k t b (trapped cause value e q x) = subst IsRetired x (i (omega arith))
  before place most p w i d k t b (other_rd e q x) = x (d (omega arith))
  before place most p w i d k t b (other_value e q x) = omega arith

  never : {P : Type 0} (k n : ℕ) → n ≤ k → k < n → P
  never k n a b = absurd (omega arith)

  pub agrees_or_stops : RowAgrees base m r ⊎ ((s : Stop) × FirstReason base m r s)
  agrees_or_stops = by_pc (same_or_not r.pc (pc_at base m h))
    where
      by_value : r.pc ≡ pc_at base m h → (Fetched → r.word ≡ word_at base m h) → IsRetired outcome → r.rd ≡ rd_at base m h
          → (r.value ≡ value_after base m h) ⊎ (r.value ≡ value_after base m h → ⊥) → RowAgrees base m r ⊎ ((s : Stop) × FirstReason base m r s)
      by_value p w i d (inl e) = inl (record { pc = p; word = w; retired = i; rd = d; value = e })
      by_value p w i d (inr x) =
          inr (_, record { place = 5; applies = other_value refl refl x; first = before 5 (omega arith) (λ b. p) (λ b. w) (λ b. i) (λ b. d) })

      by_rd : r.pc ≡ pc_at base m h → (Fetched → r.word ≡ word_at base m h) → IsRetired outcome
          → (r.rd ≡ rd_at base m h) ⊎ (r.rd ≡ rd_at base m h → ⊥) → RowAgrees base m r ⊎ ((s : Stop) × FirstReason base m r s)
      by_rd p w i (inl e) = by_value p w i e (same_or_not r.value (value_after base m h))
      by_rd p w i (inr x) =
          inr (
            _,
            record {
              place = 4;
              applies = other_rd refl refl x;
              first = before 4 (omega arith) (λ b. p) (λ b. w) (λ b. i) (λ b. never 4 4 (omega arith) b);
            },
          )

      by_outcome : r.pc ≡ pc_at base m h → (Fetched → r.word ≡ word_at base m h) → Ended outcome
          → RowAgrees base m r ⊎ ((s : Stop) × FirstReason base m r s)
      by_outcome p w (retires i) = by_rd p w i (same_or_not r.rd (rd_at base m h))
      by_outcome p w (traps cause value x) =
          inr (
            _,
            record {
              place = 3;
              applies = trapped cause value refl refl x;
              first = before 3 (omega arith) (λ b. p) (λ b. w) (λ b. never 3 3 (omega arith) b) (λ b. never 4 3 (omega arith) b);
            },
          )

      by_word : r.pc ≡ pc_at base m h → Fetched ⊎ (Fetched → ⊥) → (r.word ≡ word_at base m h) ⊎ (r.word ≡ word_at base m h → ⊥)
          → RowAgrees base m r ⊎ ((s : Stop) × FirstReason base m r s)
      by_word p f (inl e) = by_outcome p (λ i. e) ended
      by_word p (inl f) (inr x) =
          inr (
            _,
            record {
              place = 2;
              applies = other_word refl refl f x;
              first = before 2 (omega arith) (λ b. p) (λ b. never 2 2 (omega arith) b) (λ b. never 3 2 (omega arith) b) (λ b. never 4 2 (omega arith) b);
            },
          )
      by_word p (inr n) (inr x) = by_outcome p (λ i. absurd (n i)) ended

      by_pc : (r.pc ≡ pc_at base m h) ⊎ (r.pc ≡ pc_at base m h → ⊥) → RowAgrees base m r ⊎ ((s : Stop) × FirstReason base m r s)
      by_pc (inl p) = by_word p fetched_or_not (same_or_not r.word (word_at base m h))
      by_pc (inr x) =
          inr (
            _,
            record {
              place = 1;
              applies = other_pc refl refl x;
              first = before 1 (omega arith) (λ b. never 1 1 (omega arith) b) (λ b. never 2 1 (omega arith) b) (λ b. never 3 1 (omega arith) b)
                  (λ b. never 4 1 (omega arith) b);
            },
          )

-- ---- what was read

-- what was read is a row that agrees
abbrev pub AgreesAs : ℕ → Machine → Option Row → Type 0
AgreesAs base m None = ⊥
AgreesAs base m (Some r) = RowAgrees base m r

-- what was read stops the replay
abbrev pub StopsAs : ℕ → Machine → Option Row → Stop → Type 0
StopsAs base m None s = s ≡ S.Form
StopsAs base m (Some r) s = FirstReason base m r s

-- a row that was read is of a hart below the count
abbrev pub Counted : ℕ → Option Row → Type 0
Counted count None = Unit {0}
Counted count (Some r) = r.hart < count

reading_counted : (count : ℕ) (bytes : List ℕ) (read : Option Row) → reading_of count bytes ≡ read → Counted count read
reading_counted count bytes None e = tt
reading_counted count bytes (Some r) e = (read_was_written count bytes r e).0.counted

pub counted : (count : ℕ) (bytes : List ℕ) → Counted count (reading_of count bytes)
counted count bytes = reading_counted count bytes (reading_of count bytes) refl

module _ (base : ℕ) (m : Machine) (v : Valid base m) where
  told_first : (r : Row) → r.hart < m.state.count → (s : Stop) → FirstReason base m r s → told_by_pc base m r ≡ Err s
  told_first r l s f = by_reason base m v r l f.place s f.applies f.first

  pub told_stopping : (read : Option Row) → Counted m.state.count read → (s : Stop) → StopsAs base m read s → told_of base m read ≡ Err s
  unfolding told_of
  told_stopping None l s e = ap Err (sym e)
  told_stopping (Some r) l s f = told_first r l s f

  pub told_agreeing : (read : Option Row) → Counted m.state.count read → AgreesAs base m read → told_of base m read ≡ Ok tt
  unfolding told_of
  told_agreeing None l a = absurd a
  told_agreeing (Some r) l a = told_agrees base m v r l a

  pub either : (read : Option Row) → Counted m.state.count read → AgreesAs base m read ⊎ ((s : Stop) × StopsAs base m read s)
  either None l = inr (S.Form, refl)
  either (Some r) l = agrees_or_stops base m v r l

  module _ (read : Option Row) (l : Counted m.state.count read) where
    -- A row agrees exactly if it is well formed and agrees in every field.
    pub row_agrees : (told_of base m read ≡ Ok tt) ↔ AgreesAs base m read
    row_agrees = (
      λ e. ⊎_elim (λ (a : AgreesAs base m read). a)
          (λ (f : (s : Stop) × StopsAs base m read s). let t = told_stopping read l f.0 f.1 in absurd cc) (either read l),
      told_agreeing read l,
    )

    -- It stops the replay with s exactly if s is given by the first reason that applies.
    pub row_stops : (s : Stop) → (told_of base m read ≡ Err s) ↔ StopsAs base m read s
    row_stops s = (
      λ e. ⊎_elim (λ (a : AgreesAs base m read). let t = told_agreeing read l a in absurd cc)
          (λ (f : (t : Stop) × StopsAs base m read t).
          let same : f.0 ≡ s = cc (told_stopping read l f.0 f.1) in subst (StopsAs base m read) same f.1) (either read l),
      told_stopping read l s,
    )
