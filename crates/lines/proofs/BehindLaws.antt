-- Text that is put into the front of a buffer, before a memory that stands at its end. Assumes nothing.
use mathlib.Core.Path.{◌≡◌, sym, ap, ap₂, ◌∙◌, subst}
use mathlib.Core.List.{List, ◌++◌, append-nil}
use Prim.Native.Nat.{ℕ, ◌-◌, ◌≤◌}
use native.Mathlib.Omega.{arith}
use lib.ListN.{length, take, drop, length-drop, drop_of_length-le}
use lib.Seq.{length-take-le, length_front, take_all, take-take, take-append-le, drop_at}
use borrow.Rule.Slice.PartMut.{put_mid, same_len_mid, take_put}
use Rattle.text.specs.Put.{Put}
use Rattle.events.specs.declared.Event.{Event}
use Rattle.model.specs.Perform.{Machine, reply_at}
use Rattle.model.specs.Advance.{Advances}
use Rattle.model.specs.declared.Reply.{Reply}
use Rattle.model.specs.declared.Outcome.{Outcome}

-- a text that was put into a part `&mut out[..from]`, which is back
module _ (out front : List ℕ) (from : ℕ) (within : from ≤ length out) (kept : length front ≡ length (take from out)) where
  whole : length front ≡ from
  whole = kept ∙ length-take-le from out within

  pub front_length : length (front ++ drop from out) ≡ length out
  front_length = length_front out front from kept

  pub front_behind : drop from (front ++ drop from out) ≡ drop from out
  front_behind = drop_at front (drop from out) from whole

  pub front_put : {text : List ℕ} {p r : ℕ} → p ≤ from → r ≤ from → Put (take from out) p text front r → Put out p text (front ++ drop from out) r
  front_put {text} {p} {r} h k x =
      record {
        end = x.end;
        holds = take-append-le r front (drop from out) (omega (arith, whole, k)) ∙ x.holds ∙ ap (λ (l : List ℕ). l ++ text) (take-take p from out h);
      }

-- a text that was put up to the end of a buffer
pub put_last : {a b s : List ℕ} {p r : ℕ} → p ≤ length a → length b ≤ r → Put a p s b r → drop p b ≡ s
put_last {a} {b} {s} {p} {r} h k x =
    ap (λ (l : List ℕ). drop p l) (sym (take_all r b k) ∙ x.holds) ∙ drop_at (take p a) s p (length-take-le p a h)

-- what a part `&mut out[from..]` holds
pub lent_behind : (out : List ℕ) (from : ℕ) → take (length out - from) (drop from out) ≡ drop from out
lent_behind out from = take_all (length out - from) (drop from out) (rw length-drop (omega arith))

-- the buffer when that part is back, where mem is what it last held
abbrev pub back : List ℕ → List ℕ → ℕ → List ℕ
back out mem from = put_mid from (length out - from) out mem

module _ (out mem : List ℕ) (from : ℕ) (within : from ≤ length out) (kept : length mem ≡ length (take (length out - from) (drop from out))) where
  pub back_length : length (back out mem from) ≡ length out
  back_length = same_len_mid from (length out - from) out mem kept

  pub back_within : from ≤ length (back out mem from)
  back_within = omega (arith, back_length, within)

  pub back_behind : drop from (back out mem from) ≡ mem
  back_behind =
      let short : length (drop from out) ≤ length out - from = rw length-drop (omega arith) in
      drop_at (take from out) _ from (length-take-le from out within)
      ∙ ap (λ (l : List ℕ). mem ++ l) (drop_of_length-le (drop from out) short)
      ∙ append-nil mem

  same_front : (p : ℕ) → p ≤ from → take p (back out mem from) ≡ take p out
  same_front p h =
      sym (take-take p from (back out mem from) h)
      ∙ ap (λ (l : List ℕ). take p l) (take_put from (length out - from) out mem within)
      ∙ take-take p from out h

  -- a text put into the front of it is put into the buffer as it was before
  pub back_put : {text after : List ℕ} {p r : ℕ} → p ≤ from → Put (back out mem from) p text after r → Put out p text after r
  back_put {text} {after} {p} {r} h x = record { end = x.end; holds = x.holds ∙ ap (λ (l : List ℕ). l ++ text) (same_front p h) }

-- the same event, on machines written in another way
pub advances_as : {base : ℕ} {e : Event} {r : Reply} {m m' a b : Machine} → m ≡ a → m' ≡ b → Advances base e m r m' → Advances base e a r b
advances_as {base} {e} {r} {m} {m'} {a} {b} h k y =
    subst (λ (n : Machine). Advances base e n r b) h (subst (Advances base e m r) k y)

-- the reply that it promises part by part, as a whole
pub reply_same : {base : ℕ} {e : Event} {r : Reply} {m m' : Machine} → Advances base e m r m' → r ≡ reply_at base m e
reply_same y = ap₂ (λ (o : Outcome) (k : ℕ). record { outcome = o; broke = k }) y.outcome y.broke
