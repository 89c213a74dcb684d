use Rattle.std.proofs.Common.{◌≡◌, ◌*◌, ◌≤◌, ◌<◌, ℕ, zero, suc, length, refl, sym, ap, ◌∙◌, subst, arith}
use Rattle.events.specs.Events.{first_events}
use Rattle.events.proofs.EventLaws.{first_next, cut_length}
use Rattle.model.specs.Perform.{Machine, run_of}
use Rattle.model.specs.Valid.{Valid}
use Rattle.model.proofs.Valid.{valid_next}
use Rattle.model.proofs.AdvanceLaws.{run_more}
use Rattle.model.proofs.run.perform_first.Goals as goal

pub advance-requires : goal.advance-requires
advance-requires c = c.loop-bytes.invariant.0

pub loop-bytes-preserved : goal.loop-bytes-preserved
loop-bytes-preserved c =
    let a = c.args in
    let l = c.loop-bytes in
    let s = c.in-Some.ensures.steps in
    let here : Machine = record { state = l.s; mem = l.mem } in
    let rest = l.bytes-iterator.iter.rest.now in
    let after = c.next.new.self.iter.rest.now in
    let n = c.next.new.self.n in
    let one : l.bytes-iterator.n ≡ suc n = omega (arith, s) in
    let whole = s.0.1.1 ∙ l.invariant.1 in
    let bytes = c.in-Some.bytes.now in
    let next = ap (λ (k : ℕ). first_events k rest) one ∙ first_next rest bytes after s.0.1.0 whole n in
    let left = c.advance.ensures.machine in (
      subst (Valid a.base) (sym left) (valid_next a.base here l.invariant.0 c.read_event-e.result),
      s.0.0 ∙ l.invariant.1,
      omega (arith, one, cut_length rest bytes after s.0.1.0 whole, l.invariant.2),
      run_more a.base here next c.read_event-e.ensures left ∙ l.invariant.3,
    )

pub returns : goal.returns
unfolding run_of first_events
returns c =
    let l = c.loop-bytes in
    let none : l.bytes-iterator.n ≡ 0 = none_left l.bytes-iterator.n _ _ l.invariant.1 l.invariant.2 (λ h. (c.in-None.ensures.steps h).1.0) in
    rw none at l.invariant.3
  where
    -- an iterator of n events that gives none has none
    none_left : (n length size : ℕ) → size ≡ 24 → n * 24 ≤ length → (0 < n → length < size) → n ≡ 0
    none_left zero length size w h f = refl
    none_left (suc n) length size w h f = absurd (omega (arith, w, h, f (omega arith)))
