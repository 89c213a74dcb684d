use Rattle.std.proofs.Common.{◌≡◌, ℕ, false, ◌&&◌, refl, sym, ap, ◌∙◌, arith, le-leb}
use lib.Dec.{leb}
use borrow.Author.Tests.{lt-leb}
use Rattle.word.proofs.TestLaws.{and_false}
use Rattle.word.proofs.BytesLaws.{length-to_le}
use Rattle.reserve.specs.Reserve.{observe_all_of, Observed}
use Rattle.reserve.specs.declared.Notice.TheVariants.{DeviceWrite}
use Rattle.reserve.proofs.RangeLaws.{inside_of_lem}
use Rattle.model.specs.Act.{apply, leaves}
use Rattle.model.specs.Perform.{device_of}
use Rattle.model.specs.declared.Outcome.TheVariants as O
use Rattle.model.proofs.advance.write_device.Goals as goal
use Rattle.model.proofs.advance.write_device.Goals.{then-size-eq0-via-then-size-eq0, then-size-eq0-via-else-size-eq0+then-size-gt8}

pub returns-then-size-eq0 : goal.returns-then-size-eq0
unfolding device_of apply leaves
returns-then-size-eq0 c =
    let n = c.args.size in
    let bad : (leb 1 n && leb n 8) ≡ false = elim c.then-size-eq0.branch [
      | then-size-eq0-via-then-size-eq0 w ↦ rw (lt-leb 1 n (omega arith)) refl
      | then-size-eq0-via-else-size-eq0+then-size-gt8 w ↦ rw (lt-leb n 8 (omega arith)) (and_false (leb 1 n))
    ] in
    record { reply = rw bad c.broke_none.ensures; state = rw bad refl; memory = rw bad refl }

pub returns-then-not-inside : goal.returns-then-not-inside
unfolding device_of apply leaves
returns-then-not-inside c =
    let n = c.args.size in
    let outside = sym c.inside.ensures ∙ c.if-not-inside.true in
    record {
      reply = rw (le-leb 1 n (omega arith), le-leb n 8 (omega arith), outside) c.broke_none-then-not-inside.ensures;
      state = rw (le-leb 1 n (omega arith), le-leb n 8 (omega arith), outside) refl;
      memory = rw (le-leb 1 n (omega arith), le-leb n 8 (omega arith), outside) refl;
    }

pub overflow_sub-addr : goal.overflow_sub-addr
overflow_sub-addr c = let i = inside_of_lem _ _ _ _ (sym c.inside.ensures ∙ c.if-not-inside.false) in omega arith

pub store_at-requires : goal.store_at-requires
store_at-requires c = let i = inside_of_lem _ _ _ _ (sym c.inside.ensures ∙ c.if-not-inside.false) in omega arith

pub returns : goal.returns
unfolding device_of apply leaves
returns c =
    let a = c.args in
    let s = a.s.now in
    let n = a.size in
    let inside = sym c.inside.ensures ∙ c.if-not-inside.false in
    let seen : ℕ → Observed = λ k. observe_all_of s.settings s.count (DeviceWrite a.addr k) s.res in
    let q = c.device_write.ensures ∙ ap seen (sym (length-to_le n a.value)) in
    record {
      reply = rw (le-leb 1 n (omega arith), le-leb n 8 (omega arith), inside)
          (ap (λ (o : Observed). record { outcome = O.Retired; broke = o.broken }) q);
      state = rw (le-leb 1 n (omega arith), le-leb n 8 (omega arith), inside)
          (ap (λ (o : Observed). record { count = s.count; settings = s.settings; x = s.x; pc = s.pc; res = o.slots }) q);
      memory = rw (le-leb 1 n (omega arith), le-leb n 8 (omega arith), inside) c.store_at.ensures;
    }
