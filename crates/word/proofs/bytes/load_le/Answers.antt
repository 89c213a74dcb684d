use Rattle.std.proofs.Common.{◌≡◌, ℕ, ◌-◌, ◌^◌, ◌<◌, ◌≤◌, List, length, reverse, get_or, drop, arith}
use native.Mathlib.Nat.{sub-zero}
use lib.Seq.{drop-length}
use Rattle.std.proofs.lemmas.Iterator.Adapters.{YieldsList-from_rev_slice}
use Rattle.std.proofs.lemmas.Iterator.Consumers.{YieldsList-turn}
use Rattle.std.proofs.lemmas.List.{length_push, length-reverse}
use Rattle.word.specs.Bytes.{le, IsBytes}
use Rattle.word.proofs.BytesLaws.{le_back, le-drop_lt}
use Rattle.word.proofs.bytes.load_le.Goals as goal

-- before the turn that reads byte b, v is less than the eighth byte's weight
below : (bytes : List ℕ) (k v b : ℕ) → length bytes ≤ 8 → IsBytes bytes → v ≡ le (drop (length bytes - k) bytes)
    → (k < length (reverse bytes)) × (b ≡ get_or (reverse bytes) k b) → v < 256 ^ 7
below bytes k v b l are e t = rw e (le-drop_lt 7 (length bytes - k) bytes are (omega (arith, t.0, length-reverse bytes)))

pub loop-b-init : goal.loop-b-init
unfolding le
loop-b-init c = rw (sub-zero, drop-length)

pub overflow_mul-v : goal.overflow_mul-v
overflow_mul-v c =
    let t =
    YieldsList-turn (YieldsList-from_rev_slice c.args.bytes.now cc) c.loop-b.yielded _ c.loop-b.yielded_by _ _ c.in-Some.field-0 c.in-Some.is
    c.next.ensures.steps in
    omega (arith, below c.args.bytes.now _ c.loop-b.v _ c.requires (λ i. (c.type_inv.bytes i).fits) c.loop-b.invariant t)

pub overflow_add-v : goal.overflow_add-v
overflow_add-v c =
    let t =
    YieldsList-turn (YieldsList-from_rev_slice c.args.bytes.now cc) c.loop-b.yielded _ c.loop-b.yielded_by _ _ c.in-Some.field-0 c.in-Some.is
    c.next.ensures.steps in
    omega (arith, below c.args.bytes.now _ c.loop-b.v _ c.requires (λ i. (c.type_inv.bytes i).fits) c.loop-b.invariant t)

pub loop-b-preserved : goal.loop-b-preserved
loop-b-preserved c =
    let t =
    YieldsList-turn (YieldsList-from_rev_slice c.args.bytes.now cc) c.loop-b.yielded _ c.loop-b.yielded_by _ _ c.in-Some.field-0 c.in-Some.is
    c.next.ensures.steps in
    let e = le_back c.args.bytes.now (length c.loop-b.yielded) c.in-Some.field-0.now t in
    rw (length_push c.loop-b.yielded c.in-Some.field-0, e) (omega (arith, c.loop-b.invariant, c.from.ensures))
