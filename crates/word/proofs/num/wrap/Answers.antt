use mathlib.Core.Path.{◌≡◌, refl, sym, ap}
use Prim.Native.Nat.{ℕ, ◌%◌}
use lib.Pow.{pow_pos}
use Rattle.word.specs.Word.{low}
use Rattle.word.proofs.WordLaws.{low_id}
use Rattle.word.proofs.num.wrap.Goals as goal

pub returns-then-bits-eq32 : goal.returns-then-bits-eq32
unfolding low
returns-then-bits-eq32 c =
    let half : c.args.bits ≡ 32 = c.if-bits-eq32.true in
    rw half refl

pub nonzero_rem-result-else-bits-eq64 : goal.nonzero_rem-result-else-bits-eq64
nonzero_rem-result-else-bits-eq64 c = rw c.bit.ensures (pow_pos c.args.bits)

pub returns-then-bits-eq64 : goal.returns-then-bits-eq64
returns-then-bits-eq64 c =
    let all : c.args.bits ≡ 64 = c.if-bits-eq64.true in
    rw all (sym (low_id 64 c.args.v c.ranges.v.fits))

pub returns-else-bits-eq64 : goal.returns-else-bits-eq64
unfolding low
returns-else-bits-eq64 c = ap (λ (m : ℕ). c.args.v % m) c.bit.ensures
