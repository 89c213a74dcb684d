-- The nine atomic operations, and the bytes of their width. Assumes nothing.
use Rattle.std.proofs.Common.{◌≡◌, ℕ, ◌+◌, ◌^◌, ◌<◌, ◌≤◌, List, length, refl, ap, ◌∙◌, subst, mod-lt, arith, lit≤, pow_pos}
use lib.Bits.{and_lt, or_lt, xor_lt}
use lib.Signed.{lt_z}
use Rattle.isa.specs.declared.AmoOp.{AmoOp}
use Rattle.isa.specs.declared.AmoOp.TheVariants.{Swap, Add, Xor, And, Or, Min, Max, Minu, Maxu}
use Rattle.isa.specs.declared.Width.{Width}
use Rattle.isa.specs.declared.Width.TheVariants.{Word, Double}
use Rattle.isa.specs.Width.{bits_of, bytes_of}
use Rattle.word.specs.Bytes.{le, IsBytes}
use Rattle.word.specs.Word.{to_int}
use Rattle.word.proofs.BytesLaws.{le_lt}
use Rattle.word.proofs.ChooseLaws.{cond_all}
use Rattle.alu.specs.Amo.{amo_of, min_of, max_of}

pub bytes_most : (w : Width) → bytes_of w ≤ 8
bytes_most Word = lit≤ tt
bytes_most Double = lit≤ tt

bytes_bits : (w : Width) → 256 ^ bytes_of w ≡ 2 ^ bits_of w
bytes_bits Word = refl
bytes_bits Double = refl

-- the bytes of a width are a number of its bits
pub le_fits : (w : Width) (xs : List ℕ) → IsBytes xs → length xs ≡ bytes_of w → le xs < 2 ^ bits_of w
le_fits w xs h e = subst (λ (n : ℕ). le xs < n) (ap (λ (n : ℕ). 256 ^ n) e ∙ bytes_bits w) (le_lt xs h)

-- each operation on numbers of k bits gives one
pub amo_of_lt : (op : AmoOp) (k old operand : ℕ) → old < 2 ^ k → operand < 2 ^ k → amo_of op k old operand < 2 ^ k
unfolding amo_of min_of max_of
amo_of_lt Swap k m a hm ha = ha
amo_of_lt Add k m a hm ha = mod-lt (m + a) (pow_pos k)
amo_of_lt Xor k m a hm ha = xor_lt k m a hm ha
amo_of_lt And k m a hm ha = and_lt k m a hm ha
amo_of_lt Or k m a hm ha = or_lt k m a hm ha
amo_of_lt Min k m a hm ha = cond_all (λ (n : ℕ). n < 2 ^ k) (lt_z (to_int k m) (to_int k a)) m a hm ha
amo_of_lt Max k m a hm ha = cond_all (λ (n : ℕ). n < 2 ^ k) (lt_z (to_int k m) (to_int k a)) a m ha hm
amo_of_lt Minu k m a hm ha = omega arith
amo_of_lt Maxu k m a hm ha = omega arith
