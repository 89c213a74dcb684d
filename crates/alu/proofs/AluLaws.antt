-- The integer operations, each law over the width k. Assumes nothing.
use Rattle.std.proofs.Common.{◌≡◌, ℕ, suc, ◌+◌, ◌-◌, ◌*◌, ◌%◌, ◌^◌, ◌<◌, ◌≤◌, Bool, true, false, cond, ltb, ℤ}
use Rattle.std.proofs.Common.{refl, sym, ap, ◌∙◌, lt_of_le_of_lt, mod-lt, arith, pow_pos, pow_mono, to_z-of_z, w64, to_z, of_z}
use native.Mathlib.Nat.{mod-add-mod, add-mod_right, suc-mul, add-mul-mod_self_right}
use lib.Bits.{and_lt, or_lt, xor_lt}
use lib.Pow.{pow-lt, shr_le, pow-add}
use lib.Signed.{mag, lt_z, shr_z, mag_shr}
use mir.Val.{bool_byte}
use Rattle.isa.specs.declared.AluOp.{AluOp}
use Rattle.isa.specs.declared.AluOp.TheVariants.{Add, Sub, Sll, Slt, Sltu, Xor, Srl, Sra, Or, And}
use Rattle.word.specs.Word.{low, to_int, of_int}
use Rattle.word.proofs.ChooseLaws.{cond_all}
use Rattle.word.proofs.WordLaws.{mag_to_int, of_int_lt, low-low, low-of_int}
use Rattle.alu.specs.Alu.{alu_of}

-- the difference at 64 bits, cut to k
pub low_sub : (k a b : ℕ) → k ≤ 64 → b < 2 ^ k → low k ((a + (2 ^ 64 - b)) % 2 ^ 64) ≡ (a + (2 ^ k - b)) % 2 ^ k
low_sub k a b most h =
    let m = 2 ^ k in
    let q = 2 ^ (64 - k) in
    let some : 0 < q = pow_pos (64 - k) in
    let all : 64 ≡ (64 - k) + k = omega arith in
    let whole : 2 ^ 64 ≡ q * m = ap (λ (n : ℕ). 2 ^ n) all ∙ pow-add 2 (64 - k) k in
    let more : q ≡ suc (q - 1) = omega arith in
    let split : q * m ≡ (q - 1) * m + m = ap (λ (n : ℕ). n * m) more ∙ suc-mul (q - 1) m in
    let e : a + (q * m - b) ≡ (a + (m - b)) + (q - 1) * m = omega (arith, split) in
    low-low 64 k most (a + (2 ^ 64 - b)) ∙ ap (λ (p : ℕ). (a + (p - b)) % m) whole ∙ ap (λ (x : ℕ). x % m) e
    ∙ add-mul-mod_self_right (a + (m - b)) (q - 1) m

-- the same of any number r that b added to wraps to a
pub low_sub_any : (k a b r : ℕ) → k ≤ 64 → b < 2 ^ k → (r + b) % 2 ^ 64 ≡ a → low k r ≡ (a + (2 ^ k - b)) % 2 ^ k
unfolding low
low_sub_any k a b r most h e =
    let m = 2 ^ k in
    let one : (r + b) % m ≡ a % m = sym (low-low 64 k most (r + b)) ∙ ap (low k) e in
    let sum : r + b + (m - b) ≡ r + m = omega arith in
    sym (sym (mod-add-mod a m (m - b)) ∙ ap (λ (x : ℕ). (x + (m - b)) % m) (sym one) ∙ mod-add-mod (r + b) m (m - b)
    ∙ ap (λ (x : ℕ). x % m) sum ∙ add-mod_right r m)

-- the shift of a signed local at 64 bits, cut to k
pub low_shr : (k a s : ℕ) (x : ℤ) → 0 < k → k ≤ 64 → a < 2 ^ k → x ≡ to_int k a
    → low k (of_int 64 (to_z w64 (of_z w64 (shr_z (to_z w64 (of_z w64 x)) (2 ^ s))))) ≡ of_int k (shr_z (to_int k a) (2 ^ s))
low_shr k a s x some most h e =
    let z = to_int k a in
    let in-k : mag z < 2 ^ (k - 1) = mag_to_int k some a h in
    let in-64 : mag z < 2 ^ 63 = omega (arith, pow_mono {i = k - 1} {j = 63} (omega arith)) in
    let shr-k : mag (shr_z z (2 ^ s)) < 2 ^ (k - 1) = omega (arith, mag_shr z (2 ^ s)) in
    let shr-64 : mag (shr_z z (2 ^ s)) < 2 ^ 63 = omega (arith, mag_shr z (2 ^ s)) in
    rw (e, to_z-of_z {w = w64} {z = z} (record { sfits = in-64 }), to_z-of_z {w = w64} {z = shr_z z (2 ^ s)} (record { sfits = shr-64 }))
    (low-of_int 64 k most some (shr_z z (2 ^ s)) shr-k)

-- a test that the code casts to a number
pub byte_is : {s t : Bool} → s ≡ t → bool_byte s ≡ cond t 1 0
byte_is {t = t} e = ap bool_byte e ∙ go t
  where
    go : (t : Bool) → bool_byte t ≡ cond t 1 0
    go true = refl
    go false = refl

flag_lt : (t : Bool) (k : ℕ) → 0 < k → cond t 1 0 < 2 ^ k
flag_lt t k some = cond_all (λ (n : ℕ). n < 2 ^ k) t 1 0 (pow-lt {i = 0} some) (pow_pos k)

-- each operation on numbers of k bits gives one
pub alu_of_lt : (op : AluOp) (k a b : ℕ) → 0 < k → a < 2 ^ k → b < 2 ^ k → alu_of op k a b < 2 ^ k
unfolding alu_of
alu_of_lt Add k a b some ha hb = mod-lt _ (pow_pos k)
alu_of_lt Sub k a b some ha hb = mod-lt _ (pow_pos k)
alu_of_lt Sll k a b some ha hb = mod-lt _ (pow_pos k)
alu_of_lt Slt k a b some ha hb = flag_lt (lt_z (to_int k a) (to_int k b)) k some
alu_of_lt Sltu k a b some ha hb = flag_lt (ltb a b) k some
alu_of_lt Xor k a b some ha hb = xor_lt k a b ha hb
alu_of_lt Srl k a b some ha hb = lt_of_le_of_lt (shr_le a (b % k)) ha
alu_of_lt Sra k a b some ha hb =
    of_int_lt k some (shr_z (to_int k a) (2 ^ (b % k))) (lt_of_le_of_lt (mag_shr (to_int k a) (2 ^ (b % k))) (mag_to_int k some a ha))
alu_of_lt Or k a b some ha hb = or_lt k a b ha hb
alu_of_lt And k a b some ha hb = and_lt k a b ha hb
