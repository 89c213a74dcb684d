-- Two numbers of n bytes as one of twice as many, each law over n. Assumes nothing.
use Rattle.std.proofs.Common.{◌≡◌, ℕ, zero, suc, ◌+◌, ◌*◌, ◌/◌, ◌%◌, ◌^◌, ◌<◌, ◌≤◌, List, ◌∷◌, ◌++◌, length, take}
use Rattle.std.proofs.Common.{drop, sym, refl, ap, ◌∙◌, subst, ap₂, append-nil, mul_assoc, mul_comm, add_comm, arith, length-drop, take-append-drop, length-take-le, take_all, take_at}
use native.Mathlib.Nat.{pow-succ'}
use lib.Arith.{digits_div, digits_mod}
use lib.Seq.{drop-length}
use Rattle.word.specs.Bytes.{le, to_le, IsBytes}
use Rattle.word.specs.Memory.{part, splice}
use Rattle.isa.specs.Width.{bits_of, bytes_of, pair_bytes}
use Rattle.isa.specs.declared.Width.{Width}
use Rattle.isa.specs.declared.Width.TheVariants.{Word, Double}
use Rattle.word.proofs.MemoryLaws.{length-splice, part_lt}
use Rattle.word.proofs.BytesLaws.{le-append, to_le-append, length-to_le}

-- the halves a and b of a number, a below m
module _ (m a b : ℕ) (h : a < m) where
  turned : a + m * b ≡ b * m + a
  turned = add_comm a (m * b) ∙ ap (λ (x : ℕ). x + a) (mul_comm m b)

  pub low_half : (a + m * b) % m ≡ a
  low_half = ap (λ (x : ℕ). x % m) turned ∙ digits_mod b h

  pub high_half : (a + m * b) / m ≡ b
  high_half = ap (λ (x : ℕ). x / m) turned ∙ digits_div b h

-- one number has one pair of halves
module _ (m a b c d : ℕ) (h : a < m) (k : c < m) (e : a + m * b ≡ c + m * d) where
  pub same_low : a ≡ c
  same_low = sym (low_half m a b h) ∙ ap (λ (v : ℕ). v % m) e ∙ low_half m c d k

  pub same_high : b ≡ d
  same_high = sym (high_half m a b h) ∙ ap (λ (v : ℕ). v / m) e ∙ high_half m c d k

pub le_pair : (n : ℕ) (bs : List ℕ) → length bs ≡ n + n → le (part bs 0 n) + 256 ^ n * le (part bs n n) ≡ le bs
unfolding part
le_pair n bs l =
    let f : length (take n bs) ≡ n = length-take-le n bs (omega arith) in
    let g : length (drop n bs) ≤ n = omega (arith, length-drop n bs) in
    ap (λ (xs : List ℕ). le (take n bs) + 256 ^ n * le xs) (take_all n (drop n bs) g)
    ∙ sym (ap le (sym (take-append-drop n bs)) ∙ le-append (take n bs) (drop n bs) ∙ ap (λ (k : ℕ). le (take n bs) + 256 ^ k * le (drop n bs)) f)

-- what is above n bytes does not show in them
to_le-low : (n a b : ℕ) → to_le n (a + 256 ^ n * b) ≡ to_le n a
unfolding to_le
to_le-low zero a b = refl
to_le-low (suc n) a b =
    let e : 256 ^ suc n * b ≡ 256 * (256 ^ n * b) = ap (λ (k : ℕ). k * b) (pow-succ' 256 n) ∙ mul_assoc 256 (256 ^ n) b in
    let r : (a + 256 ^ suc n * b) % 256 ≡ a % 256 = omega arith in
    let q : (a + 256 ^ suc n * b) / 256 ≡ a / 256 + 256 ^ n * b = omega arith in
    ap₂ (λ (x : ℕ) (xs : List ℕ). x ∷ xs) r (ap (to_le n) q ∙ to_le-low n (a / 256) b)

to_le_pair : (n a b : ℕ) → a < 256 ^ n → to_le (n + n) (a + 256 ^ n * b) ≡ to_le n a ++ to_le n b
to_le_pair n a b h =
    to_le-append n n (a + 256 ^ n * b) ∙ ap₂ (λ (x y : List ℕ). x ++ y) (to_le-low n a b) (ap (to_le n) (high_half (256 ^ n) a b h))

-- both halves written
pub splice_pair : (n : ℕ) (bs : List ℕ) (a b : ℕ) → length bs ≡ n + n → a < 256 ^ n
    → splice (splice bs 0 (to_le n a)) n (to_le n b) ≡ to_le (n + n) (a + 256 ^ n * b)
unfolding splice
splice_pair n bs a b l h =
    let la = length-to_le n a in
    let lb = length-to_le n b in
    let m = splice bs 0 (to_le n a) in
    let lm : length m ≡ n + n = length-splice bs 0 (to_le n a) (omega arith) ∙ l in
    let end : n + length (to_le n b) ≡ length m = omega arith in
    ap₂ (λ (x y : List ℕ). x ++ (to_le n b ++ y)) (take_at (to_le n a) (drop (0 + length (to_le n a)) bs) n la) (ap (λ (k : ℕ). drop k m) end ∙ drop-length m)
    ∙ ap (λ (y : List ℕ). to_le n a ++ y) (append-nil (to_le n b))
    ∙ sym (to_le_pair n a b h)

-- ---- the same by the width of a half

pub half_bytes : (w : Width) → pair_bytes w ≡ bytes_of w + bytes_of w
half_bytes Word = refl
half_bytes Double = refl

pub bytes_bits : (w : Width) → 256 ^ bytes_of w ≡ 2 ^ bits_of w
bytes_bits Word = refl
bytes_bits Double = refl

-- n bytes are a number of as many bits
pub half_lt : (w : Width) (bs : List ℕ) → IsBytes bs → (i n v : ℕ) → n ≡ bytes_of w → v ≡ le (part bs i n) → v < 2 ^ bits_of w
half_lt w bs h i n v e f = subst (λ (m : ℕ). v < m) (ap (λ (k : ℕ). 256 ^ k) e ∙ bytes_bits w) (rw f (part_lt bs i n h))

pub le_halves : (w : Width) (bs : List ℕ) → length bs ≡ pair_bytes w
    → le (part bs 0 (bytes_of w)) + 2 ^ bits_of w * le (part bs (bytes_of w) (bytes_of w)) ≡ le bs
le_halves Word bs l = le_pair 4 bs l
le_halves Double bs l = le_pair 8 bs l

pub splice_halves : (w : Width) (bs : List ℕ) (a b : ℕ) → length bs ≡ pair_bytes w → a < 2 ^ bits_of w
    → splice (splice bs 0 (to_le (bytes_of w) a)) (bytes_of w) (to_le (bytes_of w) b) ≡ to_le (pair_bytes w) (a + 2 ^ bits_of w * b)
splice_halves Word bs a b l h = splice_pair 4 bs a b l h
splice_halves Double bs a b l h = splice_pair 8 bs a b l h
