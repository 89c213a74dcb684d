-- A block as bytes. Assumes nothing.
use Rattle.std.proofs.Common.{◌≡◌, ℕ, zero, suc, ◌*◌, ◌^◌, ◌<◌, ◌≤◌, true, List, [], ◌∷◌, length, take, drop, refl, ◌∙◌, lt_of_lt_of_le, arith, length-append, length-take, le-ltb, lt-ltb}
use native.Mathlib.Nat.{pow-le-pow_right}
use Rattle.word.specs.Bytes.{le, IsBytes}
use Rattle.word.specs.Memory.{part}
use Rattle.word.proofs.BytesLaws.{le_lt, bytes_drop}
use Rattle.settings.specs.Settings.{reading_ok}
use Rattle.settings.specs.declared.Settings.{Settings}
use Rattle.retry.specs.declared.LoopAnswer.TheVariants.{Refused}
use Rattle.retry.specs.Loop.{check_of, words_of}

bytes_take : (n : ℕ) (xs : List ℕ) → IsBytes xs → IsBytes (take n xs)
bytes_take zero xs h i = omega arith
bytes_take (suc n) [] h i = omega arith
bytes_take (suc n) (x ∷ xs) h zero = h 0
bytes_take (suc n) (x ∷ xs) h (suc i) = bytes_take n xs (λ k. h (suc k)) i

-- four bytes are a number of 32 bits
pub word_lt : (bytes : List ℕ) (at : ℕ) → IsBytes bytes → le (part bytes at 4) < 2 ^ 32
unfolding part
word_lt bytes at h =
    let l : length (take 4 (drop at bytes)) ≤ 4 = rw length-take (omega arith) in
    lt_of_lt_of_le (le_lt (take 4 (drop at bytes)) (bytes_take 4 (drop at bytes) (bytes_drop at bytes h))) (pow-le-pow_right (omega arith) l)

length_words : (bytes : List ℕ) (n : ℕ) → length (words_of bytes n) ≡ n
unfolding words_of
length_words bytes zero = refl
length_words bytes (suc n) =
    length-append (words_of bytes n) (le (part bytes (4 * n) 4) ∷ []) ∙ let e = length_words bytes n in omega arith

pub too_long : (settings : Settings) (bytes : List ℕ) (n : ℕ) → reading_ok settings ≡ true → 16 < n → Refused 6 ≡ check_of settings (words_of bytes n)
unfolding check_of
too_long settings bytes n v h =
    let e = length_words bytes n in
    rw (v, le-ltb (length (words_of bytes n)) 2 (omega arith), lt-ltb 16 (length (words_of bytes n)) (omega arith))
