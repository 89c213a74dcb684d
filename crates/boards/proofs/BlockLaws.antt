-- Parts of bytes one behind the other, and blocks of one size: each is a part, and a list is the blocks of its parts. Assumes nothing.
use mathlib.Core.Path.{◌≡◌, refl, sym, ap, ap₂, ◌∙◌}
use mathlib.Core.List.{List, [], ◌∷◌, ◌++◌}
use Prim.Native.Nat.{ℕ, zero, suc, ◌+◌, ◌*◌, ◌-◌, ◌≤◌, ◌<◌}
use native.Mathlib.Nat.{mul-suc, mul-zero}
use native.Mathlib.Omega.{arith}
use lib.Dec.{ltb}
use lib.ListN.{length, take, drop}
use lib.Seq.{take_all, take-nil, take-take, take-add, drop-drop, drop-append-add}
use borrow.Author.Tests.{ltb-true, ltb-false}
use Rattle.word.specs.Memory.{part}
use Rattle.word.proofs.MemoryLaws.{part_front}
use Rattle.word.proofs.TestLaws.{bool_cases}
use Rattle.boards.specs.Write.{blocks}
use Rattle.boards.proofs.WriteLaws.{length-blocks}

-- a part that lies in the second of two lists
pub part-behind : (xs ys : List ℕ) (p q n : ℕ) → length xs + p ≡ q → part (xs ++ ys) q n ≡ part ys p n
unfolding part
part-behind xs ys p q n e = ap (λ (k : ℕ). take n (drop k (xs ++ ys))) (sym e) ∙ ap (take n) (drop-append-add xs ys p)

pub part_all : (xs : List ℕ) (n : ℕ) → length xs ≡ n → part xs 0 n ≡ xs
unfolding part
part_all xs n e = take_all n xs (omega (arith, e))

drop-take : (i j : ℕ) (ys : List ℕ) → drop i (take (i + j) ys) ≡ take j (drop i ys)
drop-take zero j ys = let e : 0 + j ≡ j = omega arith in ap (λ (k : ℕ). take k ys) e
drop-take (suc i) j [] = let e : suc i + j ≡ suc (i + j) = omega arith in rw e (sym (take-nil j))
drop-take (suc i) j (y ∷ ys) = let e : suc i + j ≡ suc (i + j) = omega arith in rw e (drop-take i j ys)

-- a part of a part
pub part-part : (xs : List ℕ) (p n q m r : ℕ) → p + q ≡ r → q + m ≤ n → part (part xs p n) q m ≡ part xs r m
unfolding part
part-part xs p n q m r place fit =
    let e : n ≡ q + (n - q) = omega arith in
    ap (λ (k : ℕ). take m (drop q (take k (drop p xs)))) e
    ∙ ap (take m) (drop-take q (n - q) (drop p xs) ∙ ap (take (n - q)) (drop-drop q p xs ∙ ap (λ (k : ℕ). drop k xs) place))
    ∙ take-take m (n - q) (drop r xs) (omega arith)

pub part_none : (xs : List ℕ) (p : ℕ) → part xs p 0 ≡ []
unfolding part
part_none xs p = refl

-- a part as two
pub part_split : (xs : List ℕ) (p n m : ℕ) → part xs p (n + m) ≡ part xs p n ++ part xs (p + n) m
unfolding part
part_split xs p n m = take-add n m (drop p xs) ∙ ap (λ (l : List ℕ). take n (drop p xs) ++ take m l) (drop-drop n p xs)

pub mul_within : (b k n : ℕ) → k < n → b * k + b ≤ b * n
mul_within b k zero h = absurd (omega arith)
mul_within b k (suc n) h =
    bool_cases (ltb k n)
    (λ t. omega (arith, mul-suc b n, mul_within b k n (ltb-true k n t)))
    (λ t. let e : k ≡ n = omega (arith, ltb-false k n t) in rw e (omega (arith, mul-suc b n)))

module _ (b : ℕ) (f : ℕ → List ℕ) (size : (k : ℕ) → length (f k) ≡ b) where
  -- the block k of n
  pub part_block : (n k : ℕ) → k < n → part (blocks f n) (b * k) b ≡ f k
  unfolding blocks
  part_block zero k h = absurd (omega arith)
  part_block (suc n) k h =
      bool_cases (ltb k n)
      (λ t.
      let l = ltb-true k n t in
      part_front (blocks f n) (f n) (b * k) b (omega (arith, length-blocks b f size n, mul_within b k n l)) ∙ part_block n k l)
      (λ t.
      let e : k ≡ n = omega (arith, ltb-false k n t) in
      rw e (part-behind (blocks f n) (f n) 0 (b * n) b (omega (arith, length-blocks b f size n)) ∙ part_all (f n) b (size n)))

-- blocks that are the same one by one
pub blocks_same : (f g : ℕ → List ℕ) (n : ℕ) → ((k : ℕ) → k < n → f k ≡ g k) → blocks f n ≡ blocks g n
unfolding blocks
blocks_same f g zero e = refl
blocks_same f g (suc n) e = ap₂ ◌++◌ (blocks_same f g n (λ k h. e k (omega arith))) (e n (omega arith))

-- a list is the blocks of its parts
pub blocks_of : (xs : List ℕ) (p b n : ℕ) → blocks (λ k. part xs (p + b * k) b) n ≡ part xs p (b * n)
unfolding blocks
blocks_of xs p b zero = sym (ap (part xs p) (mul-zero b) ∙ part_none xs p)
blocks_of xs p b (suc n) = ap (λ (l : List ℕ). l ++ part xs (p + b * n) b) (blocks_of xs p b n) ∙ sym (rw (mul-suc b n) (part_split xs p (b * n) b))
