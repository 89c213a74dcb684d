-- The laws of `table`, `word_bytes` and `slot_words`: their lengths, their elements, and one turn of each loop. Assumes nothing.
use mathlib.Core.Path.{◌≡◌, refl, sym, ap, ap₂, ◌∙◌}
use mathlib.Core.Logic.{◌⊎◌, inl, inr}
use mathlib.Core.List.{List, [], ◌∷◌, ◌++◌, append_assoc, append-nil}
use Prim.Native.Nat.{ℕ, zero, suc, ◌+◌, ◌*◌, ◌≤◌, ◌<◌, min}
use native.Mathlib.Omega.{arith}
use lib.ListN.{length, get_or, take, length-append}
use lib.Seq.{length-take-le, take-suc, take_all}
use Rattle.std.specs.Prelude.{Option, None, Some}
use Rattle.word.specs.Bytes.{to_le}
use Rattle.word.specs.Memory.{splice}
use Rattle.word.specs.Each.{each}
use Rattle.word.proofs.BytesLaws.{length-to_le}
use Rattle.word.proofs.MemoryLaws.{splice_none, splice-append}
use Rattle.word.proofs.WordLaws.{split_lt}
use Rattle.settings.specs.declared.Settings.{Settings}
use Rattle.reserve.specs.declared.Reservation.{Reservation}
use Rattle.machine.specs.declared.State.{State}
use Rattle.layout.specs.Layout.{table, word_bytes, reservation_words, slot_words}

-- ---- tables

module _ {A : Type 0} where
  pub length-table : (f : ℕ → A) (n : ℕ) → length (table f n) ≡ n
  unfolding table
  length-table f zero = refl
  length-table f (suc n) = ap suc (length-table (λ k. f (suc k)) n)

  pub table_at : (f : ℕ → A) (n i : ℕ) (d : A) → i < n → get_or (table f n) i d ≡ f i
  unfolding table
  table_at f zero i d h = absurd (omega arith)
  table_at f (suc n) zero d h = refl
  table_at f (suc n) (suc i) d h = table_at (λ k. f (suc k)) n i d (omega arith)

  pub table_all : (P : A → Type 0) (f : ℕ → A) (n : ℕ) (d : A) → P d → ((k : ℕ) → P (f k)) → (i : ℕ) → P (get_or (table f n) i d)
  unfolding table
  table_all P f zero d h g i = h
  table_all P f (suc n) d h g zero = g 0
  table_all P f (suc n) d h g (suc i) = table_all P (λ k. f (suc k)) n d h (λ k. g (suc k)) i

  -- a list of which every element was set by its place
  pub each-table : (f : ℕ → A) (l : List A) → each (λ k _. f k) (length l) l ≡ table f (length l)
  unfolding table
  each-table f [] = refl
  each-table f (a ∷ l) = ap (λ (t : List A). f 0 ∷ t) (each-table (λ k. f (suc k)) l)

-- ---- numbers as bytes

pub length-word_bytes : (vs : List ℕ) → length (word_bytes vs) ≡ 8 * length vs
unfolding word_bytes
length-word_bytes [] = refl
length-word_bytes (v ∷ vs) = simp (length-append, length-to_le) (omega (arith, length-word_bytes vs))

pub word_bytes-append : (vs ws : List ℕ) → word_bytes (vs ++ ws) ≡ word_bytes vs ++ word_bytes ws
unfolding word_bytes
word_bytes-append [] ws = refl
word_bytes-append (v ∷ vs) ws =
    ap (λ (l : List ℕ). to_le 8 v ++ l) (word_bytes-append vs ws) ∙ sym (append_assoc (to_le 8 v) (word_bytes vs) (word_bytes ws))

word_bytes_one : (v : ℕ) → word_bytes (v ∷ []) ≡ to_le 8 v
unfolding word_bytes
word_bytes_one v = append-nil (to_le 8 v)

pub words_none : (mem : List ℕ) (place : ℕ) → splice mem place (word_bytes []) ≡ mem
unfolding word_bytes
words_none mem place = splice_none mem place

-- one number more
pub words_turn : (mem : List ℕ) (place i : ℕ) (vs : List ℕ) → i < length vs → place + 8 * length vs ≤ length mem
    → splice (splice mem place (word_bytes (take i vs))) (place + 8 * i) (to_le 8 (get_or vs i 0)) ≡ splice mem place (word_bytes (take (suc i) vs))
words_turn mem place i vs l fit =
    let before = word_bytes (take i vs) in
    let new = to_le 8 (get_or vs i 0) in
    let n : length before ≡ 8 * i = length-word_bytes (take i vs) ∙ ap (λ (k : ℕ). 8 * k) (length-take-le i vs (omega arith)) in
    let m : length new ≡ 8 = length-to_le 8 (get_or vs i 0) in
    ap (λ (k : ℕ). splice (splice mem place before) (place + k) new) (sym n)
    ∙ splice-append mem place before new (omega arith)
    ∙ ap (splice mem place)
    (ap (λ (t : List ℕ). before ++ t) (sym (word_bytes_one (get_or vs i 0)))
    ∙ sym (word_bytes-append (take i vs) (get_or vs i 0 ∷ []))
    ∙ ap word_bytes (sym (take-suc vs i 0 l)))

-- ---- reservations as numbers

pub length_reservation : (r : Option Reservation) → length (reservation_words r) ≡ 3
length_reservation None = refl
length_reservation (Some r) = refl

pub length-slot_words : (l : List (Option Reservation)) → length (slot_words l) ≡ 3 * length l
unfolding slot_words
length-slot_words [] = refl
length-slot_words (s ∷ l) = simp (length-append, length_reservation) (omega (arith, length-slot_words l))

slot_words-append : (l m : List (Option Reservation)) → slot_words (l ++ m) ≡ slot_words l ++ slot_words m
unfolding slot_words
slot_words-append [] m = refl
slot_words-append (s ∷ l) m =
    ap (λ (t : List ℕ). reservation_words s ++ t) (slot_words-append l m)
    ∙ sym (append_assoc (reservation_words s) (slot_words l) (slot_words m))

slot_words_one : (s : Option Reservation) → slot_words (s ∷ []) ≡ reservation_words s
unfolding slot_words
slot_words_one s = append-nil (reservation_words s)

pub slots_none : (mem : List ℕ) (place : ℕ) → splice mem place (word_bytes (slot_words [])) ≡ mem
unfolding slot_words
slots_none mem place = words_none mem place

-- the bytes of the first k reservations
pub length_slots : (l : List (Option Reservation)) (k : ℕ) → k ≤ length l → length (word_bytes (slot_words (take k l))) ≡ 24 * k
length_slots l k h = omega (arith, length-word_bytes (slot_words (take k l)), length-slot_words (take k l), length-take-le k l h)

-- one reservation more
pub slots_turn : (mem : List ℕ) (place k : ℕ) (l : List (Option Reservation)) (d : Option Reservation) → k < length l → place + 24 * length l ≤ length mem
    → splice (splice mem place (word_bytes (slot_words (take k l)))) (place + 24 * k) (word_bytes (reservation_words (get_or l k d)))
    ≡ splice mem place (word_bytes (slot_words (take (suc k) l)))
slots_turn mem place k l d h fit =
    let before = word_bytes (slot_words (take k l)) in
    let new = word_bytes (reservation_words (get_or l k d)) in
    let n : length before ≡ 24 * k = length_slots l k (omega arith) in
    let m : length new ≡ 24 = omega (arith, length-word_bytes (reservation_words (get_or l k d)), length_reservation (get_or l k d)) in
    ap (λ (j : ℕ). splice (splice mem place before) (place + j) new) (sym n)
    ∙ splice-append mem place before new (omega arith)
    ∙ ap (splice mem place)
    (sym (word_bytes-append (slot_words (take k l)) (reservation_words (get_or l k d)))
    ∙ ap word_bytes
    (ap (λ (t : List ℕ). slot_words (take k l) ++ t) (sym (slot_words_one (get_or l k d)))
    ∙ sym (slot_words-append (take k l) (get_or l k d ∷ []))
    ∙ ap slot_words (sym (take-suc l k d h))))

-- the first of a list of at most n elements
pub take_most : (l : List (Option Reservation)) (count n : ℕ) → length l ≡ n → take (min count n) l ≡ take count l
take_most l count n e = go (split_lt count n)
  where
    go : (count < n) ⊎ (n ≤ count) → take (min count n) l ≡ take count l
    go (inl h) = let m : min count n ≡ count = omega arith in rw m
    go (inr h) = let m : min count n ≡ n = omega arith in rw m (take_all n l (omega arith) ∙ sym (take_all count l (omega arith)))

-- ---- states

-- two states with the same parts
pub states : (s t : State) → s.count ≡ t.count → s.settings ≡ t.settings → s.x ≡ t.x → s.pc ≡ t.pc → s.res ≡ t.res → s ≡ t
states s t c g x p r =
    ap₂ (λ (a : ℕ) (b : Settings). record { count = a; settings = b; x = s.x; pc = s.pc; res = s.res }) c g
    ∙ ap₂ (λ (a b : List ℕ). record { count = t.count; settings = t.settings; x = a; pc = b; res = s.res }) x p
    ∙ ap (λ (a : List (Option Reservation)). record { count = t.count; settings = t.settings; x = t.x; pc = t.pc; res = a }) r
