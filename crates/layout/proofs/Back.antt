-- Bytes that a state was put over read back as that state, and what isn't written keeps its bytes. Assumes nothing.
use mathlib.Core.Path.{◌≡◌, refl, sym, ap, ◌∙◌}
use mathlib.Core.Logic.{⊎_elim}
use mathlib.Core.List.{List, [], ◌∷◌, ◌++◌}
use Prim.Native.Nat.{ℕ, zero, suc, ◌+◌, ◌*◌, ◌^◌, ◌≤◌, ◌<◌, min}
use native.Mathlib.Nat.{mod-eq_of_lt}
use native.Mathlib.Omega.{arith}
use lib.Dec.{eqb, lit<}
use lib.ListN.{length, get_or, take, drop, length-take, length-drop, get_or-append}
use lib.Seq.{length-take-le, take_at, take-append-le, drop-append-le, drop-append-add, get_or-append-add, get_or-take, ext_get_or}
use Rattle.std.specs.Prelude.{Option, None, Some}
use Rattle.word.specs.Bytes.{le, to_le, IsBytes}
use Rattle.word.specs.Memory.{part, splice}
use Rattle.word.proofs.BytesLaws.{length-to_le, le-to_le, to_le-le}
use Rattle.word.proofs.ChooseLaws.{cond_all}
use Rattle.word.proofs.MemoryLaws.{bytes_part, part_lt, length_part, length-splice, part-splice_before, part-splice_after}
use Rattle.word.proofs.WordLaws.{split_lt}
use Rattle.reserve.specs.declared.Reservation.{Reservation}
use Rattle.machine.specs.Rules.{Shaped}
use Rattle.machine.specs.declared.State.{State}
use Rattle.layout.specs.Layout.{state_size, word_at, reservation_at, settings_in, table, state_in, word_bytes, reservation_words, slot_words, state_over}
use Rattle.machine.specs.Ranged.{Fits64, Ranged}
use Rattle.layout.proofs.LayoutLaws.{states, length-table, table_at, table_all, length-word_bytes, length_reservation, length-slot_words}

-- ---- numbers

-- a range in what was written
part_in : (mem : List ℕ) (place : ℕ) (new : List ℕ) (k n : ℕ) → place + length new ≤ length mem → k + n ≤ length new
    → part (splice mem place new) (place + k) n ≡ part new k n
unfolding splice part
part_in mem place new k n fit h =
    let front : length (take place mem) ≡ place = length-take-le place mem (omega arith) in
    let rest = drop (place + length new) mem in
    let more : n ≤ length (drop k new) = rw length-drop (omega arith) in
    ap (λ (m : ℕ). take n (drop (m + k) (take place mem ++ (new ++ rest)))) (sym front)
    ∙ ap (take n) (drop-append-add (take place mem) (new ++ rest) k ∙ drop-append-le k new rest (omega arith))
    ∙ take-append-le n (drop k new) rest more

pub part_word : (vs : List ℕ) (i : ℕ) → i < length vs → part (word_bytes vs) (8 * i) 8 ≡ to_le 8 (get_or vs i 0)
unfolding part word_bytes
part_word [] i h = absurd (omega arith)
part_word (v ∷ vs) zero h = take_at (to_le 8 v) (word_bytes vs) 8 (length-to_le 8 v)
part_word (v ∷ vs) (suc i) h =
    let e : 8 * suc i ≡ length (to_le 8 v) + 8 * i = omega (arith, length-to_le 8 v) in
    ap (λ (k : ℕ). take 8 (drop k (to_le 8 v ++ word_bytes vs))) e
    ∙ ap (take 8) (drop-append-add (to_le 8 v) (word_bytes vs) (8 * i))
    ∙ part_word vs i (omega arith)

-- the number i of those written
module _ (mem : List ℕ) (place : ℕ) (vs : List ℕ) (fit : place + 8 * length vs ≤ length mem) (i : ℕ) (h : i < length vs) where
  part_of : part (splice mem place (word_bytes vs)) (place + 8 * i) 8 ≡ to_le 8 (get_or vs i 0)
  part_of =
      let n = length-word_bytes vs in
      part_in mem place (word_bytes vs) (8 * i) 8 (omega (arith, n)) (omega (arith, n)) ∙ part_word vs i h

  word_of : get_or vs i 0 < 2 ^ 64 → word_at (splice mem place (word_bytes vs)) (place + 8 * i) ≡ get_or vs i 0
  word_of small = ap le part_of ∙ le-to_le 8 (get_or vs i 0) ∙ mod-eq_of_lt small

-- ---- reservations

-- number j of the reservation k
slot_word : (l : List (Option Reservation)) (k j : ℕ) (d : Option Reservation) → k < length l → j < 3
    → get_or (slot_words l) (3 * k + j) 0 ≡ get_or (reservation_words (get_or l k d)) j 0
unfolding slot_words
slot_word [] k j d h g = absurd (omega arith)
slot_word (s ∷ l) zero j d h g =
    let e : 3 * 0 + j ≡ j = omega arith in
    ap (λ (n : ℕ). get_or (reservation_words s ++ slot_words l) n 0) e
    ∙ get_or-append (reservation_words s) (slot_words l) 0 j (omega (arith, length_reservation s))
slot_word (s ∷ l) (suc k) j d h g =
    let e : 3 * suc k + j ≡ length (reservation_words s) + (3 * k + j) = omega (arith, length_reservation s) in
    ap (λ (n : ℕ). get_or (reservation_words s ++ slot_words l) n 0) e
    ∙ get_or-append-add (reservation_words s) (slot_words l) (3 * k + j) 0
    ∙ slot_word l k j d (omega arith) g

number_small : (r : Option Reservation) → Fits64 r → (j : ℕ) → get_or (reservation_words r) j 0 < 2 ^ 64
number_small None n zero = lit< tt
number_small None n (suc zero) = lit< tt
number_small None n (suc (suc zero)) = lit< tt
number_small None n (suc (suc (suc j))) = lit< tt
number_small (Some r) n zero = lit< tt
number_small (Some r) n (suc zero) = n.0
number_small (Some r) n (suc (suc zero)) = n.1
number_small (Some r) n (suc (suc (suc j))) = lit< tt

-- a reservation is what its three numbers say
reservation_of_lem : (bytes : List ℕ) (place : ℕ) (r : Option Reservation)
    → ((j : ℕ) → j < 3 → word_at bytes (place + 8 * j) ≡ get_or (reservation_words r) j 0) → reservation_at bytes place ≡ r
unfolding reservation_at
reservation_of_lem bytes place None f =
    let e : place + 8 * 0 ≡ place = omega arith in
    let held : word_at bytes place ≡ 0 = ap (word_at bytes) (sym e) ∙ f 0 (lit< tt) in
    rw held
reservation_of_lem bytes place (Some r) f =
    let e : place + 8 * 0 ≡ place = omega arith in
    let held : word_at bytes place ≡ 1 = ap (word_at bytes) (sym e) ∙ f 0 (lit< tt) in
    let addr : word_at bytes (place + 8) ≡ r.addr = f 1 (lit< tt) in
    let width : word_at bytes (place + 16) ≡ r.width = f 2 (lit< tt) in
    rw (held, addr, width)

reservation_same : (bytes other : List ℕ) (place : ℕ) → ((j : ℕ) → j < 3 → part bytes (place + 8 * j) 8 ≡ part other (place + 8 * j) 8)
    → reservation_at bytes place ≡ reservation_at other place
unfolding reservation_at
reservation_same bytes other place f =
    let e : place + 8 * 0 ≡ place = omega arith in
    let held : part bytes place 8 ≡ part other place 8 =
    ap (λ (k : ℕ). part bytes k 8) (sym e) ∙ f 0 (lit< tt) ∙ ap (λ (k : ℕ). part other k 8) e in
    let addr : part bytes (place + 8) 8 ≡ part other (place + 8) 8 = f 1 (lit< tt) in
    let width : part bytes (place + 16) 8 ≡ part other (place + 16) 8 = f 2 (lit< tt) in
    rw (held, addr, width)

-- ---- what the bytes mean, number by number

module _ (bytes : List ℕ) where
  pub count_in : (state_in bytes).count ≡ word_at bytes 0
  unfolding state_in
  count_in = refl

  pub settings_in_lem : (state_in bytes).settings ≡ settings_in bytes
  unfolding state_in
  settings_in_lem = refl

  pub register_in : (i : ℕ) → i < 256 → get_or (state_in bytes).x i 0 ≡ word_at bytes (8 + 8 * i)
  unfolding state_in
  register_in i h = table_at (λ k. word_at bytes (8 + 8 * k)) 256 i 0 h

  pub pc_in : (h : ℕ) → h < 8 → get_or (state_in bytes).pc h 0 ≡ word_at bytes (2056 + 8 * h)
  unfolding state_in
  pc_in h l = table_at (λ k. word_at bytes (2056 + 8 * k)) 8 h 0 l

  pub reservation_in_lem : (h : ℕ) → h < 8 → (get_or (state_in bytes).res h None) ≡ reservation_at bytes (2120 + 24 * h)
  unfolding state_in
  reservation_in_lem h l = table_at (λ k. reservation_at bytes (2120 + 24 * k)) 8 h None l

  pub shaped_in : Shaped (state_in bytes)
  unfolding state_in
  shaped_in = record {
    registers = length-table (λ k. word_at bytes (8 + 8 * k)) 256;
    pcs = length-table (λ k. word_at bytes (2056 + 8 * k)) 8;
    reservations = length-table (λ k. reservation_at bytes (2120 + 24 * k)) 8;
  }

  module _ (isBytes : IsBytes bytes) where
    word_small : (place : ℕ) → word_at bytes place < 2 ^ 64
    word_small place = part_lt bytes place 8 isBytes

    reservation_small : (place : ℕ) → Fits64 (reservation_at bytes place)
    unfolding reservation_at
    reservation_small place = cond_all Fits64 (eqb (word_at bytes place) 0) None _ tt (word_small (place + 8), word_small (place + 16))

    -- what any bytes mean is a state
    pub ranged_in : Ranged (state_in bytes)
    unfolding state_in
    ranged_in = record {
      shaped = shaped_in;
      registers = table_all (λ (v : ℕ). v < 2 ^ 64) (λ k. word_at bytes (8 + 8 * k)) 256 0 (lit< tt) (λ k. word_small (8 + 8 * k));
      pcs = table_all (λ (v : ℕ). v < 2 ^ 64) (λ k. word_at bytes (2056 + 8 * k)) 8 0 (lit< tt) (λ k. word_small (2056 + 8 * k));
      reservations = table_all (λ (q : Option Reservation). Fits64 q) (λ k. reservation_at bytes (2120 + 24 * k)) 8 None tt
          (λ k. reservation_small (2120 + 24 * k));
    }

-- ---- what stands where in bytes that a state was put over

-- the bytes after the registers, and after the pcs too
abbrev one : List ℕ → State → List ℕ
one bytes s = splice bytes 8 (word_bytes s.x)

abbrev two : List ℕ → State → List ℕ
two bytes s = splice (one bytes s) 2056 (word_bytes s.pc)

abbrev slot_bytes : State → List ℕ
slot_bytes s = word_bytes (slot_words (take s.count s.res))

module _ (bytes : List ℕ) (whole : length bytes ≡ state_size) (s : State) (shaped : Shaped s) where
  size_x : length (word_bytes s.x) ≡ 2048
  size_x = omega (arith, length-word_bytes s.x, shaped.registers)

  size_pc : length (word_bytes s.pc) ≡ 64
  size_pc = omega (arith, length-word_bytes s.pc, shaped.pcs)

  many : length (take s.count s.res) ≡ min s.count 8
  many = length-take s.count s.res ∙ ap (min s.count) shaped.reservations

  size_slots : length (slot_bytes s) ≡ 24 * min s.count 8
  size_slots = omega (arith, length-word_bytes (slot_words (take s.count s.res)), length-slot_words (take s.count s.res), many)

  length_one : length (one bytes s) ≡ length bytes
  length_one = length-splice bytes 8 (word_bytes s.x) (omega (arith, size_x))

  length_two : length (two bytes s) ≡ length bytes
  length_two = length-splice (one bytes s) 2056 (word_bytes s.pc) (omega (arith, size_pc, length_one)) ∙ length_one

  -- the range before the reservations, and that before the pcs
  before_slots : (b n : ℕ) → b + n ≤ 2120 → part (state_over bytes s) b n ≡ part (two bytes s) b n
  unfolding state_over
  before_slots b n h = part-splice_before (two bytes s) 2120 (slot_bytes s) (omega (arith, size_slots, length_two)) b n h

  before_pcs : (b n : ℕ) → b + n ≤ 2056 → part (state_over bytes s) b n ≡ part (one bytes s) b n
  before_pcs b n h =
      before_slots b n (omega arith)
      ∙ part-splice_before (one bytes s) 2056 (word_bytes s.pc) (omega (arith, size_pc, length_one)) b n h

  -- the count keeps its bytes
  pub count_kept : part (state_over bytes s) 0 8 ≡ part bytes 0 8
  count_kept =
      before_pcs 0 8 (omega arith) ∙ part-splice_before bytes 8 (word_bytes s.x) (omega (arith, size_x)) 0 8 (omega arith)

  -- register i % 32 of hart i / 32
  pub register_put : (i : ℕ) → i < 256 → part (state_over bytes s) (8 + 8 * i) 8 ≡ to_le 8 (get_or s.x i 0)
  register_put i h =
      before_pcs (8 + 8 * i) 8 (omega arith)
      ∙ part_of bytes 8 s.x (omega (arith, shaped.registers)) i (omega (arith, shaped.registers))

  pub pc_put : (h : ℕ) → h < 8 → part (state_over bytes s) (2056 + 8 * h) 8 ≡ to_le 8 (get_or s.pc h 0)
  pc_put h l =
      before_slots (2056 + 8 * h) 8 (omega arith)
      ∙ part_of (one bytes s) 2056 s.pc (omega (arith, shaped.pcs, length_one)) h (omega (arith, shaped.pcs))

  -- number j of a used hart's reservation
  pub reservation_put : (h j : ℕ) → h < s.count → h < 8 → j < 3
      → part (state_over bytes s) (2120 + 24 * h + 8 * j) 8 ≡ to_le 8 (get_or (reservation_words (get_or s.res h None)) j 0)
  unfolding state_over
  reservation_put h j u l k =
      let words = slot_words (take s.count s.res) in
      let n = length-slot_words (take s.count s.res) in
      let e : 2120 + 24 * h + 8 * j ≡ 2120 + 8 * (3 * h + j) = omega arith in
      ap (λ (b : ℕ). part (state_over bytes s) b 8) e
      ∙ part_of (two bytes s) 2120 words (omega (arith, n, many, length_two)) (3 * h + j) (omega (arith, n, many))
      ∙ ap (to_le 8)
      (slot_word (take s.count s.res) h j None (omega (arith, many)) k
      ∙ ap (λ (q : Option Reservation). get_or (reservation_words q) j 0) (get_or-take s.count s.res h None u))

  -- the range behind the reservations of used harts
  behind_used : (b n : ℕ) → 2120 + 24 * min s.count 8 ≤ b → part (state_over bytes s) b n ≡ part bytes b n
  unfolding state_over
  behind_used b n h =
      part-splice_after (two bytes s) 2120 (slot_bytes s) (omega (arith, size_slots, length_two)) b n (omega (arith, size_slots))
      ∙ part-splice_after (one bytes s) 2056 (word_bytes s.pc) (omega (arith, size_pc, length_one)) b n (omega (arith, size_pc))
      ∙ part-splice_after bytes 8 (word_bytes s.x) (omega (arith, size_x)) b n (omega (arith, size_x))

  -- the reservations of unused harts keep their bytes
  pub reservation_kept : (h k n : ℕ) → s.count ≤ h → k + n ≤ 24 → part (state_over bytes s) (2120 + 24 * h + k) n ≡ part bytes (2120 + 24 * h + k) n
  reservation_kept h k n u l = behind_used (2120 + 24 * h + k) n (omega arith)

  -- and so do the settings, which stand behind all reservations
  pub settings_kept : (b n : ℕ) → 2312 ≤ b → part (state_over bytes s) b n ≡ part bytes b n
  settings_kept b n h = behind_used b n (omega arith)

  -- so they are the same settings
  settings_same : settings_in (state_over bytes s) ≡ settings_in bytes
  settings_same =
      rw (
        settings_kept 2312 8 (omega arith),
        settings_kept 2320 8 (omega arith),
        settings_kept 2328 8 (omega arith),
        settings_kept 2336 8 (omega arith),
      )

  -- a register or a pc that has the value its bytes had keeps its bytes
  module _ (isBytes : IsBytes bytes) where
    same_bytes : (b : ℕ) → b + 8 ≤ length bytes → to_le 8 (word_at bytes b) ≡ part bytes b 8
    unfolding part
    same_bytes b h =
        ap (λ (n : ℕ). to_le n (word_at bytes b)) (sym (length_part bytes b 8 (omega arith))) ∙ to_le-le (part bytes b 8) (bytes_part bytes b 8 isBytes)

    pub register_kept : (i : ℕ) → i < 256 → get_or s.x i 0 ≡ word_at bytes (8 + 8 * i) → part (state_over bytes s) (8 + 8 * i) 8 ≡ part bytes (8 + 8 * i) 8
    register_kept i h e = register_put i h ∙ ap (to_le 8) e ∙ same_bytes (8 + 8 * i) (omega arith)

    pub pc_kept : (h : ℕ) → h < 8 → get_or s.pc h 0 ≡ word_at bytes (2056 + 8 * h) → part (state_over bytes s) (2056 + 8 * h) 8 ≡ part bytes (2056 + 8 * h) 8
    pc_kept h l e = pc_put h l ∙ ap (to_le 8) e ∙ same_bytes (2056 + 8 * h) (omega arith)

-- ---- reading back

-- a number of 64 bits is what its 8 bytes say
word_back : (v : ℕ) → v < 2 ^ 64 → le (to_le 8 v) ≡ v
word_back v h = le-to_le 8 v ∙ mod-eq_of_lt h

module _ (bytes : List ℕ) (whole : length bytes ≡ state_size) (s : State) (ranged : Ranged s)
    (count : word_at bytes 0 ≡ s.count) (settings : settings_in bytes ≡ s.settings) where
  used_back : (h : ℕ) → h < s.count → h < 8
      → reservation_at (state_over bytes s) (2120 + 24 * h) ≡ (get_or s.res h None)
  used_back h u l =
      reservation_of_lem (state_over bytes s) (2120 + 24 * h) (get_or s.res h None)
      (λ j k. ap le (reservation_put bytes whole s ranged.shaped h j u l k)
      ∙ word_back _ (number_small (get_or s.res h None) (ranged.reservations h) j))

  unused_back : (h : ℕ) → s.count ≤ h → reservation_at (state_over bytes s) (2120 + 24 * h) ≡ reservation_at bytes (2120 + 24 * h)
  unused_back h u =
      reservation_same (state_over bytes s) bytes (2120 + 24 * h)
      (λ j k. reservation_kept bytes whole s ranged.shaped h (8 * j) 8 u (omega arith))

  slot_back : (h : ℕ) → h < 8
      → ((k : ℕ) → s.count ≤ k → k < 8 → (get_or s.res k None) ≡ reservation_at bytes (2120 + 24 * k))
      → reservation_at (state_over bytes s) (2120 + 24 * h) ≡ (get_or s.res h None)
  slot_back h l unused = ⊎_elim (λ (u : h < s.count). used_back h u l) (λ (u : s.count ≤ h). unused_back h u ∙ sym (unused h u l)) (split_lt h s.count)

  -- Bytes that a state of their count and settings was put over read back as that state, if the reservations of its unused harts are those of the bytes.
  pub read_back : ((k : ℕ) → s.count ≤ k → k < 8 → (get_or s.res k None) ≡ reservation_at bytes (2120 + 24 * k))
      → state_in (state_over bytes s) ≡ s
  unfolding state_in
  read_back unused =
      let over = state_over bytes s in
      let shaped = ranged.shaped in
      let x : ℕ → ℕ = λ i. word_at over (8 + 8 * i) in
      let pc : ℕ → ℕ = λ h. word_at over (2056 + 8 * h) in
      let res : ℕ → Option Reservation = λ h. reservation_at over (2120 + 24 * h) in
      states (state_in over) s
      (ap le (count_kept bytes whole s shaped) ∙ count)
      (settings_same bytes whole s shaped ∙ settings)
      (ext_get_or 0 (table x 256) s.x (length-table x 256 ∙ sym shaped.registers)
      (λ i h.
      let l : i < 256 = omega (arith, length-table x 256) in
      table_at x 256 i 0 l ∙ ap le (register_put bytes whole s shaped i l) ∙ word_back (get_or s.x i 0) (ranged.registers i)))
      (ext_get_or 0 (table pc 8) s.pc (length-table pc 8 ∙ sym shaped.pcs)
      (λ i h.
      let l : i < 8 = omega (arith, length-table pc 8) in
      table_at pc 8 i 0 l ∙ ap le (pc_put bytes whole s shaped i l) ∙ word_back (get_or s.pc i 0) (ranged.pcs i)))
      (ext_get_or None (table res 8) s.res (length-table res 8 ∙ sym shaped.reservations)
      (λ i h.
      let l : i < 8 = omega (arith, length-table res 8) in
      table_at res 8 i None l ∙ slot_back i l unused))
