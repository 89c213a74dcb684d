-- The decoder by both tables decodes as `decode_of` does, class by class. Assumes nothing.
use Rattle.std.proofs.Common.{◌≡◌, ℕ, ◌*◌, ◌/◌, ◌%◌, ◌<◌, Bool, true, false, cond, ◌&&◌, not, List, get_or, sym, refl, ap, ◌∙◌, Option, Some, None, arith}
use mathlib.Core.List.{map, [], ◌∷◌}
use lib.Dec.{eqb}
use Rattle.std.specs.List.{range_with_len}
use Rattle.std.proofs.lemmas.List.FromFn.{get_or-map-range_with_len}
use Rattle.word.specs.Choose.{Row, ◌⇒◌, select}
use Rattle.word.proofs.ChooseLaws.{select_all, select_rows, select_keyed, select_marked, select_unlisted, ◌also◌}
use Rattle.isa.specs.Fields.{bits, rd_of, rs1_of, rs2_of, funct3_of, funct5_of, funct6_of, funct7_of, imm_i}
use Rattle.isa.specs.Decode as D
use Rattle.isa.specs.Decode.{key, same}
use Rattle.isa.specs.Tables.{one, two, op_imm_entries, op_imm32_entries, op_entries, op32_entries, entry, opcode_at}
use Rattle.isa.specs.Tables.{sized_entry, cas_entry, atomic_entries, atomic_at}
use Rattle.isa.specs.Tables.{by_funct7, if_some, atomic_by, atomic_in, decide_of, by_tables}
use Rattle.isa.specs.declared.class.Class.{Class}
use Rattle.isa.specs.declared.class.Class.TheVariants as C
use Rattle.isa.specs.declared.tables.Entry.{Entry}
use Rattle.isa.specs.declared.tables.Entry.TheVariants as E
use Rattle.isa.specs.declared.AluOp.{AluOp}
use Rattle.isa.specs.declared.AluOp.TheVariants.{Add, Sll, Srl, Sra}
use Rattle.isa.specs.declared.AmoOp.{AmoOp}
use Rattle.isa.specs.declared.AmoOp.TheVariants as A
use Rattle.isa.specs.declared.AtomicOp.{AtomicOp}
use Rattle.isa.specs.declared.AtomicOp.TheVariants.{Lr, Sc, Cas, CasPair, Rmw}
use Rattle.isa.specs.declared.Width.{Width}
use Rattle.isa.specs.declared.Width.TheVariants.{Double}
use Rattle.isa.specs.declared.Instr.{Instr}
use Rattle.isa.specs.declared.Instr.TheVariants.{Illegal, Jalr, OpImm32, Fence}

-- two functions that are alike below n, by one computation
alike : {A : Type 0} (f g : ℕ → A) (n : ℕ) → map f (range_with_len 0 n) ≡ map g (range_with_len 0 n) → (k : ℕ) → k < n → f k ≡ g k
alike {A} f g n e k h =
    sym (get_or-map-range_with_len f 0 n k k (f k) h (omega arith)) ∙ ap (λ (xs : List A). get_or xs k (f k)) e
    ∙ get_or-map-range_with_len g 0 n k k (f k) h (omega arith)

-- ---- funct7 and funct6: the operation of a key is that of its entry with funct7, by one computation over all keys of each of `ops`, `ops32`, `shifts` and
-- `shifts32`

-- the operation of an entry at a funct7
abbrev found : Entry → ℕ → Option AluOp
found E.Illegal f7 = None
found (E.Load op) f7 = None
found E.Fence f7 = None
found (E.OpImm op) f7 = None
found (E.Shift op other) f7 = by_funct7 op other f7
found E.Auipc f7 = None
found E.AddImm32 f7 = None
found (E.Shift32 op other) f7 = by_funct7 op other f7
found (E.Store op) f7 = None
found E.Amo f7 = None
found (E.Op op other) f7 = by_funct7 op other f7
found E.Lui f7 = None
found (E.Op32 op other) f7 = by_funct7 op other f7
found (E.Branch op) f7 = None
found E.Jalr f7 = None
found E.Jal f7 = None
found E.System f7 = None

abbrev by_key : List (Row AluOp) → ℕ → Option AluOp
by_key rows k = select k rows Some None

abbrev by_entry : List (Row Entry) → (ℕ → ℕ) → ℕ → Option AluOp
by_entry rows funct7 k = found (select (k % 8) rows same E.Illegal) (funct7 (k / 8))

alu_law : (rows : List (Row AluOp)) (entries : List (Row Entry)) (funct7 : ℕ → ℕ) (count : ℕ)
    → map (by_key rows) (range_with_len 0 count) ≡ map (by_entry entries funct7) (range_with_len 0 count)
    → (a f : ℕ) → f < 8 → key a f < count → (make : AluOp → Instr)
    → select (key a f) rows make Illegal ≡ if_some (found (select f entries same E.Illegal) (funct7 a)) make
alu_law rows entries funct7 count t a f few most make =
    let low : key a f % 8 ≡ f = omega arith in
    let high : key a f / 8 ≡ a = omega arith in
    sym (select_marked (key a f) rows Some None (λ op. if_some op make) make Illegal (λ op. refl) refl)
    ∙ ap (λ (op : Option AluOp). if_some op make) (alike (by_key rows) (by_entry entries funct7) count t (key a f) most)
    ∙ ap (λ (m : ℕ). if_some (found (select m entries same E.Illegal) (funct7 (key a f / 8))) make) low
    ∙ ap (λ (m : ℕ). if_some (found (select f entries same E.Illegal) (funct7 m)) make) high

-- the entries of shifts alone
abbrev shift_entries : List (Row Entry)
shift_entries = 1 ⇒ one E.Shift Sll ∷ 5 ⇒ two E.Shift Srl Sra ∷ []

abbrev shift32_entries : List (Row Entry)
shift32_entries = 1 ⇒ one E.Shift32 Sll ∷ 5 ⇒ two E.Shift32 Srl Sra ∷ []

module _ (w : ℕ) where
  -- the decision by a class's entry at the word's funct3
  abbrev by : List (Row Entry) → Instr
  by rows = decide_of (select (funct3_of w) rows same E.Illegal) w

  op_law : D.op_of w ≡ by op_entries
  unfolding D.op_of decide_of
  op_law =
      alu_law D.ops op_entries (λ a. a) 1024 refl (funct7_of w) (funct3_of w) (omega arith) (omega arith) (D.op_as w)
      ∙ select_rows (λ e. if_some (found e (funct7_of w)) (D.op_as w) ≡ decide_of e w) (funct3_of w) op_entries same E.Illegal
      (refl also refl also refl also refl also refl also refl also refl also refl also tt) refl

  op_32_law : D.op32_of w ≡ by op32_entries
  unfolding D.op32_of decide_of
  op_32_law =
      alu_law D.ops32 op32_entries (λ a. a) 1024 refl (funct7_of w) (funct3_of w) (omega arith) (omega arith) (D.op32_as w)
      ∙ select_rows (λ e. if_some (found e (funct7_of w)) (D.op32_as w) ≡ decide_of e w) (funct3_of w) op32_entries same E.Illegal
      (refl also refl also refl also tt) refl

  shift_32_law : D.shift32_of w ≡ by shift32_entries
  unfolding D.shift32_of decide_of
  shift_32_law =
      alu_law D.shifts32 shift32_entries (λ a. a) 1024 refl (funct7_of w) (funct3_of w) (omega arith) (omega arith) (D.shift32_as w)
      ∙ select_rows (λ e. if_some (found e (funct7_of w)) (D.shift32_as w) ≡ decide_of e w) (funct3_of w) shift32_entries same E.Illegal
      (refl also refl also tt) refl

  shift_law : D.shift_of w ≡ by shift_entries
  unfolding D.shift_of decide_of
  shift_law =
      alu_law D.shifts shift_entries (λ a. a * 2) 512 refl (funct6_of w) (funct3_of w) (omega arith) (omega arith) (D.shift_as w)
      ∙ select_rows (λ e. if_some (found e (funct6_of w * 2)) (D.shift_as w) ≡ decide_of e w) (funct3_of w) shift_entries same E.Illegal
      (refl also refl also tt) refl

  op_imm_law : D.op_imm_of w ≡ by op_imm_entries
  unfolding D.op_imm_of decide_of
  op_imm_law =
      select_keyed (λ i. i ≡ by op_imm_entries) (funct3_of w) D.op_imms (D.of w) Illegal
      ((λ e. ap at (sym e))
      also (λ e. shift_law ∙ ap shifted e ∙ ap at (sym e))
      also (λ e. ap at (sym e))
      also (λ e. ap at (sym e))
      also (λ e. ap at (sym e))
      also (λ e. shift_law ∙ ap shifted e ∙ ap at (sym e))
      also (λ e. ap at (sym e))
      also (λ e. ap at (sym e))
      also tt)
      (λ o. sym (ap (λ (e : Entry). decide_of e w) (select_unlisted (funct3_of w) op_imm_entries same E.Illegal o)))
    where
      at : ℕ → Instr
      at f = decide_of (select f op_imm_entries same E.Illegal) w

      shifted : ℕ → Instr
      shifted f = decide_of (select f shift_entries same E.Illegal) w

  op_imm_32_law : D.op_imm32_of w ≡ by op_imm32_entries
  unfolding D.op_imm32_of decide_of
  op_imm_32_law = go (eqb (funct3_of w) 0)
    where
      go : (t : Bool) → cond t (OpImm32 Add (rd_of w) (rs1_of w) (imm_i w)) (D.shift32_of w)
          ≡ decide_of (cond t E.AddImm32 (select (funct3_of w) shift32_entries same E.Illegal)) w
      go true = refl
      go false = shift_32_law

  -- a class that has funct3 0 alone
  at_zero : (e : Entry) (i : Instr) → decide_of e w ≡ i → cond (eqb (funct3_of w) 0) i Illegal ≡ decide_of (cond (eqb (funct3_of w) 0) e E.Illegal) w
  unfolding decide_of
  at_zero e i here = go (eqb (funct3_of w) 0)
    where
      go : (t : Bool) → cond t i Illegal ≡ decide_of (cond t e E.Illegal) w
      go true = sym here
      go false = refl

  -- ---- the second table

  sized_law : (op : AtomicOp) → ((width : Width) → atomic_by (Some (op, width)) w ≡ D.atomic_as w op width)
      → D.sized_of op w ≡ atomic_by (sized_entry op (funct3_of w)) w
  unfolding D.sized_of
  sized_law op each =
      sym (select_marked (funct3_of w) D.widths (λ width. Some (op, width)) None (λ e. atomic_by e w) (D.atomic_as w op) Illegal each refl)

  lr_law : D.lr_of w ≡ atomic_by (sized_entry Lr (funct3_of w)) w
  unfolding D.lr_of
  lr_law = go (eqb (rs2_of w) 0) refl
    where
      go : (t : Bool) → eqb (rs2_of w) 0 ≡ t → cond t (D.sized_of Lr w) Illegal ≡ atomic_by (sized_entry Lr (funct3_of w)) w
      go true e = sized_law Lr (λ width. rw e)
      go false e = select_all (λ m. Illegal ≡ atomic_by m w) (funct3_of w) D.widths (λ width. Some (Lr, width)) None (λ width. rw e) refl

  pair_law : D.cas_pair_of w ≡ atomic_by (Some (CasPair, Double)) w
  unfolding D.cas_pair_of
  pair_law = go (D.is_even (rd_of w) && D.is_even (rs2_of w))
    where
      go : (t : Bool) → cond t (D.atomic_as w CasPair Double) Illegal ≡ cond (not t) Illegal (D.atomic_as w CasPair Double)
      go true = refl
      go false = refl

  cas_law : D.cas_of w ≡ atomic_by (cas_entry (funct3_of w)) w
  unfolding D.cas_of
  cas_law = go (eqb (funct3_of w) 4)
    where
      go : (t : Bool) → cond t (D.cas_pair_of w) (D.sized_of Cas w) ≡ atomic_by (cond t (Some (CasPair, Double)) (sized_entry Cas (funct3_of w))) w
      go true = pair_law
      go false = sized_law Cas (λ width. refl)

  atomic_law : D.atomic_of w ≡ atomic_in w
  unfolding D.atomic_of atomic_at
  atomic_law =
      select_keyed (λ i. i ≡ at (funct5_of w)) (funct5_of w) D.atomics (D.of w) Illegal
      ((λ e. rmw A.Add ∙ ap at (sym e))
      also (λ e. rmw A.Swap ∙ ap at (sym e))
      also (λ e. lr_law ∙ ap at (sym e))
      also (λ e. sized_law Sc (λ width. refl) ∙ ap at (sym e))
      also (λ e. rmw A.Xor ∙ ap at (sym e))
      also (λ e. cas_law ∙ ap at (sym e))
      also (λ e. rmw A.Or ∙ ap at (sym e))
      also (λ e. rmw A.And ∙ ap at (sym e))
      also (λ e. rmw A.Min ∙ ap at (sym e))
      also (λ e. rmw A.Max ∙ ap at (sym e))
      also (λ e. rmw A.Minu ∙ ap at (sym e))
      also (λ e. rmw A.Maxu ∙ ap at (sym e))
      also tt)
      (λ o. sym (ap (λ (e : Option (AtomicOp × Width)). atomic_by e w) (select_unlisted (funct5_of w) atomic_entries (λ g. g (funct3_of w)) None o)))
    where
      at : ℕ → Instr
      at k = atomic_by (select k atomic_entries (λ g. g (funct3_of w)) None) w

      rmw : (op : AmoOp) → D.sized_of (Rmw op) w ≡ atomic_by (sized_entry (Rmw op) (funct3_of w)) w
      rmw op = sized_law (Rmw op) (λ width. refl)

  -- ---- the first table, class by class

  all_by : (class : Option Class) → D.in_class class w ≡ decide_of (entry class (funct3_of w)) w
  unfolding D.load_of D.store_of D.branch_of D.misc_mem_of D.jalr_of decide_of
  all_by None = refl
  all_by (Some C.Load) = sym (select_marked (funct3_of w) D.loads E.Load E.Illegal (λ e. decide_of e w) (D.load_as w) Illegal (λ op. refl) refl)
  all_by (Some C.MiscMem) = at_zero E.Fence (Fence (rd_of w) (rs1_of w) (bits 31 20 w)) refl
  all_by (Some C.OpImm) = op_imm_law
  all_by (Some C.Auipc) = refl
  all_by (Some C.OpImm32) = op_imm_32_law
  all_by (Some C.Store) = sym (select_marked (funct3_of w) D.stores E.Store E.Illegal (λ e. decide_of e w) (D.store_as w) Illegal (λ op. refl) refl)
  all_by (Some C.Amo) = atomic_law
  all_by (Some C.Op) = op_law
  all_by (Some C.Lui) = refl
  all_by (Some C.Op32) = op_32_law
  all_by (Some C.Branch) = sym (select_marked (funct3_of w) D.branches E.Branch E.Illegal (λ e. decide_of e w) (D.branch_as w) Illegal (λ op. refl) refl)
  all_by (Some C.Jalr) = at_zero E.Jalr (Jalr (rd_of w) (rs1_of w) (imm_i w)) refl
  all_by (Some C.Jal) = refl
  all_by (Some C.System) = refl

  -- the decoder by both tables is the decoder of the definition, of every word
  pub by_tables_lem : D.decode_of w ≡ by_tables w
  unfolding D.decode_of D.class_of by_tables opcode_at
  by_tables_lem = go (eqb (bits 1 0 w) 3)
    where
      go : (t : Bool) → D.in_class (cond t (D.class_at (bits 6 2 w)) None) w ≡ cond t (decide_of (opcode_at (bits 6 2 w) (funct3_of w)) w) Illegal
      go true = all_by (D.class_at (bits 6 2 w))
      go false = refl
