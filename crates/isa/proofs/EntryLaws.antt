-- The rules of both tables at each of their entries, from one equation that is computed over all of them. Assumes nothing.
use Rattle.std.proofs.Common.{◌≡◌, ℕ, ◌<◌, List, get_or, ap, ◌∙◌, refl, ◌⊎◌, inl, inr, Option, Some, None, arith, lit<}
use mathlib.Core.List.{map}
use Rattle.std.specs.List.{range_with_len}
use Rattle.std.proofs.lemmas.List.FromFn.{get_or-map-range_with_len}
use Rattle.word.proofs.ChooseLaws.{cond_all, select_all, select_rows, ◌also◌}
use lib.Dec.{eqb}
use Rattle.isa.specs.Decode.{class_at, loads, stores, branches, same}
use Rattle.isa.specs.Tables.{op_imm_entries, op_imm32_entries, op_entries, op32_entries, entry, opcode_at, class_in, atomic_at}
use Rattle.isa.specs.declared.class.Class.{Class}
use Rattle.isa.specs.declared.class.Class.TheVariants as C
use Rattle.isa.specs.declared.tables.Entry.{Entry}
use Rattle.isa.specs.declared.tables.Entry.TheVariants as E
use Rattle.isa.specs.declared.tables.TheConstants.{OPCODE_TABLE, ATOMIC_TABLE}
use Rattle.isa.specs.declared.AtomicOp.{AtomicOp}
use Rattle.isa.specs.declared.Width.{Width}

-- the table of a rule: a row for each of 32 numbers, and in it an entry for each funct3
abbrev built : {A : Type 0} → (ℕ → ℕ → A) → List (List A)
built rule = map (λ c. map (rule c) (range_with_len 0 8)) (range_with_len 0 32)

-- every entry of both tables of the code
computed : (OPCODE_TABLE ≡ built opcode_at) × (ATOMIC_TABLE ≡ built atomic_at)
unfolding opcode_at atomic_at
computed = (refl, refl)

module _ {A : Type 0} (rule : ℕ → ℕ → A) (c f : ℕ) (row : List A) (e : A) (rows : c < 32) (few : f < 8) where
  read : get_or (get_or (built rule) c row) f e ≡ rule c f
  read =
      ap (λ (r : List A). get_or r f e) (get_or-map-range_with_len (λ c. map (rule c) (range_with_len 0 8)) 0 32 c c row rows (omega arith))
      ∙ get_or-map-range_with_len (rule c) 0 8 f f e few (omega arith)

-- the rule at each entry
pub rules : (c f : ℕ) → c < 32 → f < 8
    → ((row : List Entry) (e : Entry) → get_or (get_or OPCODE_TABLE c row) f e ≡ opcode_at c f)
    × ((row : List (Option (AtomicOp × Width))) (e : Option (AtomicOp × Width)) → get_or (get_or ATOMIC_TABLE c row) f e ≡ atomic_at c f)
rules c f rows few = (
  λ row e. ap (λ (table : List (List Entry)). get_or (get_or table c row) f e) computed.0 ∙ read opcode_at c f row e rows few,
  λ row e. ap (λ (table : List (List (Option (AtomicOp × Width)))). get_or (get_or table c row) f e) computed.1 ∙ read atomic_at c f row e rows few,
)

-- an entry is of a class, or has no instruction
abbrev Of : Option Class → Entry → Type 0
Of class e = (class_in e ≡ class) ⊎ (e ≡ E.Illegal)

refined : (class : Option Class) (f : ℕ) → Of class (entry class f)
refined None f = inl refl
refined (Some C.Load) f = select_all (Of (Some C.Load)) f loads E.Load E.Illegal (λ op. inl refl) (inr refl)
refined (Some C.MiscMem) f = cond_all (Of (Some C.MiscMem)) (eqb f 0) E.Fence E.Illegal (inl refl) (inr refl)
refined (Some C.OpImm) f =
    select_rows (Of (Some C.OpImm)) f op_imm_entries same E.Illegal
    (inl refl also inl refl also inl refl also inl refl also inl refl also inl refl also inl refl also inl refl also tt) (inr refl)
refined (Some C.Auipc) f = inl refl
refined (Some C.OpImm32) f =
    select_rows (Of (Some C.OpImm32)) f op_imm32_entries same E.Illegal (inl refl also inl refl also inl refl also tt) (inr refl)
refined (Some C.Store) f = select_all (Of (Some C.Store)) f stores E.Store E.Illegal (λ op. inl refl) (inr refl)
refined (Some C.Amo) f = inl refl
refined (Some C.Op) f =
    select_rows (Of (Some C.Op)) f op_entries same E.Illegal
    (inl refl also inl refl also inl refl also inl refl also inl refl also inl refl also inl refl also inl refl also tt) (inr refl)
refined (Some C.Lui) f = inl refl
refined (Some C.Op32) f =
    select_rows (Of (Some C.Op32)) f op32_entries same E.Illegal (inl refl also inl refl also inl refl also tt) (inr refl)
refined (Some C.Branch) f = select_all (Of (Some C.Branch)) f branches E.Branch E.Illegal (λ op. inl refl) (inr refl)
refined (Some C.Jalr) f = cond_all (Of (Some C.Jalr)) (eqb f 0) E.Jalr E.Illegal (inl refl) (inr refl)
refined (Some C.Jal) f = inl refl
refined (Some C.System) f = inl refl

-- at funct3 0 every class has an instruction
first : (class : Option Class) → class_in (entry class 0) ≡ class
first None = refl
first (Some C.Load) = refl
first (Some C.MiscMem) = refl
first (Some C.OpImm) = refl
first (Some C.Auipc) = refl
first (Some C.OpImm32) = refl
first (Some C.Store) = refl
first (Some C.Amo) = refl
first (Some C.Op) = refl
first (Some C.Lui) = refl
first (Some C.Op32) = refl
first (Some C.Branch) = refl
first (Some C.Jalr) = refl
first (Some C.Jal) = refl
first (Some C.System) = refl

module _ (c : ℕ) (rows : c < 32) (row : List Entry) (e : Entry) where
  -- the first table refines the 32 classes: an entry's class is its row's, or it has no instruction ..
  pub refine_classes : (f : ℕ) → f < 8
      → (class_in (get_or (get_or OPCODE_TABLE c row) f e) ≡ class_at c) ⊎ (get_or (get_or OPCODE_TABLE c row) f e ≡ E.Illegal)
  unfolding opcode_at
  refine_classes f few = rw ((rules c f rows few).0 row e) (refined (class_at c) _)

  -- .. and the classes are those of the entries of funct3 0
  pub classes_inside : class_in (get_or (get_or OPCODE_TABLE c row) 0 e) ≡ class_at c
  unfolding opcode_at
  classes_inside = rw ((rules c 0 rows (lit< tt)).0 row e) (first (class_at c))
