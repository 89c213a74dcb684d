-- Loads and stores, at a register width of xlen bits.
-- RULES: `fault_of`, `checked` 3.1; loads and stores 4.2.
use Rattle.std.specs.Prelude.{ℕ, ◌-◌, ◌%◌, cond, List, length, eqb}
use Rattle.word.specs.Word.{low, sign_extend}
use Rattle.word.specs.Bytes.{le, to_le}
use Rattle.word.specs.Memory.{part}
use Rattle.reserve.specs.Range.{inside_of}
use Rattle.isa.specs.declared.LoadOp.{LoadOp}
use Rattle.isa.specs.declared.LoadOp.TheVariants.{Lb, Lh, Lw, Ld, Lbu, Lhu, Lwu}
use Rattle.isa.specs.declared.StoreOp.{StoreOp}
use Rattle.isa.specs.declared.StoreOp.TheVariants.{Sb, Sh, Sw, Sd}
use Rattle.effect.specs.Effect.{Exec, trap, effect, none, store, next_pc, sets}

-- 01: causes 4 and 6, "address not aligned to its width", then 5 and 7, "bytes not wholly in memory": the cause of an access of n bytes at a,
-- or 0. unaligned is 4 or 6 (of an atomic access, by the setting of 02 [11], also 5 or 7), outside is 5 or 7
unfoldable pub fault_of : ℕ → ℕ → ℕ → ℕ → ℕ → ℕ → ℕ
fault_of unaligned outside a n base len = cond (eqb (a % n) 0) (cond (inside_of base len a n) 0 outside) unaligned

-- what e is, unless the access traps; the value is the address
unfoldable pub checked : ℕ → ℕ → ℕ → ℕ → ℕ → ℕ → Exec → Exec
checked unaligned outside a n base len e =
    cond (eqb (fault_of unaligned outside a n base len) 0) e (trap (fault_of unaligned outside a n base len) a)

-- the n bytes at address a, as a number
unfoldable pub value_at : ℕ → List ℕ → ℕ → ℕ → ℕ
value_at base mem a n = le (part mem (a - base) n)

abbrev pub load_bytes : LoadOp → ℕ
load_bytes Lb = 1
load_bytes Lh = 2
load_bytes Lw = 4
load_bytes Ld = 8
load_bytes Lbu = 1
load_bytes Lhu = 2
load_bytes Lwu = 4

abbrev pub store_bytes : StoreOp → ℕ
store_bytes Sb = 1
store_bytes Sh = 2
store_bytes Sw = 4
store_bytes Sd = 8

module _ (xlen : ℕ) where
  -- 01: "loads sign-extend the same way"; those of unsigned numbers have zeros above what they load; LD loads all 64 bits of a register
  abbrev pub extended : LoadOp → ℕ → ℕ
  extended Lb v = sign_extend xlen 8 v
  extended Lh v = sign_extend xlen 16 v
  extended Lw v = sign_extend xlen 32 v
  extended Ld v = low 64 v
  extended Lbu v = low 8 v
  extended Lhu v = low 16 v
  extended Lwu v = low 32 v

  unfoldable pub exec_load : LoadOp → ℕ → ℕ → ℕ → ℕ → List ℕ → Exec
  exec_load op rd a pc base mem =
      checked 4 5 a (load_bytes op) base (length mem) (sets xlen rd (extended op (value_at base mem a (load_bytes op))) pc)

  unfoldable pub exec_store : StoreOp → ℕ → ℕ → ℕ → ℕ → List ℕ → Exec
  exec_store op a v pc base mem =
      checked 6 7 a (store_bytes op) base (length mem) (effect none (next_pc xlen pc) (store a (to_le (store_bytes op) v)))
