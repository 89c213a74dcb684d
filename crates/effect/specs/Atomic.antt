-- LR, SC, AMO and AMOCAS, at a register width of xlen bits and with the setting misaligned. 02 [11]: "0 where a misaligned LR, SC or AMO gives 4 and 6, 1
-- where it gives, as 000 permits, 5 and 7"
-- RULES: `exec_lr` 4.5, `exec_sc` 4.6 and 3.2, `exec_amo` 4.7, `swapped`, `pair_writes`, `exec_cas`, `exec_cas_pair` 4.8.
use Rattle.std.specs.Prelude.{ℕ, ◌+◌, ◌/◌, ◌%◌, ◌^◌, Bool, cond, List, length, eqb}
use Rattle.word.specs.Word.{low, sign_extend}
use Rattle.word.specs.Bytes.{to_le}
use Rattle.settings.specs.Settings.{lr_cause, amo_cause}
use Rattle.isa.specs.Width.{bits_of, bytes_of, pair_bytes}
use Rattle.isa.specs.declared.Width.{Width}
use Rattle.isa.specs.declared.AmoOp.{AmoOp}
use Rattle.alu.specs.Amo.{amo_of}
use Rattle.effect.specs.Effect.{Exec, effect, Writes, none, one, pair, Access, nothing, reserve, store, sc_stored, sc_failed, next_pc}
use Rattle.effect.specs.Memory.{checked, value_at}

-- 01: "compares .., writes rs2 if equal"; "Unequal: no write": n bytes at a
abbrev pub swapped : ℕ → ℕ → ℕ → ℕ → ℕ → Access
swapped a n old want new = cond (eqb old want) (store a (to_le n new)) nothing

-- 01: "a pair that starts at x0 .. isn't written"; w is the width of each half
abbrev pub pair_writes : Width → ℕ → ℕ → Writes
pair_writes w rd v =
    cond (eqb (rd % 32) 0) none (pair (rd % 32) (low (bits_of w) v) (rd % 32 + 1) (low (bits_of w) (v / 2 ^ bits_of w)))

module _ (xlen misaligned : ℕ) where
  -- 01: "LR: loads, sign-extends W, replaces this hart's reservation."
  unfoldable pub exec_lr : Width → ℕ → ℕ → ℕ → ℕ → List ℕ → Exec
  exec_lr w rd a pc base mem =
      checked (lr_cause misaligned) 5 a (bytes_of w) base (length mem)
      (effect (one rd (sign_extend xlen (bits_of w) (value_at base mem a (bytes_of w)))) (next_pc xlen pc) (reserve a (bytes_of w)))

  -- 02 [2]: "After alignment, an SC whose bytes aren't wholly in memory is now cause 7, value the address": checked as a store is. Then 01: it
  -- "succeeds if this hart holds a reservation whose set contains all its bytes .. Success writes memory and puts 0 in rd; failure puts 1 in rd and
  -- writes nothing." covered says whether the set of the hart's reservation contains the n bytes at an address
  unfoldable pub exec_sc : Width → ℕ → ℕ → ℕ → ℕ → ℕ → List ℕ → (ℕ → ℕ → Bool) → Exec
  exec_sc w rd a v pc base mem covered =
      checked (amo_cause misaligned) 7 a (bytes_of w) base (length mem)
      (cond (covered a (bytes_of w))
      (effect (one rd 0) (next_pc xlen pc) (sc_stored a (to_le (bytes_of w) v)))
      (effect (one rd 1) (next_pc xlen pc) sc_failed))

  -- 01: "AMO: rd gets the old value (W sign-extended); memory gets the operation on old value and rs2. W ignores the upper half of rs2."
  unfoldable pub exec_amo : AmoOp → Width → ℕ → ℕ → ℕ → ℕ → ℕ → List ℕ → Exec
  exec_amo op w rd a v pc base mem =
      checked (amo_cause misaligned) 7 a (bytes_of w) base (length mem)
      (effect (one rd (sign_extend xlen (bits_of w) (value_at base mem a (bytes_of w)))) (next_pc xlen pc)
      (store a (to_le (bytes_of w) (amo_of op (bits_of w) (value_at base mem a (bytes_of w)) (low (bits_of w) v)))))

  -- 01: "AMOCAS: compares with rd (W: its low half), writes rs2 if equal, then rd gets the old value (W sign-extended)."
  unfoldable pub exec_cas : Width → ℕ → ℕ → ℕ → ℕ → ℕ → ℕ → List ℕ → Exec
  exec_cas w rd a want new pc base mem =
      checked (amo_cause misaligned) 7 a (bytes_of w) base (length mem)
      (effect (one rd (sign_extend xlen (bits_of w) (value_at base mem a (bytes_of w)))) (next_pc xlen pc)
      (swapped a (bytes_of w) (value_at base mem a (bytes_of w)) (low (bits_of w) want) new))

  -- AMOCAS.Q: want and new are numbers of 128 bits. 02 [10]: "AMOCAS.D on even pairs by 001's rules": where a register has 32 bits, of 64
  unfoldable pub exec_cas_pair : Width → ℕ → ℕ → ℕ → ℕ → ℕ → ℕ → List ℕ → Exec
  exec_cas_pair w rd a want new pc base mem =
      checked (amo_cause misaligned) 7 a (pair_bytes w) base (length mem)
      (effect (pair_writes w rd (value_at base mem a (pair_bytes w))) (next_pc xlen pc)
      (swapped a (pair_bytes w) (value_at base mem a (pair_bytes w)) want new))
