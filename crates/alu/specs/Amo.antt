-- What the nine atomic operations leave in memory, of an old value and an operand of k bits.
-- RULES 4.7.
use Rattle.std.specs.Prelude.{ℕ, ◌+◌, ◌%◌, ◌^◌, min, max, cond, bit_and, bit_or, bit_xor, int_lt}
use Rattle.word.specs.Word.{to_int}
use Rattle.isa.specs.declared.AmoOp.{AmoOp}
use Rattle.isa.specs.declared.AmoOp.TheVariants.{Swap, Add, Xor, And, Or, Min, Max, Minu, Maxu}

-- 01: "AMOMIN and AMOMAX compare as signed numbers of their width"
unfoldable pub min_of : ℕ → ℕ → ℕ → ℕ
min_of k a b = cond (int_lt (to_int k a) (to_int k b)) a b

unfoldable pub max_of : ℕ → ℕ → ℕ → ℕ
max_of k a b = cond (int_lt (to_int k a) (to_int k b)) b a

-- 01: "memory gets the operation on old value and rs2", "AMOMINU and AMOMAXU as unsigned", "Add is modulo 2 to the width"; the order is that
-- of the manual's table of AMO
unfoldable pub amo_of : AmoOp → ℕ → ℕ → ℕ → ℕ
amo_of Swap k old operand = operand
amo_of Add k old operand = (old + operand) % 2 ^ k
amo_of Xor k old operand = bit_xor old operand
amo_of And k old operand = bit_and old operand
amo_of Or k old operand = bit_or old operand
amo_of Min k old operand = min_of k old operand
amo_of Max k old operand = max_of k old operand
amo_of Minu k old operand = min old operand
amo_of Maxu k old operand = max old operand
