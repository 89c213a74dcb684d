-- The operations of the integer registers on two numbers of k bits, in the order of the manual's table of OP.
-- RULES 4.1.4.
use Rattle.std.specs.Prelude.{ℕ, ◌+◌, ◌-◌, ◌*◌, ◌/◌, ◌%◌, ◌^◌, cond, bit_and, bit_or, bit_xor, int_lt, nat_lt}
use Rattle.std.specs.Int.Signed.{shr_z}
use Rattle.word.specs.Word.{to_int, of_int}
use Rattle.isa.specs.declared.AluOp.{AluOp}
use Rattle.isa.specs.declared.AluOp.TheVariants.{Add, Sub, Sll, Slt, Sltu, Xor, Srl, Sra, Or, And}

-- 01: "the published RISC-V unprivileged manual for RV64I". A shift goes by b modulo k, which is the 5 lowest bits of b at 32 bits and the 6
-- lowest at 64; shr_z rounds down.
unfoldable pub alu_of : AluOp → ℕ → ℕ → ℕ → ℕ
alu_of Add k a b = (a + b) % 2 ^ k
alu_of Sub k a b = (a + (2 ^ k - b)) % 2 ^ k
alu_of Sll k a b = (a * 2 ^ (b % k)) % 2 ^ k
alu_of Slt k a b = cond (int_lt (to_int k a) (to_int k b)) 1 0
alu_of Sltu k a b = cond (nat_lt a b) 1 0
alu_of Xor k a b = bit_xor a b
alu_of Srl k a b = a / 2 ^ (b % k)
alu_of Sra k a b = of_int k (shr_z (to_int k a) (2 ^ (b % k)))
alu_of Or k a b = bit_or a b
alu_of And k a b = bit_and a b
