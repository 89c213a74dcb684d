-- The fields of a word, and its immediates as 64-bit numbers: the manual's "RISC-V base instruction formats" and "Types of immediate
-- produced by RISC-V instructions".
-- RULES 4.1.2.
use Rattle.std.specs.Prelude.{ℕ, suc, ◌+◌, ◌-◌, ◌*◌, ◌/◌, ◌%◌, ◌^◌}
use Rattle.word.specs.Word.{sign_extend}

-- bits high to low of w, both included
abbrev pub bits : ℕ → ℕ → ℕ → ℕ
bits high low w = w / 2 ^ low % 2 ^ (suc high - low)

abbrev pub rd_of : ℕ → ℕ
rd_of w = bits 11 7 w

abbrev pub rs1_of : ℕ → ℕ
rs1_of w = bits 19 15 w

abbrev pub rs2_of : ℕ → ℕ
rs2_of w = bits 24 20 w

abbrev pub funct3_of : ℕ → ℕ
funct3_of w = bits 14 12 w

-- of an atomic instruction
abbrev pub funct5_of : ℕ → ℕ
funct5_of w = bits 31 27 w

-- of a shift by an immediate of 6 bits
abbrev pub funct6_of : ℕ → ℕ
funct6_of w = bits 31 26 w

abbrev pub funct7_of : ℕ → ℕ
funct7_of w = bits 31 25 w

abbrev pub imm_i : ℕ → ℕ
imm_i w = sign_extend 64 12 (bits 31 20 w)

abbrev pub imm_s : ℕ → ℕ
imm_s w = sign_extend 64 12 (bits 31 25 w * 2 ^ 5 + bits 11 7 w)

-- the offset of a branch but for its sign bit; bit 0 is 0
abbrev pub low_b : ℕ → ℕ
low_b w = bits 7 7 w * 2 ^ 11 + bits 30 25 w * 2 ^ 5 + bits 11 8 w * 2

abbrev pub imm_b : ℕ → ℕ
imm_b w = sign_extend 64 13 (bits 31 31 w * 2 ^ 12 + low_b w)

abbrev pub imm_u : ℕ → ℕ
imm_u w = sign_extend 64 32 (bits 31 12 w * 2 ^ 12)

-- the offset of a JAL but for its sign bit; bit 0 is 0
abbrev pub low_j : ℕ → ℕ
low_j w = bits 19 12 w * 2 ^ 12 + bits 20 20 w * 2 ^ 11 + bits 30 21 w * 2

abbrev pub imm_j : ℕ → ℕ
imm_j w = sign_extend 64 21 (bits 31 31 w * 2 ^ 20 + low_j w)
