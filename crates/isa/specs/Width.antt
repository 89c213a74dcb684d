-- The widths of atomic instructions: funct3 2 is W, 3 is D. Of an AMOCAS of a pair the width is that of one register: Q has D, and the D of RV32 has W.
-- RULES 4.4; `pair_bytes` 4.8.
use Rattle.std.specs.Prelude.{ℕ}
use Rattle.isa.specs.declared.Width.{Width}
use Rattle.isa.specs.declared.Width.TheVariants.{Word, Double}

abbrev pub bits_of : Width → ℕ
bits_of Word = 32
bits_of Double = 64

abbrev pub bytes_of : Width → ℕ
bytes_of Word = 4
bytes_of Double = 8

-- of a pair of such: AMOCAS.Q moves a pair of doublewords, and AMOCAS.D of RV32 one of words
abbrev pub pair_bytes : Width → ℕ
pair_bytes Word = 8
pair_bytes Double = 16
