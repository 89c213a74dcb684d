-- A pair of registers as one number.
-- RULES 4.8.
use Rattle.std.specs.Prelude.{ℕ, ◌+◌, ◌*◌, ◌^◌}
use Rattle.isa.specs.Width.{bits_of}
use Rattle.isa.specs.declared.Width.{Width}
use Rattle.alu.specs.declared.swap.Pair.{Pair}

-- 01: "Q uses pairs rd, rd+1 and rs2, rs2+1": the first is the low half. w is the width of a half
abbrev pub joined : Width → Pair → ℕ
joined w p = p.low + 2 ^ bits_of w * p.high
