-- The numbers of a replay's answer (01: "If the answer is an enum, a definition provides this paper's number and values for each of its cases").
use Rattle.std.specs.Prelude.{ℕ, ◌+◌}
use Rattle.rows.specs.declared.Stop.{Stop}
use Rattle.rows.specs.declared.Stop.TheVariants.{Agreed, Form, Pc, Word, Trap, Rd, Value, Refused}

-- why a replay ended, as a number (02 [1]: "Give the row's number, from 0, and the reason: .. else say all rows agreed")
abbrev pub stop_code : Stop → ℕ
stop_code Agreed = 0
stop_code Form = 1
stop_code (Pc board model) = 2
stop_code (Word board model) = 3
stop_code (Rd board model) = 4
stop_code (Value board model) = 5
stop_code (Trap cause value) = 256 + cause
stop_code (Refused r) = 512 + r.number

-- "the field and both values for a difference": the board's value, 0 where there is none
abbrev pub board_of : Stop → ℕ
board_of Agreed = 0
board_of Form = 0
board_of (Pc board model) = board
board_of (Word board model) = board
board_of (Rd board model) = board
board_of (Value board model) = board
board_of (Trap cause value) = 0
board_of (Refused r) = 0

-- and the model's; "cause and value for a trap": of a trap, its value
abbrev pub model_of : Stop → ℕ
model_of Agreed = 0
model_of Form = 0
model_of (Pc board model) = model
model_of (Word board model) = model
model_of (Rd board model) = model
model_of (Value board model) = model
model_of (Trap cause value) = value
model_of (Refused r) = 0
