-- What a caller reads from the numbers of a replay.
use Rattle.std.specs.Prelude.{cond, ℕ, ◌-◌, eqb, ltb}
use Rattle.rows.specs.declared.Stop.{Stop}
use Rattle.rows.specs.declared.Stop.TheVariants.{Agreed, Form, Pc, Word, Trap, Rd, Value, Refused}

-- the stop that an answer and the two values mean, as a caller reads it who knows that it is the answer to a replay of right sizes
abbrev pub stop_in : ℕ → ℕ → ℕ → Stop
stop_in code board model =
    cond (eqb code 0) Agreed
    (cond (eqb code 1) Form
    (cond (eqb code 2) (Pc board model)
    (cond (eqb code 3) (Word board model)
    (cond (eqb code 4) (Rd board model)
    (cond (eqb code 5) (Value board model)
    (cond (ltb code 512) (Trap (code - 256) model) (Refused (record { number = code - 512; place = 0 }))))))))
