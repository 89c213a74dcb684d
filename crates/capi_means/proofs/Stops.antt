-- No two stops of a replay have the same numbers. Assumes nothing.
use mathlib.Core.Path.{◌≡◌, refl, sym, ap, ap₂, ◌∙◌}
use mathlib.Core.Bool.{Bool, false, cond}
use Prim.Native.Nat.{ℕ, ◌+◌, ◌-◌, ◌≤◌}
use native.Mathlib.Omega.{arith}
use lib.Dec.{eqb, ltb}
use borrow.Author.Tests.{ne_eqb, lt-ltb, le-ltb}
use Rattle.rows.specs.Numbers.{stop_code, board_of, model_of}
use Rattle.rows.specs.declared.Stop.{Stop}
use Rattle.rows.specs.declared.Stop.TheVariants as S
use Rattle.capi.specs.Replay.{SmallStop}
use Rattle.capi_means.specs.Stops.{stop_in}

-- a code that no difference has
above : (code board model : ℕ) → 6 ≤ code → stop_in code board model ≡ cond (ltb code 512) (S.Trap (code - 256) model) (S.Refused (record { number = code - 512; place = 0 }))
above code board model least =
    let other : (k : ℕ) → k ≤ 5 → eqb code k ≡ false = λ k l. ne_eqb code k (λ e. omega (arith, e, l, least)) in
    simp (other 0 (omega arith), other 1 (omega arith), other 2 (omega arith), other 3 (omega arith), other 4 (omega arith), other 5 (omega arith))

-- What a caller reads from the answer and the two values is the stop of the model.
pub stop_back : (t : Stop) → SmallStop t → stop_in (stop_code t) (board_of t) (model_of t) ≡ t
stop_back S.Agreed k = refl
stop_back S.Form k = refl
stop_back (S.Pc board model) k = refl
stop_back (S.Word board model) k = refl
stop_back (S.Rd board model) k = refl
stop_back (S.Value board model) k = refl
stop_back (S.Trap cause value) k =
    let e : 256 + cause - 256 ≡ cause = omega arith in
    above (256 + cause) 0 value (omega arith)
    ∙ ap (λ (b : Bool). cond b (S.Trap (256 + cause - 256) value) (S.Refused (record { number = 256 + cause - 512; place = 0 }))) (lt-ltb (256 + cause) 512 (omega arith))
    ∙ ap (λ (n : ℕ). S.Trap n value) e
stop_back (S.Refused r) k =
    let e : 512 + r.number - 512 ≡ r.number = omega arith in
    above (512 + r.number) 0 0 (omega arith)
    ∙ ap (λ (b : Bool). cond b (S.Trap (512 + r.number - 256) 0) (S.Refused (record { number = 512 + r.number - 512; place = 0 })))
    (le-ltb (512 + r.number) 512 (omega arith))
    ∙ ap₂ (λ (n p : ℕ). S.Refused (record { number = n; place = p })) e (sym k.1)

-- So two stops with the same numbers are the same.
pub stops_apart : (t u : Stop) → SmallStop t → SmallStop u → stop_code t ≡ stop_code u → board_of t ≡ board_of u → model_of t ≡ model_of u → t ≡ u
stops_apart t u k l e f g =
    sym (stop_back t k) ∙ ap (λ (n : ℕ). stop_in n (board_of t) (model_of t)) e ∙ ap₂ (λ (b m : ℕ). stop_in (stop_code u) b m) f g ∙ stop_back u l
