use Prim.Native.Nat.{◌-◌, ◌^◌}
use native.Mathlib.Omega.{arith}
use lib.Signed.{shr_z, mag_shr}
use mir.Syntax.{w64}
use mir.Val.{SFits}
use mir.Facts.{to_z-of_z}
use Rattle.word.proofs.CodeLaws.{from_top}
use Rattle.word.proofs.num.to_signed.Goals as goal

pub returns : goal.returns
returns c =
    let z = c.cast_signed.result in
    let m = 2 ^ (64 - c.args.bits) in
    let fits : SFits w64 z = record { sfits = c.cast_signed.type_inv } in
    let down : SFits w64 (shr_z z m) = record { sfits = omega (arith, c.cast_signed.type_inv, mag_shr z m) } in
    rw (to_z-of_z fits, to_z-of_z down, c.cast_signed.ensures)
    (from_top c.args.bits c.args.v c.requires.bits_nonzero.0 c.requires.bits_nonzero.1 c.requires.v_bound)
