use Rattle.std.proofs.Common.{◌≡◌, ◌+◌, ◌*◌, Option, None, sym, ◌∙◌, add-one, arith}
use lib.ListN.{replicate, length-replicate}
use Rattle.reserve.specs.declared.Reservation.{Reservation}
use Rattle.word.proofs.EachLaws.{each_suc}
use Rattle.layout.specs.Layout.{reservation_at}
use Rattle.layout.proofs.LayoutLaws.{each-table}
use Rattle.layout.proofs.load_reservations.Goals as goal

pub loop-k-preserved : goal.loop-k-preserved
loop-k-preserved c =
    let b = c.args.bytes.now in
    let none = replicate 8 None in
    rw (c.load_reservation.ensures, c.loop-k.invariant, add-one)
    (sym (each_suc (λ h _. reservation_at b (2120 + 24 * h)) c.loop-k.k none None (omega (arith, length-replicate {A = Option Reservation} 8 None))))

pub returns : goal.returns
returns c =
    let b = c.args.bytes.now in
    let e : c.loop-k.k ≡ 8 = omega arith in
    c.loop-k.invariant ∙ rw e (each-table (λ h. reservation_at b (2120 + 24 * h)) (replicate 8 None))
