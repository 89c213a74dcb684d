use Rattle.std.proofs.Common.{◌≡◌, Option, None, replicate, sym, ◌∙◌, add-one, arith}
use lib.ListN.{length-replicate}
use Rattle.word.proofs.EachLaws.{each_suc}
use Rattle.reserve.specs.declared.Reservation.{Reservation}
use Rattle.event_table.specs.Build.{reservation_at, reservations_of}
use Rattle.event_table.proofs.build.reservations.Goals as goal

pub loop-h-preserved : goal.loop-h-preserved
loop-h-preserved c =
    let a = c.args in
    let l = c.loop-h in
    let eight = length-replicate {A = Option Reservation} 8 None in
    rw (c.reservation.ensures, l.invariant, add-one l.h) (sym (each_suc (λ h _. reservation_at a.count a.x.now h) l.h (replicate 8 None) None (omega (arith, eight))))

pub returns : goal.returns
unfolding reservations_of
returns c =
    let e : c.loop-h.h ≡ 8 = omega arith in
    c.loop-h.invariant ∙ rw e
