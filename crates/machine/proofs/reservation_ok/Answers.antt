use Rattle.std.proofs.Common.{◌≡◌, true}
use Rattle.std.specs.Prelude.{eqb}
use borrow.Author.Tests.{eqb-true}
use Rattle.machine.proofs.reservation_ok.Goals.{then-width-eq4, else-width-eq4, then-width-eq8, else-width-eq8}
use Rattle.machine.proofs.reservation_ok.Goals as goal

pub remainder-requires : goal.remainder-requires
remainder-requires c =
    let width = c.in-Some.field-0.width in
    elim c.if-width-eq8.branch [
      | then-width-eq8 w ↦
          elim c.if-width-eq4.branch [
            | then-width-eq4 u ↦ (2, u.if-width-eq4.true)
            | else-width-eq4 u ↦ let eight : eqb width 8 ≡ true = cc in (3, eqb-true width 8 eight)
          ]
      | else-width-eq8 w ↦ absurd (cc)
    ]
