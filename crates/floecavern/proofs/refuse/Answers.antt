use mathlib.Core.Path.{sym}
use native.Mathlib.Omega.{arith}
use lib.Seq.{length-take-le}
use Rattle.floecavern.proofs.refuse.Goals as goal

pub slice_bounds-write_lines-end : goal.slice_bounds-write_lines-end
slice_bounds-write_lines-end c =
    let put = c.put_refused-r in
    sym (length-take-le put.result put.new.out (omega (arith, put.ensures.upper_bound, put.auto.out)))
