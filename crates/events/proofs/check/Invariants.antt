use Rattle.std.proofs.Common.{◌≡◌, ◌*◌, ◌/◌, length, drop}
use Rattle.events.specs.Events.{first_bad, checked_of}
use Rattle.events.proofs.check.Given as goal

-- what is left to look at decides
abbrev pub invariant-loop-i : goal.invariant-loop-i
invariant-loop-i l =
    let left = l.i-iterator.iter in
    let i = l.i-iterator.count in
    (left.size ≡ 24)
    × (left.rest.now ≡ drop (24 * i) l.body)
    × (checked_of l.count l.base l.len l.body ≡ first_bad l.count l.base l.len l.body (length left.rest.now / 24) (24 * i))
