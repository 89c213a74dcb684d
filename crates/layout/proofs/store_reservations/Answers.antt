use Rattle.std.proofs.Common.{◌≡◌, List, Option, None, min, take, sym, ap, ◌∙◌, add-one, rules, arith}
use lib.Seq.{take_all}
use Rattle.word.specs.Memory.{splice}
use Rattle.reserve.specs.declared.Reservation.{Reservation}
use Rattle.layout.specs.Layout.{word_bytes, slot_words}
use Rattle.layout.proofs.LayoutLaws.{slots_none, slots_turn, take_most}
use Rattle.layout.proofs.store_reservations.Goals as goal

pub loop-k-init : goal.loop-k-init
loop-k-init c = (search rules, sym (slots_none c.args.bytes.now 2120))

pub loop-k-preserved : goal.loop-k-preserved
loop-k-preserved c =
    let a = c.args in
    let used = take c.min.result a.res.now in (
      search rules,
      rw (c.store_words.ensures, c.reservation_words.ensures, c.loop-k.invariant.1, add-one)
          (slots_turn a.bytes.now 2120 c.loop-k.k used None (omega arith) (omega arith)),
    )

pub returns : goal.returns
returns c =
    let a = c.args in
    let used = take c.min.result a.res.now in
    let most : c.min.result ≡ min a.count 8 = omega arith in
    let all : take c.loop-k.k used ≡ take a.count a.res.now =
    take_all c.loop-k.k used (omega arith) ∙ rw most (take_most a.res.now a.count 8 (omega arith)) in
    c.loop-k.invariant.1
    ∙ ap (λ (l : List (Option Reservation)). splice a.bytes.now 2120 (word_bytes (slot_words l))) all
