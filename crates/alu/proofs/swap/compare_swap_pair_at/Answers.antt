use Rattle.std.proofs.Common.{◌≡◌, ◌+◌, ◌-◌, eqb, take, drop, sym, ap, ◌∙◌}
use Rattle.word.specs.Bytes.{le, to_le}
use Rattle.word.specs.Memory.{part}
use Rattle.word.proofs.BytesLaws.{length-to_le}
use Rattle.word.proofs.MemoryLaws.{lent_part}
use Rattle.isa.specs.Width.{pair_bytes}
use Rattle.alu.specs.Pair.{joined}
use Rattle.alu.proofs.LentLaws.{lent_cond}
use Rattle.alu.proofs.swap.compare_swap_pair_at.Goals as goal

pub returns : goal.returns
returns c =
    let begun = c in
    let x = begun.args in
    let m = c.compare_swap_pair in
    let n = c.pair_bytes_of in
    let mem = x.mem.now in
    let lent = take (x.at + n.result - x.at) (drop x.at mem) in
    let seen : lent ≡ part mem x.at (pair_bytes x.w) =
    lent_part mem x.at n.result ∙ ap (part mem x.at) n.ensures.0 in
    let known = m.ensures.result_value in record {
      result_value = (known.0 ∙ ap le seen, known.1, known.2);
      mem_after = rw (← seen)
          (lent_cond mem x.at n.result m.new.bytes (to_le (pair_bytes x.w) (joined x.w x.new)) (eqb (le lent) (joined x.w x.want))
          (length-to_le _ _ ∙ sym n.ensures.0) m.ensures.bytes_after);
    }
