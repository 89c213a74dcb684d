use Rattle.std.proofs.Common.{◌≡◌, ◌+◌, ◌-◌, eqb, length, take, drop, ap, ◌∙◌}
use Rattle.word.specs.Bytes.{le, to_le}
use Rattle.word.specs.Memory.{part}
use Rattle.word.proofs.BytesLaws.{length-to_le}
use Rattle.word.proofs.MemoryLaws.{lent_part, length_part}
use Rattle.alu.proofs.LentLaws.{lent_cond}
use Rattle.alu.proofs.swap.compare_swap_at.Goals as goal

pub returns : goal.returns
returns c =
    let x = c.args in
    let m = c.compare_swap in
    let mem = x.mem.now in
    let lent = take (x.at + x.n - x.at) (drop x.at mem) in
    let seen : lent ≡ part mem x.at x.n = lent_part mem x.at x.n in
    let many : length lent ≡ x.n = ap length seen ∙ length_part mem x.at x.n c.requires.n_in_bounds in record {
      value = m.ensures.value ∙ ap le seen;
      mem_after = rw (← seen)
          (lent_cond mem x.at x.n m.new.bytes (to_le x.n x.new) (eqb (le lent) x.want) (length-to_le _ _) (rw many at m.ensures.bytes_after));
    }
