use Rattle.std.proofs.Common.{◌≡◌, ℕ, ◌+◌, ◌-◌, List, take, drop, sym, ap, ◌∙◌}
use Rattle.word.specs.Bytes.{le, to_le}
use Rattle.word.specs.Memory.{part}
use Rattle.word.proofs.BytesLaws.{length-to_le}
use Rattle.word.proofs.MemoryLaws.{lent_part, lent_splice}
use Rattle.isa.specs.Width.{bits_of, bytes_of}
use Rattle.alu.specs.Amo.{amo_of}
use Rattle.alu.proofs.atomic.modify_at.Goals as goal

pub returns : goal.returns
returns c =
    let x = c.args in
    let n = c.bytes_of-n in
    let m = c.modify in
    let mem = x.mem.now in
    let seen : take (x.at + n.result - x.at) (drop x.at mem) ≡ part mem x.at (bytes_of x.w) =
    lent_part mem x.at n.result ∙ ap (part mem x.at) n.ensures.0 in record {
      value = m.ensures.value ∙ ap le seen;
      mem_after = lent_splice mem x.at n.result _ _
          (m.ensures.bytes_after ∙ ap (λ (l : List ℕ). to_le (bytes_of x.w) (amo_of x.op (bits_of x.w) (le l) x.operand)) seen)
          (length-to_le _ _ ∙ sym n.ensures.0);
    }
