use Rattle.std.proofs.Common.{ℕ, ap, ◌∙◌, ap₂, arith}
use Rattle.word.specs.Bytes.{to_le}
use Rattle.isa.specs.Width.{bits_of}
use Rattle.alu.specs.Amo.{amo_of}
use Rattle.alu.proofs.AmoLaws.{bytes_most, le_fits}
use Rattle.alu.proofs.atomic.modify.Goals as goal

pub load_le-old-requires : goal.load_le-old-requires
load_le-old-requires c = omega (arith, c.requires.bytes_len, bytes_most c.args.w)

pub amo-requires : goal.amo-requires
amo-requires c =
    let begun = c in
    let x = begun.args in
    let fits = le_fits x.w x.bytes.now (λ i. (c.slice_known-1.given i).fits) begun.requires.bytes_len in
    (rw c.load_le-old.ensures fits, begun.requires.operand_bound)

pub returns : goal.returns
returns c =
    let begun = c in
    let x = begun.args in
    let old = c.load_le-old.ensures in record {
      value = old;
      bytes_after = c.store_le.ensures
          ∙ ap₂ to_le begun.requires.bytes_len (c.amo.ensures ∙ ap (λ (m : ℕ). amo_of x.op (bits_of x.w) m x.operand) old);
    }
