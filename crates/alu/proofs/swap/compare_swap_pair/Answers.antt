use Rattle.std.proofs.Common.{◌≡◌, ℕ, ◌+◌, ◌*◌, ◌^◌, List, length, sym, refl, ap, ◌∙◌, arith}
use Rattle.word.specs.Bytes.{le, to_le, IsBytes}
use Rattle.word.specs.Memory.{splice}
use Rattle.word.proofs.BytesLaws.{length-to_le}
use Rattle.word.proofs.MemoryLaws.{length-splice}
use Rattle.isa.specs.Width.{bits_of}
use Rattle.alu.proofs.PairLaws.{half_bytes, half_lt, le_halves, splice_halves}
use Rattle.alu.proofs.swap.compare_swap_pair.Goals as goal

pub load_at-low-requires : goal.load_at-low-requires
load_at-low-requires c =
    let n = c.bytes_of-n.ensures in
    let begun = c in record {
      n_in_bounds = omega (arith, n.0, begun.requires.bytes_len, half_bytes begun.args.w);
      n_bound = n.2;
    }

pub load_at-high-requires : goal.load_at-high-requires
load_at-high-requires c =
    let n = c.bytes_of-n.ensures in
    let begun = c in record {
      n_in_bounds = omega (arith, n.0, begun.requires.bytes_len, half_bytes begun.args.w);
      n_bound = n.2;
    }

pub same-requires : goal.same-requires
same-requires c =
    let read = c in
    let begun = read in (
      half_lt begun.args.w begun.args.bytes.now (λ k. (read.slice_known-1.given k).fits) _ _ _ read.bytes_of-n.ensures.0 c.load_at-low.ensures,
      begun.requires.low_bound.0,
    )

pub store_at-requires : goal.store_at-requires
store_at-requires c =
    let read = c in
    let begun = read in
    omega (arith, read.bytes_of-n.ensures.0, begun.requires.bytes_len, half_bytes begun.args.w)

pub store_at-requires-then-same : goal.store_at-requires-then-same
store_at-requires-then-same c =
    let stored = c.store_at in
    let read = c in
    let begun = read in
    let n = read.bytes_of-n.ensures.0 in
    let half = half_bytes begun.args.w in
    let many = length-to_le read.bytes_of-n.result begun.args.new.low in
    let same : length stored.new.mem ≡ length begun.args.bytes.now =
    ap length stored.ensures ∙ length-splice begun.args.bytes.now 0 (to_le read.bytes_of-n.result begun.args.new.low) (omega (arith, n, begun.requires.bytes_len, half, many)) in
    omega (arith, same, n, begun.requires.bytes_len, half)

pub returns-then-same : goal.returns-then-same
returns-then-same c =
    let tested = c in
    let read = tested in
    let x = read.args in
    let bs = x.bytes.now in
    let n = read.bytes_of-n.ensures.0 in
    let low = tested.load_at-low in
    let high = tested.load_at-high in
    let bytes : IsBytes bs = λ k. (read.slice_known-1.given k).fits in
    let old : low.result + 2 ^ bits_of x.w * high.result ≡ le bs =
    rw (low.ensures, high.ensures, n) (le_halves x.w bs read.requires.bytes_len) in record {
      result_value = (old, half_lt x.w bs bytes _ _ _ n low.ensures, half_lt x.w bs bytes _ _ _ n high.ensures);
      bytes_after = rw (← old, sym tested.same.ensures ∙ tested.if-same.true)
          (c.store_at-then-same.ensures
          ∙ ap (λ (l : List ℕ). splice l read.bytes_of-n.result (to_le read.bytes_of-n.result x.new.high)) c.store_at.ensures
          ∙ rw n (splice_halves x.w bs x.new.low x.new.high read.requires.bytes_len read.requires.low_bound.1));
    }

pub returns-else-same : goal.returns-else-same
returns-else-same c =
    let read = c in
    let x = read.args in
    let bs = x.bytes.now in
    let n = read.bytes_of-n.ensures.0 in
    let low = c.load_at-low in
    let high = c.load_at-high in
    let bytes : IsBytes bs = λ k. (read.slice_known-1.given k).fits in
    let old : low.result + 2 ^ bits_of x.w * high.result ≡ le bs =
    rw (low.ensures, high.ensures, n) (le_halves x.w bs read.requires.bytes_len) in record {
      result_value = (old, half_lt x.w bs bytes _ _ _ n low.ensures, half_lt x.w bs bytes _ _ _ n high.ensures);
      bytes_after = rw (← old, sym c.same.ensures ∙ c.if-same.false) refl;
    }
