use mathlib.Core.Path.{◌≡◌, ap, ◌∙◌}
use mathlib.Core.List.{List}
use Prim.Native.Nat.{ℕ}
use lib.ListN.{length}
use Rattle.word.specs.Bytes.{to_le}
use Rattle.word.specs.Memory.{part}
use Rattle.word.proofs.BytesLaws.{length-to_le}
use Rattle.word.proofs.MemoryLaws.{lent_part, lent_splice, length_part}
use Rattle.word.proofs.bytes.store_at.Goals as goal

pub returns : goal.returns
returns c =
    let at_start = c in
    let mem = at_start.args.mem.now in
    let at = at_start.args.at in
    let n = at_start.args.n in
    let v = at_start.args.v in
    let e : length (part mem at n) ≡ n = length_part mem at n at_start.requires in
    lent_splice mem at n _ (to_le n v)
    (c.store_le.ensures ∙ ap (λ (l : List ℕ). to_le (length l) v) (lent_part mem at n) ∙ ap (λ (k : ℕ). to_le k v) e) (length-to_le n v)
