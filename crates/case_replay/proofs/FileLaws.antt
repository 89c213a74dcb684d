-- A case file whose memory body is lent. Assumes nothing.
use mathlib.Core.Path.{◌≡◌, sym, ap, ◌∙◌}
use mathlib.Core.List.{List}
use Prim.Native.Nat.{ℕ, ◌+◌, ◌-◌, ◌≤◌}
use native.Mathlib.Omega.{arith}
use lib.ListN.{length, take, drop}
use borrow.Rule.Slice.PartMut.{put_mid, Post-is}
use Rattle.word.specs.Memory.{part, splice}
use Rattle.word.proofs.MemoryLaws.{length_part}

-- a part `&mut file[m..e]` that was lent and holds new, as many bytes as before
pub lent_body : (file : List ℕ) (m e : ℕ) (last new : List ℕ) → m ≤ e → e ≤ length file → length last ≡ length (take (e - m) (drop m file)) → last ≡ new
    → put_mid m (e - m) file last ≡ splice file m new
unfolding splice part
lent_body file m e last new h fit l eq =
    let as_many : length last ≡ e - m = l ∙ length_part file m (e - m) (omega arith) in
    let end : m + length new ≡ e = omega (arith, as_many, sym (ap length eq)) in
    rw (eq, end, Post-is m e file h)
