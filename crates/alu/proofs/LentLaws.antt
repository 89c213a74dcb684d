-- A part of memory that is lent and written, or not, by a test. Assumes nothing.
use Rattle.std.proofs.Common.{◌≡◌, ℕ, ◌+◌, ◌-◌, Bool, true, false, cond, List, length, take, drop, ap, ◌∙◌}
use borrow.Rule.Slice.PartMut.{put_mid, put_same}
use Rattle.word.specs.Memory.{splice}
use Rattle.word.proofs.MemoryLaws.{lent_splice}

pub lent_cond : (mem : List ℕ) (at n : ℕ) (last new : List ℕ) (t : Bool) → length new ≡ n → last ≡ cond t new (take (at + n - at) (drop at mem))
    → put_mid at (at + n - at) mem last ≡ cond t (splice mem at new) mem
lent_cond mem at n last new true l e = lent_splice mem at n last new e l
lent_cond mem at n last new false l e = ap (put_mid at (at + n - at) mem) e ∙ put_same at (at + n - at) mem
