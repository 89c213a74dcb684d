use Rattle.std.proofs.Common.{◌≡◌, ◌≢◌, sym, refl}
use Prim.Native.Nat.{ℕ, ◌^◌, ◌<◌}
use Rattle.word.proofs.WordLaws.{low_id}
use Rattle.isa.specs.declared.LoadOp.{LoadOp}
use Rattle.isa.specs.declared.LoadOp.TheVariants.{Lb, Lh, Lw, Ld, Lbu, Lhu, Lwu}
use Rattle.effect.specs.Memory.{load_bytes, extended}
use Rattle.exec.proofs.memory.extend.Goals as goal

-- what is loaded whole or without a sign is the register's value
as_loaded : (xlen : ℕ) (op : LoadOp) (v : ℕ) → v < 256 ^ load_bytes op → op ≢ Lb → op ≢ Lh → op ≢ Lw → v ≡ extended xlen op v
as_loaded xlen Lb v fits b h w = absurd (b refl)
as_loaded xlen Lh v fits b h w = absurd (h refl)
as_loaded xlen Lw v fits b h w = absurd (w refl)
as_loaded xlen Ld v fits b h w = sym (low_id 64 v fits)
as_loaded xlen Lbu v fits b h w = sym (low_id 8 v fits)
as_loaded xlen Lhu v fits b h w = sym (low_id 16 v fits)
as_loaded xlen Lwu v fits b h w = sym (low_id 32 v fits)

pub returns-in_default : goal.returns-in_default
returns-in_default c = as_loaded _ _ _ c.requires.2 c.in_default.not-Lb c.in_default.not-Lh c.in_default.not-Lw
