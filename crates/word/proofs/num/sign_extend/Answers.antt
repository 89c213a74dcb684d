use mir.Syntax.{w64}
use mir.Facts.{to_z-of_z}
use mathlib.Core.Path.{◌≡◌, ap, ◌∙◌}
use native.Mathlib.Omega.{arith}
use Rattle.word.specs.Word.{low, to_int, of_int, sign_extend}
use Rattle.word.proofs.WordLaws.{low_lt, cut_sign_extend}
use Rattle.word.proofs.num.sign_extend.Goals as goal

pub to_signed-requires : goal.to_signed-requires
to_signed-requires c = record {
  bits_nonzero = (c.requires.0, omega (arith, c.requires.1, c.requires.2));
  v_bound = rw c.wrap.ensures (low_lt c.args.bits c.args.v);
}

pub returns : goal.returns
unfolding sign_extend
returns c =
    let x = c.args in
    let pre = c.requires in
    let whole : c.from_i64.result ≡ sign_extend 64 x.bits x.v =
    c.from_i64.ensures
    ∙ ap (of_int 64) (to_z-of_z {w = w64} (record { sfits = c.to_signed.type_inv }) ∙ c.to_signed.ensures
    ∙ ap (to_int x.bits) c.wrap.ensures) in
    c.wrap-2.ensures ∙ ap (low x.xlen) whole ∙ cut_sign_extend 64 x.xlen x.bits x.v pre.0 pre.1 pre.2
