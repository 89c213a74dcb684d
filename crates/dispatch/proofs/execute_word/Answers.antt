use Rattle.std.proofs.Common.{◌≡◌, refl, sym, ◌∙◌}
use mathlib.Core.Logic.{⊎_elim}
use native.Mathlib.Omega.{arith}
use Rattle.settings.specs.Settings.{xlen_of}
use Rattle.settings.proofs.SettingsLaws.{xlen_is}
use Rattle.effect.specs.Execute.{execute}
use Rattle.dispatch.proofs.NarrowedLaws.{met_as, lacked_word, had_word, had_fits}
use Rattle.dispatch.proofs.execute_word.Goals as goal

pub invariant_of-step-clause-width : goal.invariant_of-step-clause-width
invariant_of-step-clause-width c =
    ⊎_elim (λ (e : xlen_of c.args.s.now.settings ≡ 32). rw (c.xlen.ensures, e) refl)
    (λ (e : xlen_of c.args.s.now.settings ≡ 64). rw (c.xlen.ensures, e) refl) (xlen_is c.args.s.now.settings)

pub invariant_of-step-clause-hart_bound : goal.invariant_of-step-clause-hart_bound
invariant_of-step-clause-hart_bound c = omega (arith, c.requires.0)

pub returns-then-lacked_at : goal.returns-then-lacked_at
unfolding execute
returns-then-lacked_at c =
    let gone = rw c.xlen.ensures at (sym c.lacked_at.ensures ∙ c.if-lacked_at.true) in
    met_as (lacked_word _ _ _ c.decode-i.ensures gone _ _ _ _ _ _) (rw c.from.ensures (record { answer = refl; memory = refl }))

pub execute-requires : goal.execute-requires
execute-requires c =
    (c.requires.1, had_fits _ _ _ c.decode-i.ensures (sym c.lacked_at.ensures ∙ c.if-lacked_at.false) (rw c.xlen.ensures (xlen_is _)))

pub returns : goal.returns
returns c =
    let has = rw c.xlen.ensures at (sym c.lacked_at.ensures ∙ c.if-lacked_at.false) in
    met_as (had_word _ _ _ c.decode-i.ensures has _ _ _ _ _ _) (rw c.xlen.ensures at c.execute.ensures)
