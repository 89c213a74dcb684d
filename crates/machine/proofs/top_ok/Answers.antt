use Rattle.std.proofs.Common.{◌≡◌, sym, ◌∙◌, ⊎_elim}
use Rattle.settings.specs.Settings.{xlen_of}
use Rattle.settings.proofs.SettingsLaws.{xlen_is}
use Rattle.machine.specs.State.{top_ok}
use Rattle.machine.proofs.StateLaws.{top_exact, top_64}
use Rattle.machine.proofs.top_ok.Goals as goal

pub returns-then-xlen-eq32 : goal.returns-then-xlen-eq32
unfolding top_ok
returns-then-xlen-eq32 c = rw (sym c.xlen.ensures ∙ c.if-xlen-eq32.true)

pub returns : goal.returns
returns c =
    let s = c.args.settings in
    let wide : xlen_of s ≡ 64 =
    ⊎_elim (λ (e : xlen_of s ≡ 32). absurd (c.if-xlen-eq32.false (c.xlen.ensures ∙ e))) (λ (e : xlen_of s ≡ 64). e) (xlen_is s) in
    sym ((top_exact s _ _).1 (top_64 s _ _ wide c.requires))
