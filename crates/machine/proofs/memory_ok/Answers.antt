use Rattle.std.proofs.Common.{◌≡◌, true, sym, ◌∙◌}
use Rattle.settings.proofs.SettingsLaws.{size_exact}
use Rattle.machine.specs.State.{lent_ok}
use Rattle.machine.proofs.StateLaws.{lent_exact}
use Rattle.machine.proofs.memory_ok.Goals.{then-size_ok, else-size_ok}
use Rattle.machine.proofs.memory_ok.Goals as goal

pub lent_ok-requires : goal.lent_ok-requires
lent_ok-requires c = (size_exact c.args.settings).0 (sym c.size_ok.ensures ∙ c.if-size_ok.true)

pub top_ok-requires : goal.top_ok-requires
top_ok-requires c =
    let a = c.args in
    let kept : lent_ok a.settings a.base a.len ≡ true = elim c.if-size_ok.branch [ then-size_ok w ↦ cc | else-size_ok w ↦ cc ] in
    (lent_exact a.settings a.base a.len).0 kept
