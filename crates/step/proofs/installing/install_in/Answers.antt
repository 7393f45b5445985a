use mathlib.Core.Path.{◌∙◌}
use Rattle.step.proofs.Installed.{mode_some, mode_installed}
use Rattle.image.proofs.InPlace.{holds_header}
use Rattle.step.proofs.installing.install_in.Goals as goal

pub set_mode-requires : goal.set_mode-requires
set_mode-requires c = holds_header _ _ c.requires.holds

pub install-requires : goal.install-requires
install-requires c = mode_some _ _ _ c.requires (λ s m h e. c.set_mode.ensures s m h (c.from.ensures ∙ e))

pub returns : goal.returns
returns c =
    mode_installed _ _ _
    c.requires
    (λ s m h e. c.set_mode.ensures s m h (c.from.ensures ∙ e))
    _ c.install.ensures
