use mathlib.Core.Path.{◌∙◌}
use Rattle.step.proofs.Installed.{mode_some}
use Rattle.step.proofs.LateLaws.{votes_ended}
use Rattle.image.proofs.InPlace.{such_header}
use borrow.Author.Rules.{rules}
use Rattle.step.proofs.installing.end_install.Goals as goal

pub set_mode-requires : goal.set_mode-requires
set_mode-requires c = search (rules, such_header)

pub install_votes-requires : goal.install_votes-requires
install_votes-requires c = search (rules, mode_some)

pub returns : goal.returns
returns c =
    votes_ended _ _ c.requires
    (λ s m h e. c.set_mode.ensures s m h (c.from.ensures ∙ e))
    _ c.install_votes.ensures
