use mathlib.Core.Path.{◌∙◌}
use Rattle.step.proofs.RetransmissionLaws.{left_some, closed}
use Rattle.image.proofs.InPlace.{such_header}
use Rattle.step.proofs.exchanging.close.Goals as goal

pub set_mode-requires : goal.set_mode-requires
set_mode-requires c = such_header _ _ c.requires

pub one_more-requires : goal.one_more-requires
one_more-requires c = left_some _ _ (λ s m h e. c.set_mode.ensures s m h (c.from.ensures ∙ e)) c.requires

pub returns : goal.returns
returns c =
    closed _ _ (λ s m h e. c.set_mode.ensures s m h (c.from.ensures ∙ e))
    c.requires _ c.one_more.ensures
