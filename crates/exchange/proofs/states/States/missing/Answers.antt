use Rattle.exchange.proofs.PlanLaws.{missing_made}
use mathlib.Core.Path.{◌∙◌}
use Rattle.exchange.proofs.states.States.missing.Goals as goal

pub returns : goal.returns
returns g c = λ n s. c.saturating_sub.ensures ∙ missing_made n _ _ _ (c.lowest.ensures n s) (c.highest.ensures n s)
