use Rattle.exchange.proofs.DecidedLaws.{planned_told}
use Rattle.exchange.proofs.decided.planned_now.Goals as goal

pub returns : goal.returns
returns c = planned_told _ _ _ c.held.ensures.slots c.held.ensures.bytes _ c.planned.ensures
