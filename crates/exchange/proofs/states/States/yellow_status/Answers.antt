use Rattle.exchange.proofs.YellowLaws.{status_none, status_some}
use Rattle.exchange.proofs.states.States.yellow_status.Goals as goal

pub returns-in-Some : goal.returns-in-Some
returns-in-Some c = status_some _ _ _ _ c.yellow_voters.ensures _ c.in-Some.ensures

pub returns-in-None : goal.returns-in-None
returns-in-None c = status_none _ _ _ _ c.yellow_voters.ensures c.in-None.ensures
