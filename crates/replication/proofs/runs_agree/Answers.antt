use Rattle.replication.proofs.Agreement.Greens.Demand.{demand3}
use Rattle.replication.proofs.runs_agree.Goals as goal

pub returns : goal.returns
returns c = demand3
