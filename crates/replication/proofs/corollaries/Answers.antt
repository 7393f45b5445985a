use Rattle.replication.proofs.Agreement.Greens.Demand.{corollaries}
use Rattle.replication.proofs.corollaries.Goals as goal

pub returns : goal.returns
returns c = corollaries
