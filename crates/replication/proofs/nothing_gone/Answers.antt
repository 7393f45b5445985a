use Rattle.replication.proofs.Agreement.Greens.Resending.{nothing_is_gone}
use Rattle.replication.proofs.nothing_gone.Goals as goal

pub returns : goal.returns
returns c = nothing_is_gone
