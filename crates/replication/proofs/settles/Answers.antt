use Rattle.replication.proofs.Agreement.Settling.Settled.{settling}
use Rattle.replication.proofs.settles.Goals as goal

pub returns : goal.returns
returns c = settling
