use Rattle.replication.proofs.Agreement.Greens.KeptWhileUp.{kept_while_up}
use Rattle.replication.proofs.kept_while_up.Goals as goal

pub returns : goal.returns
returns c = kept_while_up
