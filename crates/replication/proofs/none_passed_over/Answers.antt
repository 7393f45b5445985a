use Rattle.replication.proofs.Agreement.Greens.Resending.{none_passed_over}
use Rattle.replication.proofs.none_passed_over.Goals as goal

pub returns : goal.returns
returns c = none_passed_over
