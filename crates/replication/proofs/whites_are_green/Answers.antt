use Rattle.replication.proofs.Agreement.Whites.Everywhere.{whites_are_green}
use Rattle.replication.proofs.whites_are_green.Goals as goal

pub returns : goal.returns
returns c = whites_are_green
