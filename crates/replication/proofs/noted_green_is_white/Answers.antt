use Rattle.replication.proofs.Runs.Whitened.{noted_green_is_white}
use Rattle.replication.proofs.noted_green_is_white.Goals as goal

pub returns : goal.returns
returns c = noted_green_is_white
