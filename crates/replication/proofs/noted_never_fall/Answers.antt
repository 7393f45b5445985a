use Rattle.replication.proofs.Runs.Noted.{never_fall}
use Rattle.replication.proofs.noted_never_fall.Goals as goal

pub returns : goal.returns
returns c = never_fall
