use Rattle.replication.proofs.Runs.Requests.{requests_kept}
use Rattle.replication.proofs.requests_kept.Goals as goal

pub returns : goal.returns
returns c = requests_kept
