use Rattle.replication.proofs.Examples.Pairs.{pairs_hold}
use Rattle.replication.proofs.pairs.Goals as goal

pub returns : goal.returns
returns c = pairs_hold
