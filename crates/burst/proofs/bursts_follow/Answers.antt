use Rattle.burst.proofs.Daemons.{bursts_follow}
use Rattle.burst.proofs.bursts_follow.Goals as goal

pub returns : goal.returns
returns c = bursts_follow
