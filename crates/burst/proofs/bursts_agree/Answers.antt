use Rattle.burst.proofs.Agreement.{bursts_agree}
use Rattle.burst.proofs.bursts_agree.Goals as goal

pub returns : goal.returns
returns c = bursts_agree
