use Rattle.burst.proofs.StepsLaws.{burst_is_steps}
use Rattle.burst.proofs.burst_is_steps.Goals as goal

pub returns : goal.returns
returns c = burst_is_steps
