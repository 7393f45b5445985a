use Rattle.register_step.proofs.Depots.{joint_bursts_follow}
use Rattle.register_step.proofs.joint_bursts_follow.Goals as goal

pub returns : goal.returns
returns c = joint_bursts_follow
