use Rattle.register_step.proofs.Agreement.{joint_bursts_agree}
use Rattle.register_step.proofs.joint_bursts_agree.Goals as goal

pub returns : goal.returns
returns c = joint_bursts_agree
