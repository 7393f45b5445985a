use Rattle.register_step.proofs.BurstCode.{burst_refused}
use borrow.Author.Rules.{rules}
use Rattle.register_step.proofs.joint_burst.Goals as goal

pub returns-in-Err : goal.returns-in-Err
returns-in-Err c = burst_refused _ _ _ _ c.in-Err.refusal _ _ c.from.ensures c.in-Err.ensures c.stopped.ensures
