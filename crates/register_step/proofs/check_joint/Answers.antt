use Rattle.register_step.proofs.JointLaws.{joint_brief, joint_state_refused, joint_reads, joint_unread}
use borrow.Author.Rules.{rules}
use Rattle.register_step.proofs.check_joint.Goals as goal

pub returns-then-register-lt-REGISTER_LENGTH : goal.returns-then-register-lt-REGISTER_LENGTH
returns-then-register-lt-REGISTER_LENGTH c = search (rules, joint_brief)

pub returns-in_err-check_buffers : goal.returns-in_err-check_buffers
returns-in_err-check_buffers c = search (rules, joint_state_refused)

pub returns-then-register_reads : goal.returns-then-register_reads
returns-then-register_reads c = search (rules, joint_reads)

pub returns-else-register_reads : goal.returns-else-register_reads
returns-else-register_reads c = search (rules, joint_unread)
