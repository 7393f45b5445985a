use Rattle.register_step.proofs.StepLaws.{answer_refused}
use borrow.Author.Rules.{rules}
use Rattle.register_step.proofs.try_step.Goals as goal

pub returns-in_err-check_joint : goal.returns-in_err-check_joint
returns-in_err-check_joint c = search (rules, answer_refused)
