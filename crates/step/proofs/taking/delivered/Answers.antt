use Rattle.step.proofs.TakingLaws.{act_ready, act_done}
use borrow.Author.Rules.{rules}
use Rattle.step.proofs.taking.delivered.Goals as goal

pub on_action-requires : goal.on_action-requires
on_action-requires c = search (rules, act_ready)

pub returns : goal.returns
returns c = search (rules, act_done)
