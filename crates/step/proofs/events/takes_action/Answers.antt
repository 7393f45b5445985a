use borrow.Author.Rules.{rules}
use Rattle.step.proofs.ModeLaws.{action_low, action_late, action_not}
use Rattle.step.proofs.events.takes_action.Goals as goal

pub returns-in-7 : goal.returns-in-7
returns-in-7 c = search (rules, action_late)

pub returns-in-0-to-3 : goal.returns-in-0-to-3
returns-in-0-to-3 c = search (rules, action_low)

pub returns-in_default : goal.returns-in_default
returns-in_default c = search (rules, action_not)
