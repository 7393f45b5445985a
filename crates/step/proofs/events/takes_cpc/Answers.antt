use borrow.Author.Rules.{rules}
use Rattle.step.proofs.ModeLaws.{cpc_ignored, cpc_collected, cpc_late, cpc_not}
use Rattle.step.proofs.events.takes_cpc.Goals as goal

pub returns-in-0 : goal.returns-in-0
returns-in-0 c = search (rules, cpc_ignored)

pub returns-in-5 : goal.returns-in-5
returns-in-5 c = search (rules, cpc_collected)

pub returns-in-6 : goal.returns-in-6
returns-in-6 c = search (rules, cpc_late)

pub returns-in_default : goal.returns-in_default
returns-in_default c = search (rules, cpc_not)
