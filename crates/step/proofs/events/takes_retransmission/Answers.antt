use borrow.Author.Rules.{rules}
use Rattle.step.proofs.ModeLaws.{retransmission_alone, retransmission_planned, retransmission_not}
use Rattle.step.proofs.events.takes_retransmission.Goals as goal

pub returns-in-0 : goal.returns-in-0
returns-in-0 c = search (rules, retransmission_alone)

pub returns-in-4 : goal.returns-in-4
returns-in-4 c = search (rules, retransmission_planned)

pub returns-in_default : goal.returns-in_default
returns-in_default c = search (rules, retransmission_not)
