use Rattle.state_check.proofs.CollectedCode.{other_event, other_sender, this_sender}
use borrow.Author.Rules.{rules}
use Rattle.state_check.proofs.collected.is_state.Goals as goal

pub returns-in_default : goal.returns-in_default
returns-in_default c = search (rules, other_event)

pub returns-then-s-sender : goal.returns-then-s-sender
returns-then-s-sender c = search (rules, this_sender)

pub returns-else-s-sender : goal.returns-else-s-sender
returns-else-s-sender c = search (rules, other_sender)
