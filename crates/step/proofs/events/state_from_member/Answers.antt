use Rattle.step.proofs.SenderLaws.{state_stranger, state_elsewhere, state_once}
use borrow.Author.Rules.{rules}
use Rattle.step.proofs.events.state_from_member.Goals as goal

pub returns-then-not-is_member : goal.returns-then-not-is_member
returns-then-not-is_member c = search (rules, state_stranger)

pub returns-then-not-is_of : goal.returns-then-not-is_of
returns-then-not-is_of c = search (rules, state_elsewhere)

pub returns : goal.returns
returns c = search (rules, state_once)
