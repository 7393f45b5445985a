use Rattle.step.proofs.SenderLaws.{cpc_stranger, cpc_elsewhere, cpc_once}
use borrow.Author.Rules.{rules}
use Rattle.step.proofs.events.cpc_from_member.Goals as goal

pub returns-then-not-is_member : goal.returns-then-not-is_member
returns-then-not-is_member c = search (rules, cpc_stranger)

pub returns-then-not-is_of : goal.returns-then-not-is_of
returns-then-not-is_of c = search (rules, cpc_elsewhere)

pub returns : goal.returns
returns c = search (rules, cpc_once)
