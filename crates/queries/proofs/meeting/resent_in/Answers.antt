use Rattle.queries.proofs.MeetingLaws.{resent_elsewhere, resent_counted}
use borrow.Author.Rules.{rules}
use Rattle.queries.proofs.meeting.resent_in.Goals as goal

pub returns-then-h-ne-EXCHANGE_ACTIONS : goal.returns-then-h-ne-EXCHANGE_ACTIONS
returns-then-h-ne-EXCHANGE_ACTIONS c = search (rules, resent_elsewhere)

pub returns : goal.returns
returns c = search (rules, resent_counted)
