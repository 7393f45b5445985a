use Rattle.queries.proofs.MeetingLaws.{states_before, states_behind, states_counted}
use borrow.Author.Rules.{rules}
use Rattle.queries.proofs.meeting.states_in.Goals as goal

pub returns-then-h-lt-EXCHANGE_STATES : goal.returns-then-h-lt-EXCHANGE_STATES
returns-then-h-lt-EXCHANGE_STATES c = search (rules, states_before)

pub returns-then-h-gt-EXCHANGE_ACTIONS : goal.returns-then-h-gt-EXCHANGE_ACTIONS
returns-then-h-gt-EXCHANGE_ACTIONS c = search (rules, states_behind)

pub returns : goal.returns
returns c = search (rules, states_counted)
