use Rattle.queries.proofs.MeetingLaws.{cpcs_counted, cpcs_before}
use borrow.Author.Rules.{rules}
use Rattle.queries.proofs.meeting.cpcs_in.Goals as goal

pub returns-then-h-ge-CONSTRUCT : goal.returns-then-h-ge-CONSTRUCT
returns-then-h-ge-CONSTRUCT c = search (rules, cpcs_counted)

pub returns : goal.returns
returns c = search (rules, cpcs_before)
