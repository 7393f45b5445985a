use Rattle.step.proofs.MeetLaws.{some_header, meet_early, meet_unread, meet_installs, meet_stays}
use borrow.Author.Rules.{rules}
use Rattle.step.proofs.meeting.meet.Goals as goal

pub load-h-requires : goal.load-h-requires
load-h-requires c = search (rules, some_header)

pub returns-then-h-ne-UN : goal.returns-then-h-ne-UN
returns-then-h-ne-UN c = search (rules, meet_early)

pub returns-in_default : goal.returns-in_default
returns-in_default c = search (rules, meet_unread)

pub returns-then-installs_first : goal.returns-then-installs_first
returns-then-installs_first c = search (rules, meet_installs)

pub returns-else-installs_first : goal.returns-else-installs_first
returns-else-installs_first c = search (rules, meet_stays)
