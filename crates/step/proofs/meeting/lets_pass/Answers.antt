use Rattle.step.proofs.MeetLaws.{pass_unnumbered, pass_by_member}
use borrow.Author.Rules.{rules}
use Rattle.step.proofs.meeting.lets_pass.Goals as goal

pub returns-then-numbered_own : goal.returns-then-numbered_own
returns-then-numbered_own c = search (rules, pass_by_member)

pub returns-else-numbered_own : goal.returns-else-numbered_own
returns-else-numbered_own c = search (rules, pass_unnumbered)
