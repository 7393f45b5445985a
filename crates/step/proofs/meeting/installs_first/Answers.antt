use Rattle.step.proofs.MeetLaws.{first_action, first_other}
use borrow.Author.Rules.{rules}
use Rattle.step.proofs.meeting.installs_first.Goals as goal

pub returns-in-Action : goal.returns-in-Action
returns-in-Action c = search (rules, first_action)

pub returns-in_default : goal.returns-in_default
returns-in_default c = first_other _ _ c.in_default.not-Action
