use borrow.Author.Rules.{rules}
use Rattle.votes.proofs.VoteLaws.{chosen_yes, chosen_no}
use Rattle.votes.proofs.later_of.Goals as goal

pub returns-then-later : goal.returns-then-later
returns-then-later c = search (rules, chosen_yes)

pub returns-else-later : goal.returns-else-later
returns-else-later c = search (rules, chosen_no)
