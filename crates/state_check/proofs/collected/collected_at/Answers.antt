use Rattle.state_check.proofs.CollectedCode.{absent_told, there_told}
use borrow.Author.Rules.{rules}
use Rattle.state_check.proofs.collected.collected_at.Goals as goal

pub returns-then-not-has : goal.returns-then-not-has
returns-then-not-has c = search (rules, absent_told)

pub returns-else-not-has : goal.returns-else-not-has
returns-else-not-has c = search (rules, there_told)
