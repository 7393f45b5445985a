use Rattle.guards.proofs.RowsLaws.{regular_after, regular_first}
use borrow.Author.Rules.{rules}
use Rattle.guards.proofs.regular_due.Goals as goal

pub returns-then-h-eq1 : goal.returns-then-h-eq1
returns-then-h-eq1 c = search (rules, regular_after)

pub returns-else-h-eq1 : goal.returns-else-h-eq1
returns-else-h-eq1 c = search (rules, regular_first)
