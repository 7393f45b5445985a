use Rattle.guards.proofs.RowsLaws.{of_none, of_last}
use borrow.Author.Rules.{rules}
use Rattle.guards.proofs.is_of.Goals as goal

pub returns-then-h-eq1 : goal.returns-then-h-eq1
returns-then-h-eq1 c = search (rules, of_last)

pub returns-else-h-eq1 : goal.returns-else-h-eq1
returns-else-h-eq1 c = search (rules, of_none)
