use Rattle.guards.proofs.RowsLaws.{transitional_first}
use borrow.Author.Rules.{rules}
use Rattle.guards.proofs.transitional_due.Goals as goal

pub returns : goal.returns
returns c = search (rules, transitional_first)
