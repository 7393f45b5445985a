use Rattle.guards.proofs.RowsLaws.{state_told}
use borrow.Author.Rules.{rules}
use Rattle.guards.proofs.state_in.Goals as goal

pub returns : goal.returns
returns c = search (rules, state_told)
