use Rattle.guards.proofs.RowsLaws.{cpc_told}
use borrow.Author.Rules.{rules}
use Rattle.guards.proofs.cpc_in.Goals as goal

pub returns : goal.returns
returns c = search (rules, cpc_told)
