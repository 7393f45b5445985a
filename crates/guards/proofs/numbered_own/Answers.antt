use Rattle.guards.proofs.RowsLaws.{others_numbered, own_numbered}
use borrow.Author.Rules.{rules}
use Rattle.guards.proofs.numbered_own.Goals as goal

pub returns-then-id-h : goal.returns-then-id-h
returns-then-id-h c = search (rules, others_numbered)

pub returns-else-id-h : goal.returns-else-id-h
returns-else-id-h c = search (rules, own_numbered)
