use Rattle.install.proofs.TurnLaws.{entry_before, entry_found}
use borrow.Author.Rules.{rules}
use Rattle.install.proofs.table.Lookup.find_by.Goals as goal

pub returns-then-k-self : goal.returns-then-k-self
returns-then-k-self c = search (rules, entry_before)

pub returns : goal.returns
returns c = search (rules, entry_found)
