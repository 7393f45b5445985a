use Rattle.install.proofs.TurnLaws.{entry_absent}
use borrow.Author.Rules.{rules}
use Rattle.install.proofs.table.Lookup.find.Goals as goal

pub returns-then-hint-eq0 : goal.returns-then-hint-eq0
returns-then-hint-eq0 c = search (rules, entry_absent)
