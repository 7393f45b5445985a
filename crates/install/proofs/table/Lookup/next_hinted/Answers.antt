use Rattle.install.proofs.NextLaws.{next_hit}
use borrow.Author.Rules.{rules}
use Rattle.install.proofs.table.Lookup.next_hinted.Goals as goal

pub returns-then-is_at : goal.returns-then-is_at
returns-then-is_at c = search (rules, next_hit)
