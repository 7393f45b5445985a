use Rattle.guards.proofs.RowsLaws.{outside_all, member_told}
use borrow.Author.Rules.{rules}
use Rattle.guards.proofs.is_member.Goals as goal

pub returns-then-h-eq1 : goal.returns-then-h-eq1
returns-then-h-eq1 c = search (rules, member_told)

pub returns-else-h-eq1 : goal.returns-else-h-eq1
returns-else-h-eq1 c = search (rules, outside_all)
