use Rattle.exchange.proofs.KeepLaws.{keep_other, keep_here}
use borrow.Author.Rules.{rules}
use Rattle.exchange.proofs.first_list.FirstList.keep_at.Goals as goal

pub returns-then-table-j : goal.returns-then-table-j
returns-then-table-j c = search (rules, keep_other)

pub returns : goal.returns
returns c = search (rules, keep_here)
