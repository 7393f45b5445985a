use Rattle.base.proofs.TestLaws.{and_lt, and_ge}
use borrow.Author.Rules.{rules}
use Rattle.exchange.proofs.first_list.FirstList.is_there.Goals as goal

pub returns-then-self-k : goal.returns-then-self-k
returns-then-self-k c = search (rules, and_ge)

pub returns : goal.returns
returns c = search (rules, and_lt)
