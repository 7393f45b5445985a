use Rattle.queue.proofs.CountLaws.{one_told}
use borrow.Author.Rules.{rules}
use Rattle.queue.proofs.counting.one_of.Goals as goal

pub returns : goal.returns
returns c = search (rules, one_told)
