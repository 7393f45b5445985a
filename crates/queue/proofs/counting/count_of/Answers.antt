use Rattle.queue.proofs.CountLaws.{count_next, count_end}
use borrow.Author.Rules.{rules}
use Rattle.queue.proofs.counting.count_of.Goals as goal

pub loop-k-preserved : goal.loop-k-preserved
loop-k-preserved c = search (rules, count_next)

pub returns : goal.returns
returns c = search (rules, count_end)
