use Rattle.queue.proofs.FindLaws.{find_found, find_again, find_none}
use borrow.Author.Rules.{rules}
use Rattle.queue.proofs.finding.find.Goals as goal

pub returns-then-is_at : goal.returns-then-is_at
returns-then-is_at c = search (rules, find_found)

pub loop-k-preserved : goal.loop-k-preserved
loop-k-preserved c = search (rules, find_again)

pub returns : goal.returns
returns c = search (rules, find_none)
