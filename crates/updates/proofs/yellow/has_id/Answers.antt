use borrow.Author.Rules.{rules}
use Rattle.updates.proofs.YellowLaws.{has_start, has_found, has_again, has_end}
use Rattle.updates.proofs.yellow.has_id.Goals as goal

pub loop-k-init : goal.loop-k-init
loop-k-init c = search (rules, has_start)

pub returns-then-is_at : goal.returns-then-is_at
returns-then-is_at c = search (rules, has_found)

pub loop-k-preserved : goal.loop-k-preserved
loop-k-preserved c = search (rules, has_again)

pub returns : goal.returns
returns c = search (rules, has_end)
