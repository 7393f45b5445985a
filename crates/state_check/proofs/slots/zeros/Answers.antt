use Rattle.state_check.proofs.Gathered.{gather_start, gather_again, gather_end}
use borrow.Author.Rules.{rules}
use Rattle.state_check.proofs.slots.zeros.Goals as goal

pub loop-j-init : goal.loop-j-init
loop-j-init c = search (rules, gather_start)

pub loop-j-preserved : goal.loop-j-preserved
loop-j-preserved c = search (rules, gather_again)

pub returns : goal.returns
returns c = search (rules, gather_end)
