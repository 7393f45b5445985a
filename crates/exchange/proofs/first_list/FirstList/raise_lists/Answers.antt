use Rattle.exchange.proofs.RaiseLaws.{met_start, met_again, met_end}
use borrow.Author.Rules.{rules}
use Rattle.exchange.proofs.first_list.FirstList.raise_lists.Goals as goal

pub loop-k-init : goal.loop-k-init
loop-k-init c = search (rules, met_start)

pub loop-k-preserved : goal.loop-k-preserved
loop-k-preserved c = search (rules, met_again)

pub returns : goal.returns
returns c = search (rules, met_end)
