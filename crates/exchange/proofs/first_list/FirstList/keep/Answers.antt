use Rattle.exchange.proofs.KeepLaws.{sought_start, sought_again, sought_end}
use borrow.Author.Rules.{rules}
use Rattle.exchange.proofs.first_list.FirstList.keep.Goals as goal

pub loop-j-init : goal.loop-j-init
loop-j-init c = search (rules, sought_start)

pub loop-j-preserved : goal.loop-j-preserved
loop-j-preserved c = search (rules, sought_again)

pub returns : goal.returns
returns c = search (rules, sought_end)
