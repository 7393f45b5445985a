use Rattle.install.proofs.TableLaws.{count_inside, filled_start, filled_again, filled_end}
use borrow.Author.Rules.{rules}
use Rattle.install.proofs.table.table.Goals as goal

pub num32-count-requires : goal.num32-count-requires
num32-count-requires c = search (rules, count_inside)

pub loop-k-init : goal.loop-k-init
loop-k-init c = search (rules, filled_start)

pub loop-k-preserved : goal.loop-k-preserved
loop-k-preserved c = search (rules, filled_again)

pub returns : goal.returns
returns c = search (rules, filled_end)
