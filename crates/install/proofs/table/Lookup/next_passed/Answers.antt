use Rattle.install.proofs.NextLaws.{next_start, next_again, next_inside, next_end}
use borrow.Author.Rules.{rules}
use Rattle.install.proofs.table.Lookup.next_passed.Goals as goal

pub loop-k-init : goal.loop-k-init
loop-k-init c = search (rules, next_start)

pub nearer-found-requires-clause-found : goal.nearer-found-requires-clause-found
nearer-found-requires-clause-found c = search (rules, next_inside)

pub loop-k-preserved : goal.loop-k-preserved
loop-k-preserved c = search (rules, next_again)

pub returns : goal.returns
returns c = search (rules, next_end)
