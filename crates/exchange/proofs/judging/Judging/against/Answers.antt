use Rattle.exchange.proofs.MarkLaws.{against_out, against_unmarked, against_told}
use borrow.Author.Rules.{rules}
use Rattle.exchange.proofs.judging.Judging.against.Goals as goal

pub returns-then-not-has : goal.returns-then-not-has
returns-then-not-has c = search (rules, against_out)

pub returns-then-x-ne1 : goal.returns-then-x-ne1
returns-then-x-ne1 c = search (rules, against_unmarked)

pub returns : goal.returns
returns c = search (rules, against_told)
