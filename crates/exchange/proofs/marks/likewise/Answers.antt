use Rattle.exchange.proofs.MarkLaws.{like_unmarked, like_other, like_told}
use borrow.Author.Rules.{rules}
use Rattle.exchange.proofs.marks.likewise.Goals as goal

pub returns-then-o-ne1 : goal.returns-then-o-ne1
returns-then-o-ne1 c = search (rules, like_unmarked)

pub returns-then-not-same_attempt : goal.returns-then-not-same_attempt
returns-then-not-same_attempt c = search (rules, like_other)

pub returns : goal.returns
returns c = search (rules, like_told)
