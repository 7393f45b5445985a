use borrow.Author.Rules.{rules}
use Rattle.exchange.proofs.MarkLaws.{mark_read, join_not, join_yes}
use Rattle.exchange.proofs.judging.Judging.joined.Goals as goal

pub returns-then-likewise : goal.returns-then-likewise
returns-then-likewise c = λ own. search (rules, mark_read, join_yes)

pub returns-else-likewise : goal.returns-else-likewise
returns-else-likewise c = λ own. search (rules, mark_read, join_not)
