use borrow.Author.Rules.{rules}
use Rattle.exchange.proofs.JudgedLaws.{left_told}
use Rattle.exchange.proofs.judging.Judging.is_left.Goals as goal

pub returns : goal.returns
returns c = search (rules, left_told)
