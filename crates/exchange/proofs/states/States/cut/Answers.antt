use Rattle.exchange.proofs.ReadLaws.{cut_read}
use borrow.Author.Rules.{rules}
use Rattle.exchange.proofs.states.States.cut.Goals as goal

pub returns : goal.returns
returns c = search (rules, cut_read)
