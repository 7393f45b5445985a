use Rattle.exchange.proofs.PrimaryLaws.{last_read}
use borrow.Author.Rules.{rules}
use Rattle.exchange.proofs.states.States.last.Goals as goal

pub returns : goal.returns
returns c = search (rules, last_read)
