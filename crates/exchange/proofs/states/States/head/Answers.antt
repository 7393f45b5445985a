use Rattle.exchange.proofs.ReadLaws.{head_made}
use borrow.Author.Rules.{rules}
use Rattle.exchange.proofs.states.States.head.Goals as goal

pub returns : goal.returns
returns c = search (rules, head_made)
