use Rattle.install.proofs.Swapped.{exchange_made}
use borrow.Author.Rules.{rules}
use Rattle.install.proofs.swapping.exchange.Goals as goal

pub returns : goal.returns
returns c = search (rules, exchange_made)
