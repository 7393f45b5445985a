use Rattle.exchange.proofs.CommonLaws.{kept_made}
use borrow.Author.Rules.{rules}
use Rattle.exchange.proofs.common.common_of.Goals as goal

pub returns : goal.returns
returns c = search (rules, kept_made)
