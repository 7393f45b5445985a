use Rattle.exchange.proofs.KeepLaws.{kept_written}
use borrow.Author.Rules.{rules}
use Rattle.exchange.proofs.common.put_kept.Goals as goal

pub returns : goal.returns
returns c = search (rules, kept_written)
