use Rattle.updates.proofs.Changes.{stores_more}
use borrow.Author.Rules.{rules}
use Rattle.updates.proofs.recovery.put_entered.Goals as goal

pub returns : goal.returns
returns c = search (rules, stores_more)
