use Rattle.updates.proofs.Changes.{two_stores}
use borrow.Author.Rules.{rules}
use Rattle.updates.proofs.yellow.add_id.Goals as goal

pub returns : goal.returns
returns c = search (rules, two_stores)
