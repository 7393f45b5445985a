use Rattle.updates.proofs.Changes.{three_stores}
use borrow.Author.Rules.{rules}
use Rattle.updates.proofs.requests.push_own.Goals as goal

pub returns : goal.returns
returns c = search (rules, three_stores)
