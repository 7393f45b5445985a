use Rattle.register.proofs.Made.{removed_made}
use borrow.Author.Rules.{rules}
use Rattle.register.proofs.changing.remove.Goals as goal

pub returns : goal.returns
returns c = search (rules, removed_made)
