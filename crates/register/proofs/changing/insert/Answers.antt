use Rattle.register.proofs.Made.{inserted_made}
use borrow.Author.Rules.{rules}
use Rattle.register.proofs.changing.insert.Goals as goal

pub returns : goal.returns
returns c = search (rules, inserted_made)
