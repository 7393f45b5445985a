use Rattle.register.proofs.Made.{widened_made}
use borrow.Author.Rules.{rules}
use Rattle.register.proofs.changing.widen.Goals as goal

pub returns : goal.returns
returns c = search (rules, widened_made)
