use Rattle.register.proofs.Made.{replaced_made}
use borrow.Author.Rules.{rules}
use Rattle.register.proofs.changing.replace.Goals as goal

pub returns : goal.returns
returns c = search (rules, replaced_made)
