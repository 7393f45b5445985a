use Rattle.install.proofs.Swapped.{green_at_made}
use borrow.Author.Rules.{rules}
use Rattle.install.proofs.swapping.green_at.Goals as goal

pub returns : goal.returns
returns c = search (rules, green_at_made)
