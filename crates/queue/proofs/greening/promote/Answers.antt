use Rattle.queue.proofs.ByteLaws.{promoted_made}
use borrow.Author.Rules.{rules}
use Rattle.queue.proofs.greening.promote.Goals as goal

pub returns : goal.returns
returns c = search (rules, promoted_made)
