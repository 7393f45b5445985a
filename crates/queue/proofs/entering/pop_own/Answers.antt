use Rattle.queue.proofs.ByteLaws.{popped_made}
use borrow.Author.Rules.{rules}
use Rattle.queue.proofs.entering.pop_own.Goals as goal

pub returns : goal.returns
returns c = search (rules, popped_made)
