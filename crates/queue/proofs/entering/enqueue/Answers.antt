use Rattle.queue.proofs.ByteLaws.{queued_made}
use borrow.Author.Rules.{rules}
use Rattle.queue.proofs.entering.enqueue.Goals as goal

pub returns : goal.returns
returns c = search (rules, queued_made)
