use Rattle.queue.proofs.ByteLaws.{appended_made}
use borrow.Author.Rules.{rules}
use Rattle.queue.proofs.entering.append.Goals as goal

pub returns : goal.returns
returns c = search (rules, appended_made)
