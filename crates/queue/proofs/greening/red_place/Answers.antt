use Rattle.queue.proofs.Promoted.{reds_made}
use borrow.Author.Rules.{rules}
use Rattle.queue.proofs.greening.red_place.Goals as goal

pub returns : goal.returns
returns c = search (rules, reds_made)
