use Rattle.queue.proofs.ByteLaws.{shifted_made}
use borrow.Author.Rules.{rules}
use Rattle.queue.proofs.shifting.drop_slots.Goals as goal

pub returns : goal.returns
returns c = search (rules, shifted_made)
