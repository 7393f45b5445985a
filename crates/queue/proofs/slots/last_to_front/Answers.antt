use Rattle.queue.proofs.MoveLaws.{to_front}
use borrow.Author.Rules.{rules}
use Rattle.queue.proofs.slots.last_to_front.Goals as goal

pub returns : goal.returns
returns c = search (rules, to_front)
