use Rattle.queue.proofs.MoveLaws.{slot_read}
use borrow.Author.Rules.{rules}
use Rattle.queue.proofs.slots.slot_at.Goals as goal

pub returns : goal.returns
returns c = search (rules, slot_read)
