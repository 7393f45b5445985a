use Rattle.queue.proofs.MoveLaws.{slot_put_lem}
use borrow.Author.Rules.{rules}
use Rattle.queue.proofs.slots.put_slot.Goals as goal

pub returns : goal.returns
returns c = search (rules, slot_put_lem)
