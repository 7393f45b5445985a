use Rattle.queue.proofs.WhiteLaws.{slot_made, slot_low}
use borrow.Author.Rules.{rules}
use Rattle.queue.proofs.history.green_slot.Goals as goal

pub returns : goal.returns
returns c = search (rules, slot_made, slot_low)
