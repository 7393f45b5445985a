use Rattle.state_check.proofs.QueueCode.{creator_inside, next_old, next_new}
use borrow.Author.Rules.{rules}
use Rattle.state_check.proofs.slots.SlotBytes.next_fits.Goals as goal

pub queue_slot_fits-requires : goal.queue_slot_fits-requires
queue_slot_fits-requires c = search (rules, creator_inside)

pub returns-then-is_new : goal.returns-then-is_new
returns-then-is_new c = search (rules, next_new)

pub returns-else-is_new : goal.returns-else-is_new
returns-else-is_new c = search (rules, next_old)
