use Rattle.outgoing.proofs.ResendingLaws.{slot_short, slot_inside, slot_sent}
use borrow.Author.Rules.{rules}
use Rattle.outgoing.proofs.resending.send_slot.Goals as goal

pub payload-requires : goal.payload-requires
payload-requires c = search (rules, slot_short, slot_inside)

pub returns : goal.returns
returns c = search (rules, slot_sent)
