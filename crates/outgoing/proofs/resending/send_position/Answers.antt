use Rattle.outgoing.proofs.ResendingLaws.{position_end, position_sent}
use borrow.Author.Rules.{rules}
use Rattle.outgoing.proofs.resending.send_position.Goals as goal

pub green_slot-requires : goal.green_slot-requires
green_slot-requires c = search (rules, position_end)

pub returns : goal.returns
returns c = search (rules, position_sent)
