use Rattle.outgoing.proofs.PlanLaws.{stated_some, green_none, positions_in, green_room, green_sent}
use borrow.Author.Rules.{rules}
use Rattle.outgoing.proofs.resending.send_green.Goals as goal

pub resends_green-requires : goal.resends_green-requires
resends_green-requires c = search (rules, stated_some)

pub returns-in_default : goal.returns-in_default
returns-in_default c = search (rules, green_none)

pub send_positions-requires : goal.send_positions-requires
send_positions-requires c = (search (rules, positions_in), search (rules, green_room))

pub returns : goal.returns
returns c = search (rules, green_sent)
