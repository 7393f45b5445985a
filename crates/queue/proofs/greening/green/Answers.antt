use Rattle.queue.proofs.GreenLaws.{ready_room, ready_counts, green_made}
use borrow.Author.Rules.{rules}
use Rattle.queue.proofs.greening.green.Goals as goal

pub red-requires : goal.red-requires
red-requires c = search (rules, ready_room)

pub green_id-requires : goal.green_id-requires
green_id-requires c = ready_counts _ _ _ _ c.requires c.red.ensures

pub returns : goal.returns
returns c = green_made _ _ _ _ _ c.red.ensures _ c.id.ensures c.green_id.ensures
