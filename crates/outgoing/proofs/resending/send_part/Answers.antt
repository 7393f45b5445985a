use Rattle.outgoing.proofs.PlanLaws.{lent_stated, plan_room, part_fits, part_length, part_bytes}
use borrow.Author.Rules.{rules}
use Rattle.outgoing.proofs.resending.send_part.Goals as goal

pub send_plan-requires : goal.send_plan-requires
send_plan-requires c = search (rules, lent_stated, plan_room)

pub overflow_cast-result : goal.overflow_cast-result
overflow_cast-result c = search (rules, part_fits)

pub returns : goal.returns
returns c = search (rules, part_length, part_bytes)
