use borrow.Author.Rules.{rules}
use Rattle.outgoing.proofs.ResendingLaws.{sent_inside, sent_fits}
use Rattle.outgoing.proofs.PlanLaws.{reds_start, reds_creator, reds_room, reds_again, reds_end}
use Rattle.outgoing.proofs.resending.send_reds.Goals as goal

pub loop-c-init : goal.loop-c-init
loop-c-init c = search (rules, reds_start)

pub slice_bounds-send_red-start : goal.slice_bounds-send_red-start
slice_bounds-send_red-start c = search (rules, sent_inside)

pub send_red-sent-requires : goal.send_red-sent-requires
send_red-sent-requires c = search (rules, reds_creator, reds_room)

pub overflow_add-sent : goal.overflow_add-sent
overflow_add-sent c = search (rules, sent_fits)

pub loop-c-preserved : goal.loop-c-preserved
loop-c-preserved c = search (rules, reds_again)

pub returns : goal.returns
returns c = search (rules, reds_end)
