use Rattle.outgoing.proofs.PlanLaws.{stated_some, green_first, reds_behind, plan_sent}
use Rattle.outgoing.proofs.ResendingLaws.{sent_inside, sent_fits}
use borrow.Author.Rules.{rules}
use Rattle.outgoing.proofs.resending.send_plan.Goals as goal

pub send_green-green-requires : goal.send_green-green-requires
send_green-green-requires c = search (rules, green_first)

pub table-places-requires : goal.table-places-requires
table-places-requires c = search (rules, stated_some)

pub slice_bounds-send_reds-start : goal.slice_bounds-send_reds-start
slice_bounds-send_reds-start c = search (rules, sent_inside)

pub send_reds-requires : goal.send_reds-requires
send_reds-requires c = search (rules, reds_behind)

pub overflow_add-result : goal.overflow_add-result
overflow_add-result c = search (rules, sent_fits)

pub returns : goal.returns
returns c = search (rules, plan_sent)
