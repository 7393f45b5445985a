use Rattle.step.proofs.RequestEventLaws.{quota_used_lem, request_ready, request_taken}
use Rattle.outgoing.proofs.LentLaws.{lent_counts}
use borrow.Author.Rules.{rules}
use Rattle.step.proofs.events.on_request.Goals as goal

pub count_of-requires : goal.count_of-requires
count_of-requires c = search (rules, lent_counts)

pub returns-then-not-quota_left : goal.returns-then-not-quota_left
returns-then-not-quota_left c = search (rules, quota_used_lem)

pub request-requires : goal.request-requires
request-requires c = search (rules, request_ready)

pub returns : goal.returns
returns c = search (rules, request_taken)
