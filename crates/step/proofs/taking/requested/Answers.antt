use Rattle.step.proofs.TakingLaws.{requested_ready, requested_done}
use borrow.Author.Rules.{rules}
use Rattle.step.proofs.taking.requested.Goals as goal

pub on_request-requires : goal.on_request-requires
on_request-requires c = search (rules, requested_ready)

pub returns : goal.returns
returns c = search (rules, requested_done)
