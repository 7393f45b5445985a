use Rattle.image.proofs.InPlace.{such_header}
use Rattle.exchange.proofs.DecidedLaws.{context_held, lists_held, yellow_told}
use borrow.Author.Rules.{rules}
use Rattle.exchange.proofs.decided.taken_yellow.Goals as goal

pub load-requires : goal.load-requires
load-requires c = search (rules, such_header)

pub taken_ids-requires : goal.taken_ids-requires
taken_ids-requires c = search (rules, context_held, lists_held)

pub returns : goal.returns
returns c = yellow_told _ _ _ c.held-states.ensures.slots c.held-states.ensures.bytes _ _ c.taken_ids.ensures
