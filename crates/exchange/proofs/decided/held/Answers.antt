use Rattle.image.proofs.InPlace.{such_header}
use Rattle.exchange.proofs.DecidedLaws.{sizes_held, space_slots, slots_told}
use borrow.Author.Rules.{rules}
use Rattle.exchange.proofs.decided.held.Goals as goal

pub load-h-requires : goal.load-h-requires
load-h-requires c = search (rules, such_header)

pub collected-requires : goal.collected-requires
collected-requires c = search (rules, sizes_held, space_slots)

pub returns-clause-slots : goal.returns-clause-slots
returns-clause-slots c = search (rules, slots_told)
