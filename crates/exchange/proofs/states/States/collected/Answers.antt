use borrow.Author.Rules.{rules}
use Rattle.exchange.proofs.RoomLaws.{slots_made, space_made}
use Rattle.exchange.proofs.states.States.collected.Goals as goal

pub invariant_of-result : goal.invariant_of-result
invariant_of-result c = search (rules, space_made)

pub returns-clause-slots : goal.returns-clause-slots
returns-clause-slots c = search (rules, slots_made)
