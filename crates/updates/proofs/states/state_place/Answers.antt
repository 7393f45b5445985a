use Rattle.image.proofs.Counts.{sizes_read}
use Rattle.updates.proofs.StateLaws.{state_place_read, state_place_fits}
use borrow.Author.Rules.{rules}
use Rattle.updates.proofs.states.state_place.Goals as goal

pub invariant_of-sizes : goal.invariant_of-sizes
invariant_of-sizes c = search (rules, sizes_read)

pub overflow_add-result : goal.overflow_add-result
overflow_add-result c = search (rules, state_place_fits)

pub returns : goal.returns
returns c = search (rules, state_place_read)
