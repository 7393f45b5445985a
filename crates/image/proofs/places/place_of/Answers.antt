use Rattle.image.proofs.Counts.{sizes_read, place_read}
use borrow.Author.Rules.{rules}
use Rattle.image.proofs.places.place_of.Goals as goal

pub invariant_of-sizes : goal.invariant_of-sizes
invariant_of-sizes c = search (rules, sizes_read)

pub returns : goal.returns
returns c = search (rules, place_read)
