use Rattle.image.proofs.PlaceLaws.{states_place}
use borrow.Author.Rules.{rules}
use Rattle.image.proofs.sizes.Sizes.states_at.Goals as goal

pub returns : goal.returns
returns c = search (rules, states_place)
