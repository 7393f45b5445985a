use Rattle.image.proofs.PlaceLaws.{yellow_place}
use borrow.Author.Rules.{rules}
use Rattle.image.proofs.sizes.Sizes.yellow_at.Goals as goal

pub returns : goal.returns
returns c = search (rules, yellow_place)
