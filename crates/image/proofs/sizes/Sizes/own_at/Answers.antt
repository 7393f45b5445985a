use Rattle.image.proofs.PlaceLaws.{own_place}
use borrow.Author.Rules.{rules}
use Rattle.image.proofs.sizes.Sizes.own_at.Goals as goal

pub returns : goal.returns
returns c = search (rules, own_place)
