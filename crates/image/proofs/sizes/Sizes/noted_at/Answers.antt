use Rattle.image.proofs.PlaceLaws.{noted_place}
use borrow.Author.Rules.{rules}
use Rattle.image.proofs.sizes.Sizes.noted_at.Goals as goal

pub returns : goal.returns
returns c = search (rules, noted_place)
