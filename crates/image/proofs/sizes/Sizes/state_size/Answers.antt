use Rattle.image.proofs.PlaceLaws.{size_made}
use borrow.Author.Rules.{rules}
use Rattle.image.proofs.sizes.Sizes.state_size.Goals as goal

pub returns : goal.returns
returns c = search (rules, size_made)
