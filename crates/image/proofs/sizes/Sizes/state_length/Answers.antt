use Rattle.image.proofs.SizeLaws.{state_length_made}
use borrow.Author.Rules.{rules}
use Rattle.image.proofs.sizes.Sizes.state_length.Goals as goal

pub returns : goal.returns
returns c = search (rules, state_length_made)
