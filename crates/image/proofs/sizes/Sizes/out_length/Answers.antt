use Rattle.image.proofs.SizeLaws.{out_length_made}
use borrow.Author.Rules.{rules}
use Rattle.image.proofs.sizes.Sizes.out_length.Goals as goal

pub returns : goal.returns
returns c = search (rules, out_length_made)
