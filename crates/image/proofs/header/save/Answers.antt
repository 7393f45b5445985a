use Rattle.image.proofs.Saved.{header_saved}
use borrow.Author.Rules.{rules}
use Rattle.image.proofs.header.save.Goals as goal

pub returns : goal.returns
returns c = search (rules, header_saved)
