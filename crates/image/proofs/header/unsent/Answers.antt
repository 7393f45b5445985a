use Rattle.image.proofs.Unsent.{unsent_are}
use borrow.Author.Rules.{rules}
use Rattle.image.proofs.header.unsent.Goals as goal

pub returns : goal.returns
returns c = search (rules, unsent_are)
