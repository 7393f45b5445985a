use Rattle.image.proofs.Loaded.{state_loaded}
use borrow.Author.Rules.{rules}
use Rattle.image.proofs.header.load.Goals as goal

pub returns : goal.returns
returns c = search (rules, state_loaded)
