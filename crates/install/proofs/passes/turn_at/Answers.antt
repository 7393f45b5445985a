use Rattle.install.proofs.PassLaws.{turned_read}
use borrow.Author.Rules.{rules}
use Rattle.install.proofs.passes.turn_at.Goals as goal

pub returns : goal.returns
returns c = search (rules, turned_read)
