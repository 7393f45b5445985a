use borrow.Author.Rules.{rules}
use Rattle.register_check.proofs.Found.{none_located}
use Rattle.register_check.proofs.RegisterFind.none.Goals as goal

pub returns : goal.returns
returns c = search (rules, none_located)
