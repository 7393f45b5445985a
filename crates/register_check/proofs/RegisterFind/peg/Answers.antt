use Rattle.register_check.proofs.Found.{peg_located}
use borrow.Author.Rules.{rules}
use Rattle.register_check.proofs.RegisterFind.peg.Goals as goal

pub returns : goal.returns
returns c = search (rules, peg_located)
