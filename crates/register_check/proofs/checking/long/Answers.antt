use Rattle.register_check.proofs.CheckCode.{eight_read}
use borrow.Author.Rules.{rules}
use Rattle.register_check.proofs.checking.long.Goals as goal

pub returns : goal.returns
returns c = search (rules, eight_read)
