use Rattle.register.proofs.Made.{name_put}
use borrow.Author.Rules.{rules}
use Rattle.register.proofs.changing.put_name.Goals as goal

pub returns : goal.returns
returns c = search (rules, name_put)
