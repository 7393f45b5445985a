use Rattle.step.proofs.JoinLaws.{join_done}
use Rattle.outgoing.proofs.LentLaws.{lent_header}
use borrow.Author.Rules.{rules}
use Rattle.step.proofs.joining.join.Goals as goal

pub enter_exchange-requires : goal.enter_exchange-requires
enter_exchange-requires c = search (rules, lent_header)

pub returns : goal.returns
returns c = search (rules, join_done)
