use Rattle.register_step.proofs.BurstCode.{next_is}
use borrow.Author.Rules.{rules}
use Rattle.register_step.proofs.take_next.Goals as goal

pub returns : goal.returns
returns c = search (rules, next_is)
