use Rattle.exchange.proofs.YellowLaws.{valid_told}
use borrow.Author.Rules.{rules}
use Rattle.exchange.proofs.states.States.is_valid.Goals as goal

pub returns : goal.returns
returns c = search (rules, valid_told)
