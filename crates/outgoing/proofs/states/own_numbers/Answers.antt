use Rattle.outgoing.proofs.StateLaws.{numbers_taken}
use borrow.Author.Rules.{rules}
use Rattle.outgoing.proofs.states.own_numbers.Goals as goal

pub returns : goal.returns
returns c = search (rules, numbers_taken)
