use Rattle.updates.proofs.StateLaws.{senders_with}
use borrow.Author.Rules.{rules}
use Rattle.updates.proofs.states.with_sender.Goals as goal

pub returns : goal.returns
returns c = search (rules, senders_with)
