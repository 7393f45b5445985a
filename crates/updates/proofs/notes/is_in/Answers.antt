use Rattle.updates.proofs.StateLaws.{senders_told}
use borrow.Author.Rules.{rules}
use Rattle.updates.proofs.notes.is_in.Goals as goal

pub returns : goal.returns
returns c = search (rules, senders_told)
