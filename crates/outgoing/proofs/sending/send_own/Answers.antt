use Rattle.outgoing.proofs.WaitingLaws.{own_short, own_inside, own_sent}
use borrow.Author.Rules.{rules}
use Rattle.outgoing.proofs.sending.send_own.Goals as goal

pub payload-requires : goal.payload-requires
payload-requires c = search (rules, own_short, own_inside)

pub returns : goal.returns
returns c = search (rules, own_sent)
