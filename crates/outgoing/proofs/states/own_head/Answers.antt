use borrow.Author.Rules.{rules}
use Rattle.outgoing.specs.Sending.{own_head}
use Rattle.outgoing.proofs.states.own_head.Goals as goal

pub returns : goal.returns
unfolding own_head
returns c = search rules
