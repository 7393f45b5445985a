use borrow.Author.Rules.{rules}
use Rattle.replication.specs.Machine.Exchange.{is_valid}
use Rattle.exchange.specs.Folds.{Tells}
use Rattle.exchange.proofs.YellowLaws.{voters_made}
use Rattle.exchange.proofs.states.States.yellow_voters.Goals as goal

pub returns : goal.returns
unfolding Tells
returns c = voters_made _ _ _ _ _ _ _ c.taken_primary.ensures c.group-group.ensures (c.those.ensures is_valid (λ k r l m e. search rules))
