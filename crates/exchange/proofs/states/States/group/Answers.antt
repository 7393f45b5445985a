use borrow.Author.Rules.{rules}
use Rattle.record.specs.Values.{primary_of}
use Rattle.replication.specs.Machine.Exchange.{same_pair}
use Rattle.exchange.specs.Folds.{Tells}
use Rattle.exchange.proofs.states.States.group.Goals as goal

pub returns : goal.returns
unfolding Tells
returns c = c.those.ensures (same_pair (primary_of c.args.p)) (λ k r l m e. search rules)
