use borrow.Author.Rules.{rules}
use Rattle.exchange.specs.Folds.{Tells}
use Rattle.exchange.specs.Marks.{is_left}
use Rattle.exchange.specs.States.{sent}
use Rattle.exchange.proofs.JudgedLaws.{left_made}
use Rattle.exchange.proofs.judging.Judging.mark_left.Goals as goal

pub returns : goal.returns
unfolding Tells
returns c = left_made _ _ (c.any.ensures (is_left (sent c.args.self.now.states)) (λ k r l m e. search rules))
