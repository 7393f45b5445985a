use borrow.Author.Rules.{rules}
use Rattle.exchange.specs.Folds.{Tells}
use Rattle.exchange.proofs.PrimaryLaws.{attempt_made, attempt_read}
use Rattle.exchange.proofs.states.States.taken_attempt.Goals as goal

pub returns : goal.returns
unfolding Tells
returns c =
    attempt_made _ _ _ _ _ _ c.taken_primary.ensures c.group-group.ensures (c.highest.ensures (λ s. s.attempt) (λ k r l m e. search (rules, attempt_read)))
