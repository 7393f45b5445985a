use mathlib.Core.Bool.{true}
use borrow.Author.Rules.{rules}
use Rattle.exchange.specs.Folds.{Tells}
use Rattle.exchange.proofs.FoldLaws.{first_of}
use Rattle.exchange.proofs.states.States.first.Goals as goal

pub returns : goal.returns
unfolding Tells
returns c = first_of _ _ _ (c.find.ensures.found (λ _. true) (λ k r l m e. search rules))
