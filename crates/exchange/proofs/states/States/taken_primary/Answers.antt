use borrow.Author.Rules.{rules}
use Rattle.exchange.specs.Folds.{Steps}
use Rattle.exchange.proofs.PrimaryLaws.{chosen, chosen_made, taken_made, taken_none}
use Rattle.exchange.proofs.states.States.taken_primary.Goals as goal

pub returns-in-None : goal.returns-in-None
returns-in-None c = search (rules, taken_none)

pub returns-in-Some : goal.returns-in-Some
unfolding Steps
returns-in-Some c = taken_made _ _ _ _ _ c.in-Some.ensures c.last.ensures (c.fold.ensures chosen (λ p k r l m e. search (rules, chosen_made)))
