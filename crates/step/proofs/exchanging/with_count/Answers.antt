use Rattle.exchange.specs.Decided.{votes_numbers}
use Rattle.updates.specs.Standing.{vote_numbers}
use mathlib.Core.Path.{refl}
use Rattle.step.proofs.exchanging.with_count.Goals as goal

pub returns : goal.returns
unfolding vote_numbers votes_numbers
returns c = λ w e f. rw (e, f) refl
