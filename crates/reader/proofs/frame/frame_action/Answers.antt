use Rattle.reader.proofs.Frames.{bad, action_good}
use Rattle.format.specs.Read.{length_for}
use Rattle.format.specs.Types.{of_action}
use native.Mathlib.Omega.{arith}
use borrow.Author.Rules.{rules}
use Rattle.reader.proofs.frame.frame_action.Goals as goal

pub returns-then-e-lt-ACTION_SIZE : goal.returns-then-e-lt-ACTION_SIZE
unfolding length_for
returns-then-e-lt-ACTION_SIZE c = λ n. bad of_action n _ (λ z. omega arith)

pub returns-then-m-e : goal.returns-then-m-e
unfolding length_for
returns-then-m-e c = λ n. bad of_action n _ (λ z. omega arith)

pub returns : goal.returns
returns c = search (rules, action_good)
