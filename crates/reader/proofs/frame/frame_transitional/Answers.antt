use Rattle.reader.proofs.Frames.{bad, transitional_good}
use Rattle.format.specs.Read.{length_for}
use Rattle.format.specs.Types.{of_transitional}
use native.Mathlib.Omega.{arith}
use borrow.Author.Rules.{rules}
use Rattle.reader.proofs.frame.frame_transitional.Goals as goal

pub returns-then-e-ne-TRANSITIONAL_SIZE : goal.returns-then-e-ne-TRANSITIONAL_SIZE
unfolding length_for
returns-then-e-ne-TRANSITIONAL_SIZE c = λ n. bad of_transitional n _ (λ z. omega arith)

pub returns : goal.returns
returns c = search (rules, transitional_good)
