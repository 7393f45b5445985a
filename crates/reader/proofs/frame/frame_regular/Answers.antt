use Rattle.reader.proofs.Frames.{bad, regular_good}
use Rattle.format.specs.Read.{length_for}
use Rattle.format.specs.Types.{of_regular}
use native.Mathlib.Omega.{arith}
use borrow.Author.Rules.{rules}
use Rattle.reader.proofs.frame.frame_regular.Goals as goal

pub returns-then-e-ne-REGULAR_SIZE : goal.returns-then-e-ne-REGULAR_SIZE
unfolding length_for
returns-then-e-ne-REGULAR_SIZE c = λ n. bad of_regular n _ (λ z. omega arith)

pub returns : goal.returns
returns c = search (rules, regular_good)
