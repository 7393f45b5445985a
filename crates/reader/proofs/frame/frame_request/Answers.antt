use Rattle.reader.proofs.Frames.{bad, request_good}
use Rattle.format.specs.Read.{length_for}
use Rattle.format.specs.Types.{of_request}
use native.Mathlib.Omega.{arith}
use borrow.Author.Rules.{rules}
use Rattle.reader.proofs.frame.frame_request.Goals as goal

pub returns-then-e-lt-REQUEST_SIZE : goal.returns-then-e-lt-REQUEST_SIZE
unfolding length_for
returns-then-e-lt-REQUEST_SIZE c = λ n. bad of_request n _ (λ z. omega arith)

pub returns-then-m-e : goal.returns-then-m-e
unfolding length_for
returns-then-m-e c = λ n. bad of_request n _ (λ z. omega arith)

pub returns : goal.returns
returns c = search (rules, request_good)
