use Rattle.reader.proofs.Frames.{bad, retransmission_good}
use Rattle.format.specs.Read.{length_for}
use Rattle.format.specs.Types.{of_retransmission}
use native.Mathlib.Omega.{arith}
use borrow.Author.Rules.{rules}
use Rattle.reader.proofs.frame.frame_retransmission.Goals as goal

pub returns-then-e-lt-RETRANSMISSION_SIZE : goal.returns-then-e-lt-RETRANSMISSION_SIZE
unfolding length_for
returns-then-e-lt-RETRANSMISSION_SIZE c = λ n. bad of_retransmission n _ (λ z. omega arith)

pub returns-then-m-e : goal.returns-then-m-e
unfolding length_for
returns-then-m-e c = λ n. bad of_retransmission n _ (λ z. omega arith)

pub returns : goal.returns
returns c = search (rules, retransmission_good)
