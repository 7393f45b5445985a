use Rattle.reader.proofs.Frames.{bad, cpc_good}
use Rattle.format.specs.Read.{length_for}
use Rattle.format.specs.Types.{of_cpc}
use native.Mathlib.Omega.{arith}
use borrow.Author.Rules.{rules}
use Rattle.reader.proofs.frame.frame_cpc.Goals as goal

pub returns-then-e-ne-CPC_SIZE : goal.returns-then-e-ne-CPC_SIZE
unfolding length_for
returns-then-e-ne-CPC_SIZE c = λ n. bad of_cpc n _ (λ z. omega arith)

pub returns : goal.returns
returns c = search (rules, cpc_good)
