use Rattle.reader.proofs.Frames.{bad, recovery_good}
use Rattle.format.specs.Read.{length_for}
use Rattle.format.specs.Types.{of_recovery}
use native.Mathlib.Omega.{arith}
use borrow.Author.Rules.{rules}
use Rattle.reader.proofs.frame.frame_recovery.Goals as goal

pub returns-then-e-ne-RECOVERY_SIZE : goal.returns-then-e-ne-RECOVERY_SIZE
unfolding length_for
returns-then-e-ne-RECOVERY_SIZE c = λ n. bad of_recovery n _ (λ z. omega arith)

pub returns : goal.returns
returns c = search (rules, recovery_good)
