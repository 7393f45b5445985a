use Rattle.queue.proofs.RedLaws.{red_passed, red_taken}
use native.Mathlib.Omega.{arith}
use Rattle.queue.proofs.entering.red.Goals as goal

pub returns-then-from : goal.returns-then-from
returns-then-from c = red_taken _ _ _ _ c.num16-cut.ensures (omega arith) _ c.enter.ensures

pub returns-else-from : goal.returns-else-from
returns-else-from c = red_passed _ _ _ _ c.num16-cut.ensures (λ g. c.if-from.false (omega arith))
