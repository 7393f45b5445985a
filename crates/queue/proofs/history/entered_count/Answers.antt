use Rattle.queue.proofs.WhiteLaws.{sum_start, sum_next, sum_end}
use native.Mathlib.Omega.{arith}
use borrow.Author.Rules.{rules}
use Rattle.queue.proofs.history.entered_count.Goals as goal

pub loop-k-init : goal.loop-k-init
loop-k-init c = search (rules, sum_start)

pub loop-k-preserved : goal.loop-k-preserved
loop-k-preserved c = sum_next _ _ _ _ _ (search rules) (search rules) (search rules) (omega arith)

pub returns-clause-value : goal.returns-clause-value
returns-clause-value c = search (rules, sum_end)
