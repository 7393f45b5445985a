use Rattle.state_check.proofs.SectionCode.{sum_again, sum_end}
use native.Mathlib.Omega.{arith}
use borrow.Author.Rules.{rules}
use Rattle.state_check.proofs.sections.sum_of.Goals as goal

pub loop-k-preserved : goal.loop-k-preserved
loop-k-preserved c = (omega arith, search (rules, sum_again))

pub returns : goal.returns
returns c = search (rules, sum_end)
