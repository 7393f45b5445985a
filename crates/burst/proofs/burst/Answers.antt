use Rattle.burst.proofs.BurstCode.{burst_refused, burst_ready}
use Rattle.step.proofs.ReadingLaws.{above_zero}
use borrow.Author.Rules.{rules}
use Rattle.burst.proofs.burst.Goals as goal

pub returns-in-Ok : goal.returns-in-Ok
returns-in-Ok c = search (rules, burst_ready)

pub returns-in-Err : goal.returns-in-Err
returns-in-Err c = search (rules, burst_refused, above_zero)
