use Rattle.record.specs.Context.{context_of}
use Rattle.state_check.specs.Slots.{noted_fit}
use Rattle.state_check.proofs.Loops.{each_again, each_denied, each_end}
use borrow.Author.Rules.{rules}
use Rattle.state_check.proofs.slots.noted_fit.Goals as goal

pub returns-then-not-noted_at : goal.returns-then-not-noted_at
unfolding noted_fit context_of
returns-then-not-noted_at c = search (rules, each_denied)

pub loop-k-preserved : goal.loop-k-preserved
loop-k-preserved c = search (rules, each_again)

pub returns : goal.returns
unfolding noted_fit context_of
returns c = search (rules, each_end)
