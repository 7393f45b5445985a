use Rattle.state_check.proofs.TallyCode.{tally_creator, tally_more, tally_again, tally_end}
use borrow.Author.Rules.{rules}
use Rattle.state_check.proofs.tally.tally.Goals as goal

pub bounds-t-creator : goal.bounds-t-creator
bounds-t-creator c = search (rules, tally_creator)

pub overflow_add-t : goal.overflow_add-t
overflow_add-t c = search (rules, tally_more)

pub bounds-t-creator-in-loop-k : goal.bounds-t-creator-in-loop-k
bounds-t-creator-in-loop-k c = search (rules, tally_creator)

pub loop-k-preserved : goal.loop-k-preserved
loop-k-preserved c = search (rules, tally_again)

pub returns : goal.returns
returns c = search (rules, tally_end)
