use Rattle.state_check.proofs.NumberAnswer.{header_told, state_brief, out_brief, both_bad, both_good}
use borrow.Author.Rules.{rules}
use Rattle.state_check.proofs.check_buffers.Goals as goal
use Rattle.state_check.proofs.check_buffers.Goals.{then-state_short-via-then-state_short, then-state_short-via-else-state_short+then-out_short}

pub out_short-requires : goal.out_short-requires
out_short-requires c = search (rules, header_told)

pub returns-then-state_short : goal.returns-then-state_short
returns-then-state_short c =
    elim c.then-state_short.branch [
      | then-state_short-via-then-state_short w ↦ search (rules, state_brief)
      | then-state_short-via-else-state_short+then-out_short w ↦ search (rules, out_brief)
    ]

pub returns-then-not-reads : goal.returns-then-not-reads
returns-then-not-reads c = search (rules, both_bad)

pub returns : goal.returns
returns c = search (rules, both_good)
