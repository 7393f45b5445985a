use Rattle.exchange.proofs.JudgedLaws.{quorum_left, quorum_few, quorum_index, quorum_told}
use borrow.Author.Rules.{rules}
use Rattle.exchange.proofs.judging.Judging.quorum.Goals as goal

pub returns-then-mark_left : goal.returns-then-mark_left
returns-then-mark_left c = search (rules, quorum_left)

pub returns-then-not-linear_vote : goal.returns-then-not-linear_vote
returns-then-not-linear_vote c = search (rules, quorum_few)

pub returns-then-p-ge-MOST_INDEX : goal.returns-then-p-ge-MOST_INDEX
returns-then-p-ge-MOST_INDEX c = search (rules, quorum_index)

pub returns : goal.returns
returns c = search (rules, quorum_told)
