use Rattle.state_check.proofs.NumberAnswer.{brief_short, state_measured}
use borrow.Author.Rules.{rules}
use Rattle.state_check.proofs.state_short.Goals as goal

pub returns-then-state-lt-SIZE : goal.returns-then-state-lt-SIZE
returns-then-state-lt-SIZE c = search (rules, brief_short)

pub returns : goal.returns
returns c = search (rules, state_measured)
