use Rattle.state_check.proofs.NumberAnswer.{out_measured}
use borrow.Author.Rules.{rules}
use Rattle.state_check.proofs.out_short.Goals as goal

pub returns : goal.returns
returns c = search (rules, out_measured)
