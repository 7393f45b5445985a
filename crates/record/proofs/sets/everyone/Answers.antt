use Rattle.record.proofs.Start.{some_shifted, everyone_fits, everyone_made}
use borrow.Author.Rules.{rules}
use Rattle.record.proofs.sets.everyone.Goals as goal

pub overflow_sub-result : goal.overflow_sub-result
overflow_sub-result c = search (rules, some_shifted)

pub overflow_cast-result : goal.overflow_cast-result
overflow_cast-result c = search (rules, everyone_fits)

pub returns : goal.returns
returns c = search (rules, everyone_made)
