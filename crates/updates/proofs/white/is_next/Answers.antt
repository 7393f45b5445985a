use Rattle.updates.proofs.WhiteLaws.{cut_inside, next_told}
use borrow.Author.Rules.{rules}
use Rattle.updates.proofs.white.is_next.Goals as goal

pub num16-cut-requires : goal.num16-cut-requires
num16-cut-requires c = search (rules, cut_inside)

pub returns : goal.returns
returns c = search (rules, next_told)
