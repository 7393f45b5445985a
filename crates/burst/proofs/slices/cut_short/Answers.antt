use Rattle.burst.proofs.NextLaws.{cut_first, cut_behind}
use borrow.Author.Rules.{rules}
use Rattle.burst.proofs.slices.cut_short.Goals as goal

pub returns-then-first : goal.returns-then-first
returns-then-first c = search (rules, cut_first)

pub returns-else-first : goal.returns-else-first
returns-else-first c = search (rules, cut_behind)
