use Rattle.record.proofs.Ranges.{inside_none, inside_some}
use borrow.Author.Rules.{rules}
use Rattle.record.proofs.range.inside_last.Goals as goal

pub returns-then-c-eq0 : goal.returns-then-c-eq0
returns-then-c-eq0 c = search (rules, inside_none)

pub returns-else-c-eq0 : goal.returns-else-c-eq0
returns-else-c-eq0 c = search (rules, inside_some)
