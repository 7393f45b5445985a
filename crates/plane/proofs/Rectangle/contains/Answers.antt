use Rattle.plane.proofs.Tests.{inside_on, inside_off}
use borrow.Author.Rules.{rules}
use Rattle.plane.proofs.Rectangle.contains.Goals as goal

pub returns-then-between : goal.returns-then-between
returns-then-between c = search (rules, inside_on)

pub returns-else-between : goal.returns-else-between
returns-else-between c = search (rules, inside_off)
