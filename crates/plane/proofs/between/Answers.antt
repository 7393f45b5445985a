use Rattle.plane.proofs.Tests.{between_on, between_off}
use borrow.Author.Rules.{rules}
use Rattle.plane.proofs.between.Goals as goal

pub returns-then-low-z : goal.returns-then-low-z
returns-then-low-z c = search (rules, between_on)

pub returns-else-low-z : goal.returns-else-low-z
returns-else-low-z c = search (rules, between_off)
