use Rattle.plane.proofs.Tests.{rise_on, rise_off}
use borrow.Author.Rules.{rules}
use Rattle.plane.proofs.Rectangle.sides_rise.Goals as goal

pub returns-then-self : goal.returns-then-self
returns-then-self c = search (rules, rise_on)

pub returns-else-self : goal.returns-else-self
returns-else-self c = search (rules, rise_off)
