use Rattle.plane.proofs.Tests.{in_inside, in_within}
use borrow.Author.Rules.{rules}
use Rattle.plane.proofs.Region.contains.Goals as goal

pub returns-in-Inside : goal.returns-in-Inside
returns-in-Inside c = search (rules, in_inside)

pub returns-in-Within : goal.returns-in-Within
returns-in-Within c = search (rules, in_within)
