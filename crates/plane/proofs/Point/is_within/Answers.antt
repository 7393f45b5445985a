use Rattle.plane.proofs.Squares.{within_is}
use borrow.Author.Rules.{rules}
use Rattle.plane.proofs.Point.is_within.Goals as goal

pub returns : goal.returns
returns c = search (rules, within_is)
