use Rattle.plane.proofs.Squares.{distance_is}
use borrow.Author.Rules.{rules}
use Rattle.plane.proofs.Point.squared_distance.Goals as goal

pub returns : goal.returns
returns c = search (rules, distance_is)
