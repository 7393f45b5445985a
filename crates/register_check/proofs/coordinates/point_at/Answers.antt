use Rattle.register_check.proofs.Found.{point_read}
use borrow.Author.Rules.{rules}
use Rattle.register_check.proofs.coordinates.point_at.Goals as goal

pub returns : goal.returns
returns c = search (rules, point_read)
