use Rattle.register_queries.proofs.Given.{nearest_point}
use borrow.Author.Rules.{rules}
use Rattle.guzbytor.proofs.guzbytor_register_nearest.Goals as goal

pub returns : goal.returns
returns c = search (rules, nearest_point)
