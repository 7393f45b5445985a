use Rattle.register_queries.proofs.Given.{rectangle_given}
use borrow.Author.Rules.{rules}
use Rattle.guzbytor.proofs.guzbytor_register_rectangle.Goals as goal

pub returns : goal.returns
returns c = search (rules, rectangle_given)
