use Rattle.register_queries.proofs.Given.{disc_given}
use borrow.Author.Rules.{rules}
use Rattle.guzbytor.proofs.guzbytor_register_radius.Goals as goal

pub returns : goal.returns
returns c = search (rules, disc_given)
