use Rattle.register_queries.proofs.Given.{disc_given}
use borrow.Author.Rules.{rules}
use Rattle.register_queries.proofs.in_radius.Goals as goal

pub returns : goal.returns
returns c = search (rules, disc_given)
