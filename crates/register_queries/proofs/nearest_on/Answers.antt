use Rattle.register_queries.proofs.Answers.{nearest_few, nearest_room, nearest_refused}
use Rattle.register_queries.proofs.Given.{nearest_given, none_given}
use borrow.Author.Rules.{rules}
use Rattle.register_queries.proofs.nearest_on.Goals as goal

pub peg-requires : goal.peg-requires
peg-requires c = search (rules, nearest_few, nearest_room)

pub returns-in-Err : goal.returns-in-Err
returns-in-Err c = nearest_refused c.args.register.now _ _ c.in-Err.refusal c.from.result c.from.ensures c.in-Err.ensures c.none.ensures

pub returns-in-Some : goal.returns-in-Some
returns-in-Some c = search (rules, nearest_given)

pub returns-in-None : goal.returns-in-None
returns-in-None c = search (rules, none_given)
