use Rattle.register_check.proofs.Found.{found_few, found_room, refused_found, present_found, absent_found}
use borrow.Author.Rules.{rules}
use Rattle.register_check.proofs.find.Goals as goal

pub peg-requires : goal.peg-requires
peg-requires c = search (rules, found_few, found_room)

pub returns-in-Err : goal.returns-in-Err
returns-in-Err c = refused_found c.args.register.now c.args.name.now _ c.in-Err.refusal c.from.result c.from.ensures c.in-Err.ensures c.none.ensures

pub returns-in-Ok-search : goal.returns-in-Ok-search
returns-in-Ok-search c = search (rules, present_found)

pub returns-in-Err-search : goal.returns-in-Err-search
returns-in-Err-search c = search (rules, absent_found)
