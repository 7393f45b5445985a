use borrow.Author.Rules.{rules}
use Rattle.record.proofs.Turns.{place_there, met_out, met_first, met_again}
use Rattle.record.proofs.lists.Ids.is_new.Goals as goal

pub returns-in_default : goal.returns-in_default
returns-in_default c = search (rules, met_out)

pub bounds-met-p : goal.bounds-met-p
bounds-met-p c = search (rules, place_there)

pub returns-then-met-p-gt0 : goal.returns-then-met-p-gt0
returns-then-met-p-gt0 c = search (rules, met_again)

pub bounds-met-p-2 : goal.bounds-met-p-2
bounds-met-p-2 c = search (rules, place_there)

pub returns : goal.returns
returns c = search (rules, met_first)
