use Rattle.exchange.proofs.RaiseLaws.{slot_list_inside, slot_raised}
use borrow.Author.Rules.{rules}
use Rattle.exchange.proofs.first_list.FirstList.raise_slot.Goals as goal

pub raise_list-requires : goal.raise_list-requires
raise_list-requires c = search (rules, slot_list_inside)

pub returns : goal.returns
returns c = search (rules, slot_raised)
