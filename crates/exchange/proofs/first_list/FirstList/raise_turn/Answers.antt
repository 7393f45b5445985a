use Rattle.base.proofs.Branches.{pick_answered, pick_denied}
use Rattle.exchange.proofs.RaiseLaws.{list_of}
use borrow.Author.Rules.{rules}
use Rattle.exchange.proofs.first_list.FirstList.raise_turn.Goals as goal

pub returns-then-not-has : goal.returns-then-not-has
returns-then-not-has c = search (rules, pick_denied)

pub raise_slot-requires : goal.raise_slot-requires
raise_slot-requires c = search (rules, list_of)

pub returns : goal.returns
returns c = search (rules, pick_answered)
