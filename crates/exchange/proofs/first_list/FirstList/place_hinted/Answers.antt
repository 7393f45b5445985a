use Rattle.exchange.proofs.PlaceLaws.{among_stands}
use Rattle.record.proofs.Turns.{small}
use Rattle.exchange.proofs.HintLaws.{hint_inside, hint_offset, hint_absent}
use borrow.Author.Rules.{rules}
use Rattle.exchange.proofs.first_list.FirstList.place_hinted.Goals as goal

pub returns-in_default : goal.returns-in_default
returns-in_default c = among_stands _ _ _ _ _ _ c.id_at-id.ensures c.search.ensures

pub offset_bounds-self-p : goal.offset_bounds-self-p
offset_bounds-self-p c = search (rules, hint_offset, small)

pub bounds-self-p : goal.bounds-self-p
bounds-self-p c = search (rules, hint_inside, small)

pub returns-then-k-lt1 : goal.returns-then-k-lt1
returns-then-k-lt1 c = search (rules, hint_absent)

pub returns : goal.returns
returns c = among_stands _ _ _ _ _ _ c.id_at-id.ensures c.search_from.ensures
